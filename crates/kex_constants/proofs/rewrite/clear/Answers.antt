use Rattle.std.proofs.Common.{◌++◌, None, length, get_or, map, ap, ◌∙◌, arith}
use Rattle.kex_constants.specs.Known.{item_if_kept}
use Rattle.kex_constants.specs.Clearing.{cleared_parts}
use Rattle.kex_constants.proofs.Lists.{kept_none, kept_more}
use Rattle.kex_constants.proofs.rewrite.clear.Goals as goal

pub loop-register-init : goal.loop-register-init
loop-register-init c = c.in_ok-regs.ensures.items ∙ ap (λ z. map (λ x. cleared_parts c.args.from.now x) z) (kept_none c.args.to.now)

pub loop-register-preserved : goal.loop-register-preserved
loop-register-preserved c =
    c.in_ok-put_list.ensures
    ∙ ap (λ z. z ++ map (λ x. cleared_parts c.args.from.now x) (item_if_kept (get_or c.args.to.now c.loop-register.register None) c.parts-item.result)) c.loop-register.invariant
    ∙ kept_more c.args.from.now c.args.to.now c.args.update.now.regs c.loop-register.register c.parts-item.result
    (omega (arith, c.loop-register-test.true, ap length c.regs-parts-items.ensures))
    (c.parts-item.is ∙ ap (λ z. get_or z c.loop-register.register c.parts-item.result) c.regs-parts-items.ensures)
