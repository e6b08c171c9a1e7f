use Rattle.std.proofs.lemmas.Grind.{common_steps}
use Rattle.std.proofs.Common.{rules, arith, [], ◌++◌, append_assoc, append-nil, ap, subst, sym, ◌∙◌}
use Rattle.kex_code.specs.Codes.{Begins}
use Rattle.kex_rope.proofs.rope.Rope.copy_into.Goals as goal

pub loop-block-init : goal.loop-block-init
loop-block-init c = record { all = search rules; begins = ([], sym (append-nil c.args.code.now)) }

pub loop-block-preserved : goal.loop-block-preserved
loop-block-preserved c =
    let b = c.loop-block.invariant.begins in
    record {
      all = grind (arith, common_steps);
      begins = (b.0 ++ c.deref.result.now, c.in_ok-append.ensures.added ∙ ap (λ z. z ++ c.deref.result.now) b.1 ∙ append_assoc c.args.code.now b.0 c.deref.result.now);
    }

pub returns-in_err-append-clause-front : goal.returns-in_err-append-clause-front
returns-in_err-append-clause-front c =
    let h : Begins c.append.new.self c.args.code.now = subst (λ z. Begins z c.args.code.now) (sym c.in_err-append.ensures.kept) c.loop-block.invariant.begins in
    search rules
