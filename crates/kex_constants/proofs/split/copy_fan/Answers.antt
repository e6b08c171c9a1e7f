use Rattle.std.proofs.Common.{length, sym, ap, subst, ◌∙◌}
use Rattle.std.specs.Prelude.{IfSome}
use Rattle.kex_sst.specs.Fans.{fan}
use Rattle.kex_constants.specs.Copies.{GoAlike, originals}
use Rattle.kex_constants.proofs.CopiedLists.{fan_alike}
use Rattle.kex_constants.proofs.split.copy_fan.Goals as goal

pub returns : goal.returns
returns c =
    let of = originals c.args.copies.now in
    let n = length c.args.go.now in
    let numbers = c.parts.result.0.now in
    let different = c.parts.result.1.now in
    let made = c.in-Some.made.items in
    let alike : GoAlike of different made = subst (λ o. IfSome o (λ m. GoAlike of different m.items)) c.in-Some.is (c.in_ok-made.ensures {u = tt}) in
    let is = c.in_ok-fan.ensures ∙ ap (λ k. fan k numbers made) c.len.ensures.long in
    subst (λ z. GoAlike of z c.in_ok-fan.fan) (sym c.parts.ensures.same)
    (subst (λ z. GoAlike of (fan n numbers different) z) (sym is) (fan_alike of n numbers different made c.parts.ensures.fan alike))
