use Rattle.std.proofs.Common.{◌++◌, ◌∷◌, [], length, length-append, append_assoc, append-nil, sym, ap, ap₂, ◌∙◌, arith}
use Rattle.std.proofs.lemmas.List.{nil_from_length}
use Rattle.kex_sst.proofs.fan.share.Goals as goal

pub loop-transition-init : goal.loop-transition-init
loop-transition-init c = ap₂ (λ x y. x ++ y) c.new-shared.ensures c.into_iter-transition-iterator.ensures.into_iter_gives.0

pub push-requires : goal.push-requires
push-requires c =
    let rest = c.loop-transition.transition-iterator.rest.items in
    omega (arith, c.requires, ap length c.loop-transition.invariant, length-append c.loop-transition.shared rest, ap length (c.in-Some.ensures {u = tt}).steps.0)

pub loop-transition-preserved : goal.loop-transition-preserved
loop-transition-preserved c =
    ap (λ z. z ++ c.next.new.self.rest.items) c.in_ok-push.ensures
    ∙ append_assoc c.loop-transition.shared (c.in-Some.transition ∷ []) c.next.new.self.rest.items
    ∙ ap (λ z. c.loop-transition.shared ++ z) (sym (c.in-Some.ensures {u = tt}).steps.0)
    ∙ c.loop-transition.invariant

pub returns : goal.returns
returns c =
    let shared = c.loop-transition.shared in
    let rest = c.loop-transition.transition-iterator.rest in
    let none = nil_from_length rest.items (omega (arith, c.in-None.ensures.steps.0, rest.ok.0)) in
    sym (append-nil shared) ∙ ap (λ z. shared ++ z) (sym none) ∙ c.loop-transition.invariant
