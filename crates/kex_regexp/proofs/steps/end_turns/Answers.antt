use Rattle.std.proofs.Common.{inl, inr}
use Rattle.kex_regexp.specs.Holding.{InConstructs}
use Rattle.kex_regexp.proofs.Bounds.{some_item}
use Rattle.kex_regexp.proofs.ShownSteps.{turns_shows}
use Rattle.kex_regexp.proofs.Parents.{beside, construct_on, construct_under}
use Rattle.kex_regexp.proofs.steps.end_turns.Goals as goal

pub repeated-requires : goal.repeated-requires
repeated-requires c = some_item _ c.args.constructs.now.items c.args.turns _ c.requires.1

pub returns-clause-shows : goal.returns-clause-shows
returns-clause-shows c = λ base es i p h a x t. turns_shows _ _ base _ _ es i p c.args.lazy c.args.turns _ h a x c.repeated.ensures.adds (c.in_ok-node.ensures.turns p t) c.in_ok-push.ensures.ok

pub returns-clause-nodes : goal.returns-clause-nodes
returns-clause-nodes c =
    let on = c.in_ok-push.ensures.ok in
    beside _ _ _ _ (InConstructs c.args.constructs.now.items) _ _ (λ n h. elim h [ inl f ↦ inr f | inr e ↦ inl e ]) (λ n e. construct_on _ _ _ on n e) (λ n f. construct_under _ _ _ on n f) c.in_ok-node.ensures.nodes
