use Rattle.std.proofs.Common.{sym, ◌∙◌, inl}
use Rattle.kex_regexp.proofs.CappedCounts.{bad_stands_alone, good_count, good_turns}
use Rattle.kex_regexp.proofs.Stacks.{at_number}
use Rattle.kex_regexp.proofs.Parents.{none_added, one_added}
use Rattle.kex_regexp.proofs.steps.repeated.Goals as goal

pub returns-then-are_bad-clause-turns : goal.returns-then-are_bad-clause-turns
returns-then-are_bad-clause-turns c = λ p h. bad_stands_alone _ p c.args.lazy _ _ c.args.turns.bounds (sym c.are_bad.ensures ∙ c.if-are_bad.true) h

pub add-requires : goal.add-requires
add-requires c = (c.requires, good_count c.args.turns.bounds (sym c.are_bad.ensures ∙ c.if-are_bad.false))

pub returns-clause-turns : goal.returns-clause-turns
returns-clause-turns c = λ p h. good_turns _ p c.args.lazy _ _ _ c.args.turns.bounds (sym c.are_bad.ensures ∙ c.if-are_bad.false) (at_number _ _ _ _ c.in_ok-node.ensures.number c.in_ok-node.ensures.added) h

pub returns-then-are_bad-clause-nodes : goal.returns-then-are_bad-clause-nodes
returns-then-are_bad-clause-nodes c = none_added _ _ _ (λ n h. h)

pub returns-clause-nodes : goal.returns-clause-nodes
returns-clause-nodes c = one_added c.args.into.now _ _ _ _ c.in_ok-node.ensures.added (λ n h. inl h) (sym c.in_ok-node.ensures.number)
