use Rattle.std.proofs.Common.{inl, inr, sym}
use Rattle.kex_regexp.proofs.Parents.{one_added}
use Rattle.kex_regexp.proofs.steps.leaf.Goals as goal

pub returns-clause-nodes : goal.returns-clause-nodes
returns-clause-nodes c = λ fs. one_added c.args.into.now _ _ _ _ c.in_ok-node.ensures.added (λ n h. elim h [ inl f ↦ inr (inl f) | inr g ↦ absurd g ]) (inr (sym c.in_ok-node.ensures.number))
