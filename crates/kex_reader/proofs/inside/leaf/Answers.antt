use Rattle.std.proofs.Common.{length, inl, inr}
use Rattle.kex_reader.proofs.Modes.{leaf_below}
use Rattle.kex_reader.specs.Stands.{InConstructs}
use Rattle.kex_reader.proofs.Uses.{beside}
use Rattle.kex_reader.proofs.inside.leaf.Goals as goal

pub add-requires-clause-below : goal.add-requires-clause-below
add-requires-clause-below c = leaf_below (length c.args.draft.now.nodes) c.args.kind c.requires.alone

pub returns-clause-held : goal.returns-clause-held
returns-clause-held c = λ fs. beside _ _ _ _ (InConstructs fs) _ _ (λ x h. elim h [ inl i ↦ inr i | inr k ↦ inl k ]) (λ x e. inr e) (λ x i. inl i) c.in_ok-node.ensures.held
