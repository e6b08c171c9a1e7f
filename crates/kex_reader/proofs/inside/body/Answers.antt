use Rattle.std.proofs.Common.{◌+◌, [], ◌∷◌, ◌++◌, subst, inl, inr}
use Rattle.kex_reader.specs.Checks.{Matched}
use Rattle.kex_reader.specs.Stands.{NotesLeast}
use Rattle.kex_reader.specs.Stands.{InConstructs}
use Rattle.kex_reader.proofs.Uses.{beside}
use Rattle.kex_reader.proofs.inside.body.Goals as goal

pub returns-clause-notes : goal.returns-clause-notes
returns-clause-notes c = λ cs n. subst (λ b. NotesLeast (cs ++ Matched (c.args.word.at + 1) c.args.depth b ∷ []) c.body.new.self.broken) c.between_slashes-bytes.ensures.bytes (c.in_ok-node.ensures.notes cs n)

pub returns-clause-held : goal.returns-clause-held
returns-clause-held c = λ fs. beside _ _ _ _ (InConstructs fs) _ _ (λ x h. elim h [ inl i ↦ inr i | inr z ↦ absurd z ]) (λ x e. inr e) (λ x i. inl i) c.in_ok-node.ensures.held
