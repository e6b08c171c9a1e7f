use Rattle.std.proofs.Common.{[], ◌∷◌, ◌++◌, subst, inl, inr, sym}
use Rattle.kex_reader.specs.Checks.{Nested}
use Rattle.kex_reader.specs.Stands.{NotesLeast}
use Rattle.kex_reader.specs.Stands.{InConstructs}
use Rattle.kex_reader.proofs.Uses.{beside, constructs_are}
use Rattle.kex_reader.proofs.inside.open.Goals as goal

pub returns-clause-notes : goal.returns-clause-notes
returns-clause-notes c = λ cs n. subst (λ d. NotesLeast (cs ++ Nested c.args.at d ∷ []) c.nest.new.draft.broken) c.depth.ensures (c.nest.ensures.notes cs n)

pub returns-clause-held : goal.returns-clause-held
returns-clause-held c = beside _ _ _ _ (InConstructs (c.args.construct ∷ c.args.stack.now)) _ _ (λ x h. inr h) (λ x z. absurd z) (λ x i. inl (constructs_are _ _ (sym c.in_ok-push.ensures) x i)) c.nest.ensures.held
