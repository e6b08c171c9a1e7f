use Rattle.std.proofs.Common.{◌≡◌, ◌+◌, [], ◌∷◌, ◌++◌, length, subst, arith, ◌⊎◌, inl, inr}
use Rattle.kex_reader.specs.Checks.{Staged}
use Rattle.kex_reader.specs.Stands.{NotesLeast}
use Rattle.kex_reader.proofs.MoreChecks.{moved}
use Rattle.kex_reader.specs.Uses.{InStages, NameNumber}
use Rattle.kex_reader.proofs.Uses.{beside, none_lost, stage_on, stages_under}
use Rattle.kex_reader.proofs.reader.Reader.stage.Goals as goal

pub returns-clause-notes : goal.returns-clause-notes
returns-clause-notes c = λ cs n.
    let e : c.len.result ≡ length c.args.self.now.stages.items = omega (arith, c.len.ensures, c.args.self.now.stages.ok.0) in
    subst (λ k. NotesLeast (cs ++ Staged c.args.word.at (k + 1) ∷ []) c.limit_stages.new.draft.broken) e (c.limit_stages.ensures.notes cs (moved cs c.args.self.now.draft.broken c.name.new.self.broken c.in_ok-name.ensures.broken n))

pub returns-clause-held : goal.returns-clause-held
returns-clause-held c =
    let pushed = c.in_ok-push.ensures.items in
    none_lost _ _ _ _ _ _ c.limit_stages.ensures.keeps
    (beside _ _ _ _ (InStages c.args.self.now.stages.items) _ (λ x. (x ≡ NameNumber c.in_ok-name.name) ⊎ InStages c.args.self.now.stages.items x) (λ x h. inr h) (λ x e. inl e) (λ x i. inr i) c.in_ok-name.ensures.held)
    (beside _ _ _ _ (λ x. (x ≡ NameNumber c.in_ok-name.name) ⊎ InStages c.args.self.now.stages.items x) _ _ (λ x h. inr h) (λ x z. absurd z) (λ x h. elim h [ inl e ↦ stage_on _ _ _ _ pushed x e | inr i ↦ stages_under _ _ _ pushed x i ]) c.limit_stages.ensures.held)
