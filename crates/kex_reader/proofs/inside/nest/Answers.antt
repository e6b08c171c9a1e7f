use Rattle.std.proofs.Common.{[], ◌∷◌, ◌++◌, Option, refl, sym, ap, subst, ◌∙◌}
use Rattle.kex_regexp.specs.declared.breaks.Break.{Break}
use Rattle.kex_regexp.specs.declared.breaks.Break.TheVariants.{OverLimit}
use Rattle.kex_reader.specs.Checks.{Nested}
use Rattle.kex_reader.specs.Stands.{NotesLeast}
use Rattle.kex_reader.proofs.LeastBreak.{never_none, noted_one, noted_same}
use Rattle.kex_reader.proofs.Uses.{unchanged}
use Rattle.kex_reader.proofs.inside.nest.Goals as goal

pub returns-then-depth-ne-DEEPEST-clause-notes : goal.returns-then-depth-ne-DEEPEST-clause-notes
returns-then-depth-ne-DEEPEST-clause-notes c = λ cs n. noted_same c.args.draft.now.broken cs (Nested c.args.at c.args.depth) n (λ b h. c.if-depth-ne-DEEPEST.true h.0)

pub returns-clause-notes : goal.returns-clause-notes
returns-clause-notes c = λ cs n.
    subst (λ (o : Option Break). NotesLeast (cs ++ Nested c.args.at c.args.depth ∷ []) o) (sym (ap (λ m. m.broken) c.note.ensures.noted))
    (noted_one c.args.draft.now.broken (OverLimit c.args.at) cs (Nested c.args.at c.args.depth) n (c.if-depth-ne-DEEPEST.false, refl) (λ other h. h.1))

pub returns-then-depth-ne-DEEPEST-clause-held : goal.returns-then-depth-ne-DEEPEST-clause-held
returns-then-depth-ne-DEEPEST-clause-held c = unchanged _ _ _ (λ x h. h)

pub returns-clause-held : goal.returns-clause-held
returns-clause-held c = λ e. absurd (never_none c.args.draft.now.broken (OverLimit c.args.at) (sym (ap (λ m. m.broken) c.note.ensures.noted) ∙ e))
