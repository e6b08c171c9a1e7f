use Rattle.std.proofs.Common.{◌+◌, [], ◌∷◌, ◌++◌, refl, sym, ap, subst, arith, ◌∙◌}
use Rattle.kex_reader.specs.Checks.{Staged}
use Rattle.kex_reader.specs.Stands.{NotesLeast}
use Rattle.kex_reader.proofs.LeastBreak.{never_none, noted_one, noted_same}
use Rattle.kex_reader.proofs.Uses.{unchanged}
use Rattle.kex_reader.proofs.reader.limit_stages.Goals as goal

pub returns-then-before-ne-MOST_STAGES-clause-notes : goal.returns-then-before-ne-MOST_STAGES-clause-notes
returns-then-before-ne-MOST_STAGES-clause-notes c = λ cs n. noted_same c.args.draft.now.broken cs (Staged c.args.at (c.args.before + 1)) n (λ b h. c.if-before-ne-MOST_STAGES.true (omega (arith, h.0)))

pub returns-clause-notes : goal.returns-clause-notes
returns-clause-notes c = λ cs n.
    subst (λ o. NotesLeast (cs ++ Staged c.args.at (c.args.before + 1) ∷ []) o) (sym (ap (λ m. m.broken) c.note.ensures.noted))
    (noted_one c.args.draft.now.broken (Rattle.kex_regexp.specs.declared.breaks.Break.TheVariants.OverLimit c.args.at) cs (Staged c.args.at (c.args.before + 1)) n (omega (arith, c.if-before-ne-MOST_STAGES.false), refl) (λ other h. h.1))

pub returns-then-before-ne-MOST_STAGES-clause-held : goal.returns-then-before-ne-MOST_STAGES-clause-held
returns-then-before-ne-MOST_STAGES-clause-held c = unchanged _ _ _ (λ x h. h)

pub returns-clause-held : goal.returns-clause-held
returns-clause-held c = λ e. absurd (never_none c.args.draft.now.broken _ (sym (ap (λ m. m.broken) c.note.ensures.noted) ∙ e))
