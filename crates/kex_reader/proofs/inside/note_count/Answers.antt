use Rattle.std.proofs.Common.{◌++◌, Option, sym, ap, subst, ◌∙◌}
use Rattle.std.proofs.lemmas.Bool.{false≢true}
use Rattle.kex_regexp.specs.declared.breaks.Break.{Break}
use Rattle.kex_regexp.proofs.CappedCounts.{bad_bounds}
use Rattle.kex_reader.specs.Checks.{postfix_checks}
use Rattle.kex_reader.specs.Stands.{NotesLeast}
use Rattle.kex_reader.proofs.LeastBreak.{never_none}
use Rattle.kex_reader.proofs.MoreChecks.{count_noted, good_count}
use Rattle.kex_reader.proofs.inside.note_count.Goals as goal

pub returns-then-not-are_bad-clause-noted : goal.returns-then-not-are_bad-clause-noted
returns-then-not-are_bad-clause-noted c = λ p h. (h, λ bad _. false≢true (sym c.if-not-are_bad.true ∙ c.are_bad.ensures ∙ bad_bounds c.args.bounds p h ∙ bad))

pub returns-then-not-are_bad-clause-notes : goal.returns-then-not-are_bad-clause-notes
returns-then-not-are_bad-clause-notes c = λ p from e h cs n. good_count p cs c.args.draft.now.broken from (sym (bad_bounds c.args.bounds p h) ∙ sym c.are_bad.ensures ∙ c.if-not-are_bad.true) n

pub returns-clause-noted : goal.returns-clause-noted
returns-clause-noted c = λ p h. (h, λ _ z. never_none c.args.draft.now.broken _ (sym (ap (λ m. m.broken) c.note.ensures.noted) ∙ z))

pub returns-clause-notes : goal.returns-clause-notes
returns-clause-notes c = λ p from e h cs n.
    subst (λ (o : Option Break). NotesLeast (cs ++ postfix_checks p from) o) (sym (ap (λ m. m.broken) c.note.ensures.noted))
    (count_noted p cs c.args.draft.now.broken c.args.brace from e (sym (bad_bounds c.args.bounds p h) ∙ sym c.are_bad.ensures ∙ c.if-not-are_bad.false) n)
