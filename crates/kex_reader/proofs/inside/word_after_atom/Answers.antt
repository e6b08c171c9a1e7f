use Rattle.std.proofs.Common.{◌+◌, ◌++◌, length, ap, ◌∙◌, subst, inl, inr}
use Rattle.kex_tokens.specs.declared.token.TokenKind.TheVariants as kinds
use Rattle.kex_reader.specs.Syntax.{Once, ZeroOrMore, OneOrMore, Optional, atom}
use Rattle.kex_reader.specs.Reading.{entries, with_pre}
use Rattle.kex_reader.proofs.Steps.{to, memory_exit, count_opens, after_kind, after_other, after_star, after_plus, after_question, after_brace, once_shows, put_place, on_keeps, begins_turns, star_turns, plus_turns, optional_turns}
use Rattle.kex_reader.proofs.MoreChecks.{same, on_from, moved, after_quiet, after_begins}
use Rattle.kex_reader.specs.Syntax.{word}
use Rattle.kex_reader.specs.Stands.{NotesLeast, begin_asks}
use Rattle.kex_reader.proofs.Steps.{put_index}
use Rattle.kex_reader.proofs.Uses.{held_as, step_then, turned_held, unchanged}
use Rattle.kex_reader.proofs.inside.word_after_atom.Goals as goal

pub returns-in-Star-clause-step : goal.returns-in-Star-clause-step
returns-in-Star-clause-step c = λ at base es a h e s p. to _ at base _ _ _ _ (after_kind a es c.args.word.spelling.now c.args.word.kind kinds.Star _ c.in-Star.is (after_star a es)) (begins_turns c.args.draft.now at base c.args.stack.now es c.turned.result c.args.item _ a ZeroOrMore c.turned.ensures h e s (star_turns c.args.draft.now))

pub returns-in-Plus-clause-step : goal.returns-in-Plus-clause-step
returns-in-Plus-clause-step c = λ at base es a h e s p. to _ at base _ _ _ _ (after_kind a es c.args.word.spelling.now c.args.word.kind kinds.Plus _ c.in-Plus.is (after_plus a es)) (begins_turns c.args.draft.now at base c.args.stack.now es c.turned-in-Plus.result c.args.item _ a OneOrMore c.turned-in-Plus.ensures h e s (plus_turns c.args.draft.now))

pub returns-in-Question-clause-step : goal.returns-in-Question-clause-step
returns-in-Question-clause-step c = λ at base es a h e s p. to _ at base _ _ _ _ (after_kind a es c.args.word.spelling.now c.args.word.kind kinds.Question _ c.in-Question.is (after_question a es)) (begins_turns c.args.draft.now at base c.args.stack.now es c.turned-in-Question.result c.args.item _ a Optional c.turned-in-Question.ensures h e s (optional_turns c.args.draft.now))

pub returns-in-OpenBrace-clause-step : goal.returns-in-OpenBrace-clause-step
returns-in-OpenBrace-clause-step c = λ at base es a h e s p. to _ at base _ _ _ _ (after_kind a es c.args.word.spelling.now c.args.word.kind kinds.OpenBrace _ c.in-OpenBrace.is (after_brace a es)) (count_opens c.args.draft.now at base c.args.stack.now es a c.args.item _ h e s p)

pub returns-in_err-put-in_default-clause-step : goal.returns-in_err-put-in_default-clause-step
returns-in_err-put-in_default-clause-step c = λ at base es a h e s p. memory_exit c.put.new.draft at base c.put.new.stack c.from_residual.result c.from_residual.ensures.1 _

pub returns-in_ok-put-in_default : goal.returns-in_ok-put-in_default
returns-in_ok-put-in_default c = record {
  keeps = on_keeps _ _ _ _ c.in_ok-put-in_default.ensures.keeps c.begin.ensures.keeps;
  held = step_then c.begin.result _ _ _ _ _ _ c.begin.new.stack c.begin.ensures.keeps (held_as _ _ _ _ _ _ (λ x h. elim h [ inl i ↦ inr i | inr e ↦ inl e ]) (λ x i. i) c.in_ok-put-in_default.ensures.held) (λ x i. inl i) c.begin.ensures.held;
  notes = λ at base es a h e s p cs n.
      on_from c.begin.result cs _ _ c.begin.new.draft.broken (ap (λ k. begin_asks at k (with_pre (Once a) es) (word c.args.word.kind c.args.word.spelling.now)) (put_index base a es) ∙ after_begins at (base + length (entries es) + length (atom a)) a es c.args.word.spelling.now c.args.word.kind c.in_default.not-Star c.in_default.not-Plus c.in_default.not-Question c.in_default.not-OpenBrace)
      (c.begin.ensures.notes at base (with_pre (Once a) es) (c.in_ok-put-in_default.ensures.put at base es (Once a) h e (once_shows c.args.draft.now at c.args.item.node (base + length (entries es)) a s)) (put_place at base c.args.word.at a es p) cs (moved cs c.args.draft.now.broken c.put.new.draft.broken c.in_ok-put-in_default.ensures.broken n));
  step = λ at base es a h e s p.
      to _ at base _ _ _ _ (after_other a es c.args.word.spelling.now c.args.word.kind c.in_default.not-Star c.in_default.not-Plus c.in_default.not-Question c.in_default.not-OpenBrace)
      (c.begin.ensures.step at base (with_pre (Once a) es) (c.in_ok-put-in_default.ensures.put at base es (Once a) h e (once_shows c.args.draft.now at c.args.item.node (base + length (entries es)) a s)) (put_place at base c.args.word.at a es p));
}

pub put-requires : goal.put-requires
put-requires c = let r = c.requires.atom in (r.0, r.1, r.2, Once r.3, r.4, r.5, once_shows c.args.draft.now r.0 c.args.item.node (r.1 + length (entries r.2)) r.3 r.6)

pub begin-requires-clause-constructs : goal.begin-requires-clause-constructs
begin-requires-clause-constructs c = let r = c.requires.atom in (r.0, r.1, with_pre (Once r.3) r.2, c.in_ok-put-in_default.ensures.put r.0 r.1 r.2 (Once r.3) r.4 r.5 (once_shows c.args.draft.now r.0 c.args.item.node (r.1 + length (entries r.2)) r.3 r.6))

pub returns-in-Star-clause-notes : goal.returns-in-Star-clause-notes
returns-in-Star-clause-notes c = λ at base es a h e s p cs n. subst (λ x. NotesLeast (cs ++ x) c.args.draft.now.broken) (after_quiet at (base + length (entries es) + length (atom a)) a es c.args.word.spelling.now c.args.word.kind kinds.Star c.in-Star.is tt) (same cs c.args.draft.now.broken n)

pub returns-in-Plus-clause-notes : goal.returns-in-Plus-clause-notes
returns-in-Plus-clause-notes c = λ at base es a h e s p cs n. subst (λ x. NotesLeast (cs ++ x) c.args.draft.now.broken) (after_quiet at (base + length (entries es) + length (atom a)) a es c.args.word.spelling.now c.args.word.kind kinds.Plus c.in-Plus.is tt) (same cs c.args.draft.now.broken n)

pub returns-in-Question-clause-notes : goal.returns-in-Question-clause-notes
returns-in-Question-clause-notes c = λ at base es a h e s p cs n. subst (λ x. NotesLeast (cs ++ x) c.args.draft.now.broken) (after_quiet at (base + length (entries es) + length (atom a)) a es c.args.word.spelling.now c.args.word.kind kinds.Question c.in-Question.is tt) (same cs c.args.draft.now.broken n)

pub returns-in-OpenBrace-clause-notes : goal.returns-in-OpenBrace-clause-notes
returns-in-OpenBrace-clause-notes c = λ at base es a h e s p cs n. subst (λ x. NotesLeast (cs ++ x) c.args.draft.now.broken) (after_quiet at (base + length (entries es) + length (atom a)) a es c.args.word.spelling.now c.args.word.kind kinds.OpenBrace c.in-OpenBrace.is tt) (same cs c.args.draft.now.broken n)

pub returns-in-Star-clause-held : goal.returns-in-Star-clause-held
returns-in-Star-clause-held c = turned_held c.turned.result c.args.draft.now c.args.stack.now c.args.item _ c.turned.ensures

pub returns-in-Plus-clause-held : goal.returns-in-Plus-clause-held
returns-in-Plus-clause-held c = turned_held c.turned-in-Plus.result c.args.draft.now c.args.stack.now c.args.item _ c.turned-in-Plus.ensures

pub returns-in-Question-clause-held : goal.returns-in-Question-clause-held
returns-in-Question-clause-held c = turned_held c.turned-in-Question.result c.args.draft.now c.args.stack.now c.args.item _ c.turned-in-Question.ensures

pub returns-in-OpenBrace-clause-held : goal.returns-in-OpenBrace-clause-held
returns-in-OpenBrace-clause-held c = unchanged _ _ _ (λ x h. h)
