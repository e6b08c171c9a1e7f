use Rattle.std.proofs.Common.{◌+◌, ◌++◌, true, false, length, ap, subst, inl}
use Rattle.kex_tokens.specs.declared.token.TokenKind.TheVariants as kinds
use Rattle.kex_reader.specs.Syntax.{Turns, atom, postfix, word}
use Rattle.kex_reader.specs.Reading.{entries, with_pre}
use Rattle.kex_reader.specs.Stands.{NotesLeast, begin_asks}
use Rattle.kex_reader.proofs.Steps.{to, memory_exit, on_keeps, ready, turned_lazy, turned_other, turns_index, turns_place}
use Rattle.kex_reader.proofs.MoreChecks.{begin_quiet, moved, on_from, same}
use Rattle.kex_reader.proofs.Uses.{held_as, step_then}
use Rattle.kex_reader.proofs.inside.word_after_turns.Goals as goal

pub returns-in_err-end_turns-in-Question-clause-step : goal.returns-in_err-end_turns-in-Question-clause-step
returns-in_err-end_turns-in-Question-clause-step c = λ at base es a p h e s t b. memory_exit c.end_turns.new.draft at base c.end_turns.new.stack c.from_residual.result c.from_residual.ensures.1 _

pub returns-in_ok-end_turns-in-Question-clause-step : goal.returns-in_ok-end_turns-in-Question-clause-step
returns-in_ok-end_turns-in-Question-clause-step c = λ at base es a p h e s t b. to _ at base _ _ _ _ (turned_lazy a p es c.args.word.spelling.now c.args.word.kind c.in-Question.is) (ready c.end_turns.new.draft at base c.end_turns.new.stack (with_pre (Turns a p true) es) (c.in_ok-end_turns-in-Question.ensures.put at base es a p h e s t))

pub returns-in_ok-end_turns-in-Question-clause-notes : goal.returns-in_ok-end_turns-in-Question-clause-notes
returns-in_ok-end_turns-in-Question-clause-notes c = λ at base es a p h e s t b cs n. subst (λ x. NotesLeast (cs ++ x) c.end_turns.new.draft.broken) (begin_quiet at (base + length (entries es) + length (atom a ++ postfix p)) (with_pre (Turns a p false) es) c.args.word.spelling.now c.args.word.kind kinds.Question c.in-Question.is tt) (same cs c.end_turns.new.draft.broken (moved cs c.args.draft.now.broken c.end_turns.new.draft.broken c.in_ok-end_turns-in-Question.ensures.broken n))

pub returns-in_ok-end_turns-in-Question-clause-held : goal.returns-in_ok-end_turns-in-Question-clause-held
returns-in_ok-end_turns-in-Question-clause-held c = held_as _ _ _ _ _ _ (λ x h. h) (λ x i. inl i) c.in_ok-end_turns-in-Question.ensures.held

pub returns-in_err-end_turns-in_default-clause-step : goal.returns-in_err-end_turns-in_default-clause-step
returns-in_err-end_turns-in_default-clause-step c = λ at base es a p h e s t b. memory_exit c.end_turns-in_default.new.draft at base c.end_turns-in_default.new.stack c.from_residual-in_err-end_turns-in_default.result c.from_residual-in_err-end_turns-in_default.ensures.1 _

pub returns-in_ok-end_turns-in_default : goal.returns-in_ok-end_turns-in_default
returns-in_ok-end_turns-in_default c = record {
  keeps = on_keeps _ _ _ _ c.in_ok-end_turns-in_default.ensures.keeps c.begin.ensures.keeps;
  held = step_then c.begin.result _ _ _ _ _ _ c.begin.new.stack c.begin.ensures.keeps c.in_ok-end_turns-in_default.ensures.held (λ x i. inl i) c.begin.ensures.held;
  notes = λ at base es a p h e s t b cs n.
      on_from c.begin.result cs _ _ c.begin.new.draft.broken (ap (λ k. begin_asks at k (with_pre (Turns a p false) es) (word c.args.word.kind c.args.word.spelling.now)) (turns_index base a p es))
      (c.begin.ensures.notes at base (with_pre (Turns a p false) es) (c.in_ok-end_turns-in_default.ensures.put at base es a p h e s t) (turns_place at base c.args.word.at a p es b) cs (moved cs c.args.draft.now.broken c.end_turns-in_default.new.draft.broken c.in_ok-end_turns-in_default.ensures.broken n));
  step = λ at base es a p h e s t b.
      to _ at base _ _ _ _ (turned_other a p es c.args.word.spelling.now c.args.word.kind c.in_default.not-Question)
      (c.begin.ensures.step at base (with_pre (Turns a p false) es) (c.in_ok-end_turns-in_default.ensures.put at base es a p h e s t) (turns_place at base c.args.word.at a p es b));
}

pub begin-requires-clause-constructs : goal.begin-requires-clause-constructs
begin-requires-clause-constructs c = let r = c.requires.turned in (r.0, r.1, with_pre (Turns r.3 r.4 false) r.2, c.in_ok-end_turns-in_default.ensures.put r.0 r.1 r.2 r.3 r.4 r.5 r.6 r.7 r.8)
