use Rattle.std.proofs.Common.{◌≡◌, ◌++◌, [], sym, ap, subst, ◌∙◌}
use Rattle.std.specs.Prelude.{OnOk, Result, Ok, Err}
use Rattle.kex_each.specs.Answers.{PlansAnswerLines}
use Rattle.kex_each.specs.Lines.{IsBegunBehind, begun_behind, fronts_of, line_if_some}
use Rattle.kex_each.specs.Pieces.{LineReader, WritesAnswers}
use Rattle.kex_each.proofs.KeptLines.{kept_enough}
use Rattle.kex_each.proofs.line_answers.LineAnswers.finish.Goals as goal

on_ok : {A E P Q : Type 0} (r : Result A E) → (P → Q) → OnOk r P → OnOk r Q
on_ok (Ok x) f p = f p
on_ok (Err e) f p = tt

pub returns-clause-answers : goal.returns-clause-answers
returns-clause-answers g c = on_ok c.write_into.result (λ written w was.
    let here : IsBegunBehind w c.self.inside.lines = subst (λ (z : LineReader). IsBegunBehind w z.begun) (sym c.self.view_is) was in
    let lines = line_if_some (begun_behind [] w) in
    let texts = c.answer_all.new.self.answers in
    let ended : c.finish.new.out ≡ fronts_of c.self.inside.lines.keep lines = c.in_ok-finish.ensures.ended w here ∙ ap (λ z. z ++ fronts_of c.self.inside.lines.keep lines) c.clear.ensures in
    let all = subst (λ z. PlansAnswerLines c.self.inside.desks.plans z texts) ended c.in_ok-answer_all.ensures.answers in
    subst (λ (z : LineReader). WritesAnswers z.plans lines c.args.out.now.items c.write_into.new.out.items) c.self.view_is
    (record {
      texts = texts;
      answers = kept_enough c.self.inside.lines.keep c.self.inside.desks.plans c.self.invariant lines texts all;
      written = written;
    })) c.write_into.ensures
