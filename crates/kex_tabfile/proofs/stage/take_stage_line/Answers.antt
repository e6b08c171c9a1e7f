use Rattle.std.proofs.Common.{◌≡◌, ℕ, ◌++◌, Option, Some, None, length, refl, sym, ap, subst, ◌∙◌, arith}
use Rattle.kex_byteset.specs.Classes.{class_count}
use Rattle.kex_tabfile.specs.Lines.{stage_front, stage_line, line_behind}
use Rattle.std.specs.Prelude.{codes, decimal}
use Rattle.kex_code.specs.Codes.{Begins}
use Rattle.kex_model.proofs.Tables.{some_same}
use Rattle.kex_tabfile.proofs.ResultParts.{if_err}
use Rattle.kex_tabfile.specs.Walks.{at_stage, most_table_states}
use Rattle.kex_tabfile.specs.Checking.{BreaksReading}
use Rattle.kex_tabfile.proofs.StuckLines.{breaks_stage}
use Rattle.kex_tabfile.proofs.StateLines.{count_found}
use Rattle.kex_tabfile.proofs.stage.take_stage_line.Goals as goal

clash : (n : ℕ) (o : Option ℕ) → o ≡ None → o ≡ Some n → ⊥
clash n o e f = cc

pub returns-in_default-clause-bad : goal.returns-in_default-clause-bad
returns-in_default-clause-bad c = λ numbers classes same.
    let a = c.args.reader.now in
    let g = c.args.machine.now in
    let front : c.push_stage_front.new.line.items ≡ stage_front c.args.stage (class_count classes) = c.in_ok-push_stage_front.ensures ∙ ap (λ z. z ++ stage_front c.args.stage c.classes.result) c.new-line.ensures.items ∙ ap (stage_front c.args.stage) (c.classes.ensures.count ∙ sym same) in
    let long : length (stage_front c.args.stage (class_count classes)) ≡ c.len.result = omega (arith, c.len.ensures, c.push_stage_front.new.line.ok.0, ap length front) in
    subst (λ z. BreaksReading g numbers classes a (at_stage c.args.stage) z) (sym c.bad_line.ensures)
    (breaks_stage g numbers classes c.args.stage a (λ n some few b. clash n None refl (count_found a.rest c.args.stage (class_count classes) n most_table_states None (λ front n next more skip le e none. c.in_default.ensures.number front n next more (skip ∙ long) le e none) few b)) (line_behind a.before) refl)

pub returns-then-states-eq0-clause-bad : goal.returns-then-states-eq0-clause-bad
returns-then-states-eq0-clause-bad c = λ numbers classes same.
    let a = c.args.reader.now in
    let g = c.args.machine.now in
    let front : c.push_stage_front.new.line.items ≡ stage_front c.args.stage (class_count classes) = c.in_ok-push_stage_front.ensures ∙ ap (λ z. z ++ stage_front c.args.stage c.classes.result) c.new-line.ensures.items ∙ ap (stage_front c.args.stage) (c.classes.ensures.count ∙ sym same) in
    let long : length (stage_front c.args.stage (class_count classes)) ≡ c.len.result = omega (arith, c.len.ensures, c.push_stage_front.new.line.ok.0, ap length front) in
    subst (λ z. BreaksReading g numbers classes a (at_stage c.args.stage) z) (sym c.bad_line-then-states-eq0.ensures)
    (breaks_stage g numbers classes c.args.stage a (λ n some few b. let e = some_same c.in-Some.states n (count_found a.rest c.args.stage (class_count classes) n most_table_states (Some c.in-Some.states) (λ front n next more skip le e none. c.in-Some.ensures.number front n next more (skip ∙ long) le e none) few b) in absurd (omega (arith, e, some, c.if-states-eq0.true))) (line_behind a.before) refl)

pub returns-in_err-take-clause-bad : goal.returns-in_err-take-clause-bad
returns-in_err-take-clause-bad c =
    let a = c.args.reader.now in
    let g = c.args.machine.now in
    let bad = c.in_err-take.ensures.bad in
    if_err c.from_residual-in_err-take.result c.in_err-take.field-0.0 _ c.from_residual-in_err-take.ensures.1 (λ numbers classes same.
    let front : c.push_stage_front.new.line.items ≡ stage_front c.args.stage (class_count classes) = c.in_ok-push_stage_front.ensures ∙ ap (λ z. z ++ stage_front c.args.stage c.classes.result) c.new-line.ensures.items ∙ ap (stage_front c.args.stage) (c.classes.ensures.count ∙ sym same) in
    let long : length (stage_front c.args.stage (class_count classes)) ≡ c.len.result = omega (arith, c.len.ensures, c.push_stage_front.new.line.ok.0, ap length front) in
    let line : c.deref.result.now ≡ stage_line c.args.stage (class_count classes) c.in-Some.states = c.deref.ensures.value ∙ c.in_ok-push_stage_rest.ensures ∙ ap (λ z. z ++ (decimal c.in-Some.states ++ codes "\n")) front in
    subst (λ z. BreaksReading g numbers classes a (at_stage c.args.stage) z) (sym bad.0)
    (breaks_stage g numbers classes c.args.stage a (λ n some few b. let e = some_same c.in-Some.states n (count_found a.rest c.args.stage (class_count classes) n most_table_states (Some c.in-Some.states) (λ front n next more skip le e none. c.in-Some.ensures.number front n next more (skip ∙ long) le e none) few b) in bad.1 (subst (λ z. Begins a.rest z) (ap (stage_line c.args.stage (class_count classes)) (sym e) ∙ sym line) b)) (line_behind a.before) refl))
