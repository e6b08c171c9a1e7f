use Rattle.std.proofs.Common.{◌≡◌, None, true, refl, ap, sym, subst, ◌∙◌}
use Rattle.std.specs.Prelude.{All}
use Rattle.kex_plan.specs.Plans.{tellers}
use Rattle.kex_words.specs.Words.{most_input}
use Rattle.kex_top.specs.Pipelines.{NodesSay, stage_plans}
use Rattle.kex_top.specs.Trials.{made_lines}
use Rattle.kex_top.proofs.PlannedStages.{plans-tabled}
use Rattle.kex_top.proofs.call.trial.sum_up.Goals as goal

pub run_lines-requires-clause-tables : goal.run_lines-requires-clause-tables
run_lines-requires-clause-tables g c = λ κs bounds.
    plans-tabled c.stages.result.now (subst (λ os. All (λ o. o ≡ None → ⊥) os) (sym c.stages.ensures.tables) c.requires.tables)

pub returns : goal.returns
returns g c =
    let (said, says, counted) = c.in_ok-tally.ensures in
    let same = ap (λ z. stage_plans most_input z) (c.stages.ensures.tellers ∙ ap (λ k. tellers k c.args.compiled.now.stages) c.requires.agreed) in
    record {
      said = said;
      is_said = subst (λ ps. NodesSay ps (made_lines c.args.lines.count) true said) same says;
      lines_of = refl;
      made = counted.made;
      written = counted.written;
      roll = counted.roll;
    }
