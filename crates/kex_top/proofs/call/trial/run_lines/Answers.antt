use Rattle.std.proofs.Common.{List, subst}
use Rattle.std.specs.Prelude.{IfOk}
use Rattle.kex_stage.specs.Stages.{StagePlan}
use Rattle.kex_top.specs.Pipelines.{NodesSay}
use Rattle.kex_top.specs.Tallies.{SumsUp}
use Rattle.kex_top.specs.Trials.{made_lines}
use Rattle.kex_top.proofs.call.trial.run_lines.Goals as goal

pub returns : goal.returns
returns g c =
    let P : List StagePlan → Type 0 = λ ps. IfOk c.give_lines-2.result (λ tally. SumsUp (NodesSay ps) (made_lines c.args.lines.count) tally) in
    subst P c.in_ok-pipe-2.ensures.plans c.give_lines-2.ensures
