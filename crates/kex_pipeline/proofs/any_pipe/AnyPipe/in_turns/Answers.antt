use Rattle.std.proofs.Common.{[], length, map, arith}
use Rattle.std.proofs.lemmas.List.{length-map}
use Rattle.kex_pipeline.specs.declared.any_pipe.AnyPipe.TheVariants.{Turns}
use Rattle.kex_pipeline.proofs.PipeAnswers.{fresh-pipe, same-plans}
use Rattle.kex_pipeline.proofs.any_pipe.AnyPipe.in_turns.Goals as goal

pub returns-clause-plans : goal.returns-clause-plans
returns-clause-plans g c =
    same-plans g.T.Turn (map g.T.Turn.plan c.args.stages.items) (Turns c.in_ok-new.field-0 c.args.sharing) [] [] c.in_ok-new.ensures.stands

pub returns-clause-fresh : goal.returns-clause-fresh
returns-clause-fresh g c =
    let long = length-map c.args.stages.items g.T.Turn.plan in
    fresh-pipe g.T.Turn (map g.T.Turn.plan c.args.stages.items) (Turns c.in_ok-new.field-0 c.args.sharing) (omega (arith, long, c.args.stages.ok.0, c.requires.some)) c.in_ok-new.ensures.stands
