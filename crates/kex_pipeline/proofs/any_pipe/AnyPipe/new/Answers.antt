use Rattle.std.proofs.Common.{[], length, map, arith}
use Rattle.std.proofs.lemmas.List.{length-map}
use Rattle.kex_pipeline.specs.declared.any_pipe.AnyPipe.TheVariants.{Rounds, Rings}
use Rattle.kex_pipeline.proofs.PipeAnswers.{fresh-pipe, same-plans}
use Rattle.kex_pipeline.proofs.any_pipe.AnyPipe.new.Goals as goal

pub returns-in_ok-new-in-None-clause-plans : goal.returns-in_ok-new-in-None-clause-plans
returns-in_ok-new-in-None-clause-plans g c =
    same-plans g.T.Turn (map g.T.Turn.plan c.args.stages.items) (Rounds c.in_ok-new-in-None.field-0 c.new-in-None.result) [] [] c.in_ok-new-in-None.ensures.stands

pub returns-in_ok-new-in-None-clause-fresh : goal.returns-in_ok-new-in-None-clause-fresh
returns-in_ok-new-in-None-clause-fresh g c =
    let long = length-map c.args.stages.items g.T.Turn.plan in
    fresh-pipe g.T.Turn (map g.T.Turn.plan c.args.stages.items) (Rounds c.in_ok-new-in-None.field-0 c.new-in-None.result) (omega (arith, long, c.args.stages.ok.0, c.requires.some)) c.in_ok-new-in-None.ensures.stands

pub returns-in_ok-new-in-Some-clause-plans : goal.returns-in_ok-new-in-Some-clause-plans
returns-in_ok-new-in-Some-clause-plans g c =
    same-plans g.T.Turn (map g.T.Turn.plan c.args.stages.items) (Rings c.in_ok-new-in-Some.field-0 c.new-in-Some-2.result) [] [] c.in_ok-new-in-Some.ensures.stands

pub returns-in_ok-new-in-Some-clause-fresh : goal.returns-in_ok-new-in-Some-clause-fresh
returns-in_ok-new-in-Some-clause-fresh g c =
    let long = length-map c.args.stages.items g.T.Turn.plan in
    fresh-pipe g.T.Turn (map g.T.Turn.plan c.args.stages.items) (Rings c.in_ok-new-in-Some.field-0 c.new-in-Some-2.result) (omega (arith, long, c.args.stages.ok.0, c.requires.some)) c.in_ok-new-in-Some.ensures.stands
