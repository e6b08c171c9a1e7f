use Rattle.kex_pipeline.proofs.PipeAnswers.{settled-here}
use Rattle.kex_pipeline.proofs.any_pipe.AnyPipe.report.Goals as goal

pub returns-in-Rounds : goal.returns-in-Rounds
returns-in-Rounds g c = rw c.in-Rounds.is (record {
  settled = λ ps h taken s done. c.report.ensures.settled ps h taken s (settled-here g.T.Turn g.met.T.Turn.one ps h s.came s.seats s.after done);
})

pub returns-in-Turns : goal.returns-in-Turns
returns-in-Turns g c = rw c.in-Turns.is (record {
  settled = λ ps h taken s done. c.report-in-Turns.ensures.settled ps h taken s (settled-here g.T.Turn g.met.T.Turn.one ps h s.came s.seats s.after done);
})

pub returns-in-Rings : goal.returns-in-Rings
returns-in-Rings g c = rw c.in-Rings.is (record {
  settled = λ ps h taken s done. c.report-in-Rings.ensures.settled ps h taken s (settled-here g.T.Turn g.met.T.Turn.one ps h s.came s.seats s.after done);
})
