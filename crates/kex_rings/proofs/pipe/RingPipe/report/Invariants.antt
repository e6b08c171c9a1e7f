use Rattle.std.proofs.Common.{List, [], ℕ, take}
use Rattle.kex_model.specs.Schedules.{StreamItem, Progress}
use Rattle.kex_pipe.specs.Reports.{report_as, LastStop}
use Rattle.kex_rings.specs.Lines.{RingLine}
use Rattle.kex_rings.proofs.pipe.RingPipe.report.Given as goal

abbrev pub invariant-loop-i : goal.invariant-loop-i
invariant-loop-i g l = (came : List StreamItem) (ps : List g.T.Turn.Plan) (xs : List Progress) (taken : List ℕ) → RingLine g.T.Turn came [] ps l.self.seats.items xs l.self.output taken → LastStop g.T.Turn 1 (take l.i ps) (take l.i xs) (report_as l.report)
