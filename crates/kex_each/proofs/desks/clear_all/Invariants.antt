use Rattle.std.proofs.Common.{◌≡◌, ◌++◌, take, drop, map}
use Rattle.kex_each.specs.Desks.{without_answers}
use Rattle.kex_each.proofs.desks.clear_all.Given as goal

abbrev pub invariant-loop-i : goal.invariant-loop-i
invariant-loop-i g l = map g.D.LineDesk.state l.desks ≡ without_answers (take l.i (map g.D.LineDesk.state l.initial.desks)) ++ drop l.i (map g.D.LineDesk.state l.initial.desks)
