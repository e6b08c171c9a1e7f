use Rattle.std.proofs.Common.{◌<◌, length}
use Rattle.kex_held.specs.Walks.{WalkGoesOn}
use Rattle.kex_held.proofs.walk.go_on.Given as goal

abbrev pub invariant-loop : goal.invariant-loop
invariant-loop l = record { node : l.at < length l.machine.nodes; going : WalkGoesOn l.machine.nodes l.fn.from l.fn.actions.items l.at l.actions.items }
