use Rattle.std.proofs.Common.{◌≡◌, take}
use Rattle.kex_script.specs.Scripts.{change_at}
use Rattle.kex_runner.specs.Ways.{composition}
use Rattle.kex_runner.proofs.ways.compose.Given as goal

abbrev pub invariant-loop-part : goal.invariant-loop-part
invariant-loop-part l = l.parts.items ≡ composition (change_at l.script l.update) (take l.part-index l.way)
