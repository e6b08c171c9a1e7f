use Rattle.std.proofs.Common.{◌≡◌, ◌+◌, take}
use Rattle.kex_sst.specs.Parts.{long_in}
use Rattle.kex_runner.proofs.registers.count_items.Given as goal

abbrev pub invariant-loop-list : goal.invariant-loop-list
invariant-loop-list g l = l.steps ≡ l.initial.steps + long_in (take l.list-index l.lists)
