-- Transitions by class, of each class its own or shared.
use Rattle.std.specs.Prelude.{⊤, ◌≤◌, List, Option, length}
use Rattle.kex_sst.specs.declared.table.Transition.{Transition}
use Rattle.kex_sst.specs.declared.fan.Fanned.{Fanned}
use Rattle.kex_sst.specs.declared.fan.Fanned.TheVariants.{Each, Shared}

abbrev pub fan_of : Fanned → List (Option Transition)
fan_of (Each each) = each.items
fan_of (Shared shared) = shared.value

-- few classes alone each have their own
abbrev pub IsFanned : Fanned → Type 0
IsFanned (Each each) = length each.items ≤ 8
IsFanned (Shared shared) = ⊤
