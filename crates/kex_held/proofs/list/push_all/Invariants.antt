use Rattle.std.proofs.Common.{take}
use Rattle.kex_held.specs.Slices.{ListGoesOn}
use Rattle.kex_held.proofs.list.push_all.Given as goal

abbrev pub invariant-loop-item : goal.invariant-loop-item
invariant-loop-item l = ListGoesOn l.machine.nodes l.fn.items.items (take l.item-index l.more) l.items.items
