use Rattle.std.proofs.Common.{take, []}
use Rattle.kex_held.specs.Slices.{ListGoesOn}
use Rattle.kex_held.specs.HeldRows.{items_by_links}
use Rattle.kex_held.proofs.list.list_of.Given as goal

abbrev pub invariant-loop-link : goal.invariant-loop-link
invariant-loop-link l = ListGoesOn l.machine.nodes [] (items_by_links l.texts l.marks (take l.link-index l.links)) l.items.items
