use Rattle.std.proofs.Common.{◌≤◌, length}
use Rattle.kex_rules.specs.Tails.{HasApart}
use Rattle.kex_rules.proofs.tail.apart_nodes.Given as goal

abbrev pub invariant-nodes : goal.invariant-nodes
invariant-nodes l = record { within : l.node ≤ length l.nodes; apart : HasApart l.program l.marks l.node l.apart.items }

abbrev pub decreases-nodes : goal.decreases-nodes
decreases-nodes l = l.node
