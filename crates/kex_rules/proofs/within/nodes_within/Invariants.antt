use Rattle.std.proofs.Common.{◌≤◌, length}
use Rattle.kex_rules.specs.Within.{HasWithin}
use Rattle.kex_rules.proofs.within.nodes_within.Given as goal

abbrev pub invariant-nodes : goal.invariant-nodes
invariant-nodes l = record { fits : l.node ≤ length l.nodes; within : HasWithin l.program l.node l.within.items }

abbrev pub decreases-nodes : goal.decreases-nodes
decreases-nodes l = l.node
