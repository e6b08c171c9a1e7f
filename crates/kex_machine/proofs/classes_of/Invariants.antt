use Rattle.std.proofs.Common.{take}
use Rattle.kex_machine.specs.Nodes.{HasClasses}
use Rattle.kex_machine.proofs.classes_of.Given as goal

abbrev pub invariant-loop-node : goal.invariant-loop-node
invariant-loop-node l = HasClasses (take l.node-index l.nodes) l.classes
