use Rattle.kex_byteset.proofs.Partitions.{one_class}
use Rattle.kex_byteset.proofs.classes.Partition.new.Goals as goal

pub invariant_of-result : goal.invariant_of-result
invariant_of-result c = one_class.numbered

pub returns : goal.returns
returns c = one_class
