use Rattle.std.proofs.Common.{arith, sym}
use Rattle.kex_byteset.proofs.Partitions.{below_count}
use Rattle.kex_byteset.proofs.classes.Partition.class_of.Goals as goal

pub returns-clause-below : goal.returns-clause-below
returns-clause-below c = rw (sym c.self.view_is) (below_count c.self.inside.classes c.from.result (omega (arith, c.from.ensures, c.ranges.b.fits, c.self.told)))
