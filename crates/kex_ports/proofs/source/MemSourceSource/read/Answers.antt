use Rattle.std.proofs.Common.{rules}
use Rattle.kex_ports.proofs.FrontReads.{consumed, at-end}
use Rattle.kex_ports.proofs.source.MemSourceSource.read.Goals as goal

pub returns-clause-bytes : goal.returns-clause-bytes
returns-clause-bytes c = (
  consumed c.self.inside.bytes.items c.copy_front-count.new.buf c.args.self.now.left c.self.inside.at c.copy_front-count.result (search rules) (search rules),
  at-end c.self.inside.bytes.items c.copy_front-count.new.buf c.self.inside.at c.copy_front-count.result c.self.inside.per_read (search rules) c.self.invariant.1,
)
