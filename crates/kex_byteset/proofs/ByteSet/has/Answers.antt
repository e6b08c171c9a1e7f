use Rattle.std.proofs.Common.{arith, sym}
use Rattle.kex_byteset.proofs.Words.{bit_is}
use Rattle.kex_byteset.proofs.ByteSet.has.Goals as goal

pub returns : goal.returns
returns c = rw (c.from.ensures, sym c.self.view_is) (bit_is c.self.inside.words c.args.byte c.self.told (omega (arith, c.ranges.byte.fits)))
