use Rattle.std.proofs.Common.{◌<◌, arith, sym}
use Rattle.kex_byteset.proofs.Words.{set_words, set_fit}
use Rattle.kex_byteset.proofs.ByteSet.insert.Goals as goal

pub invariant_of-self : goal.invariant_of-self
invariant_of-self c =
    let words = c.self.inside.words in
    let byte : c.args.byte < 256 = omega (arith, c.ranges.byte.fits) in
    rw c.from.ensures ((set_words words c.args.byte c.self.told byte).long, set_fit words c.args.byte c.self.told byte c.self.invariant.1)

pub returns : goal.returns
returns c = rw (c.from.ensures, sym c.self.view_is) (set_words c.self.inside.words c.args.byte c.self.told (omega (arith, c.ranges.byte.fits)))
