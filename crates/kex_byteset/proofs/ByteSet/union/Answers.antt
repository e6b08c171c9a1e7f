use Rattle.std.proofs.Common.{sym}
use Rattle.kex_byteset.proofs.Words.{or_words, or_fit}
use Rattle.kex_byteset.proofs.ByteSet.union.Goals as goal

pub invariant_of-result : goal.invariant_of-result
invariant_of-result c =
    let s = c.self.inside.words in
    let t = c.other.inside.words in
    ((or_words s t c.self.told c.other.told).long, or_fit s t c.self.invariant.1 c.other.invariant.1)

pub returns : goal.returns
returns c = rw (sym c.self.view_is, sym c.other.view_is) (or_words c.self.inside.words c.other.inside.words c.self.told c.other.told)
