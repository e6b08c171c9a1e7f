use Rattle.std.proofs.Common.{sym}
use Rattle.kex_byteset.proofs.Words.{not_words, not_fit}
use Rattle.kex_byteset.proofs.ByteSet.complement.Goals as goal

pub invariant_of-result : goal.invariant_of-result
invariant_of-result c =
    let words = c.self.inside.words in
    ((not_words words c.self.told c.self.invariant.1).long, not_fit words)

pub returns : goal.returns
returns c = rw (sym c.self.view_is) (not_words c.self.inside.words c.self.told c.self.invariant.1)
