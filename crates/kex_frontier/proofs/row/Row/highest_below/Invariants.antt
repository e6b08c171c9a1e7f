use Rattle.kex_frontier.proofs.Bits.{Searching}
use Rattle.kex_frontier.proofs.row.Row.highest_below.Given as goal

abbrev pub invariant-words : goal.invariant-words
invariant-words l = Searching l.self l.end l.word l.bits

abbrev pub decreases-words : goal.decreases-words
decreases-words l = l.word
