use Rattle.kex_tokens.proofs.LiteralValues.{IsGiven}
use Rattle.kex_tokens.proofs.values.literal_bytes.Given as goal

abbrev pub invariant-loop-i : goal.invariant-loop-i
invariant-loop-i l = IsGiven l.spelling l.bytes.items l.state l.i
