use Rattle.kex_tokens.proofs.LiteralValues.{one_value}
use Rattle.kex_tokens.proofs.laws.one_value.Goals as goal

pub returns : goal.returns
returns c = one_value
