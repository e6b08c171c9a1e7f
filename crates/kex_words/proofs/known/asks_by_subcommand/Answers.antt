use Rattle.kex_words.proofs.Subcommands.{asks-by}
use Rattle.kex_words.proofs.known.asks_by_subcommand.Goals as goal

pub returns : goal.returns
returns c = asks-by
