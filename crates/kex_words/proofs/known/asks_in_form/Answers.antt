use Rattle.kex_words.proofs.Subcommands.{asks-in-form}
use Rattle.kex_words.proofs.known.asks_in_form.Goals as goal

pub returns : goal.returns
returns c = asks-in-form
