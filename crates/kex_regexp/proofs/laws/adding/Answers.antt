use Rattle.kex_regexp.proofs.Additions.{ShowsRegex-more, names_stay}
use Rattle.kex_regexp.proofs.laws.adding.Goals as goal

pub returns-clause-shows : goal.returns-clause-shows
returns-clause-shows c = λ r old new n at a h. ShowsRegex-more r old new n at a h

pub returns-clause-names : goal.returns-clause-names
returns-clause-names c = λ old new names registers a h. names_stay old new names registers a h
