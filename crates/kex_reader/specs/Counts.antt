-- What comes of the code's counts by one word, by its kind and its number.
use Rattle.std.specs.Prelude.{ℕ}
use Rattle.kex_tokens.specs.Bytes as byte
use Rattle.kex_tokens.specs.declared.token.TokenKind.{TokenKind}
use Rattle.kex_tokens.specs.declared.token.TokenKind.TheVariants as kinds
use Rattle.kex_regexp.specs.declared.counts.Count.{Count}
use Rattle.kex_regexp.specs.declared.counts.CountOutcome.{CountOutcome}
use Rattle.kex_regexp.specs.declared.counts.CountOutcome.TheVariants as outcomes
use Rattle.kex_regexp.specs.Outcomes.{count_outcome, number_outcome}

unfoldable pub count_after : Count → TokenKind → ℕ → CountOutcome
count_after c kinds.Number n = number_outcome c n
count_after c kinds.Comma n = count_outcome c byte.comma
count_after c kinds.CloseBrace n = count_outcome c byte.close_brace
count_after c _ n = outcomes.Wrong
