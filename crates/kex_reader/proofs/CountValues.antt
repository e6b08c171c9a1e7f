-- What the code holds of a count is what the machine holds.
use Rattle.std.proofs.Common.{ℕ, List, Some, refl, ap}
use Rattle.kex_tokens.specs.declared.token.TokenKind.{TokenKind}
use Rattle.kex_tokens.specs.declared.token.TokenKind.TheVariants as kinds
use Rattle.kex_regexp.specs.declared.counts.Count.{Count}
use Rattle.kex_regexp.specs.declared.counts.Count.TheVariants as counts
use Rattle.kex_regexp.specs.Grammar.{is_digit}
use Rattle.kex_regexp.specs.Holding.{ShowsCount, ShowsCountStep}
use Rattle.kex_regexp.specs.Outcomes.{count_outcome, number_outcome}
use Rattle.kex_regexp.specs.Postfixes.{low, high}
use Rattle.kex_reader.specs.Syntax.{word}
use Rattle.kex_reader.specs.Reading.{Counting, Opened, Low, LowComma, LowHigh, OnlyComma, High, count_step}
use Rattle.kex_reader.specs.Stands.{HoldsNumber}
use Rattle.kex_reader.specs.Counts.{count_after}

pub count_refines : (x : Count) (c : Counting) (k : TokenKind) (b : List ℕ) (o : ℕ) → HoldsNumber o b → ShowsCount x c → ShowsCountStep (count_after x k o) (count_step c (word k b))
unfolding ShowsCount ShowsCountStep count_after count_step number_outcome count_outcome is_digit low high
count_refines counts.Opened Opened kinds.Number b o i h = i
count_refines counts.Opened Opened kinds.Comma b o i h = tt
count_refines counts.Opened Opened _ b o i h = tt
count_refines (counts.Low v) (Low n) kinds.Comma b o i h = h
count_refines (counts.Low v) (Low n) kinds.CloseBrace b o i h = (h, ap Some h)
count_refines (counts.Low v) (Low n) _ b o i h = tt
count_refines (counts.LowComma v) (LowComma n) kinds.Number b o i h = (h, i)
count_refines (counts.LowComma v) (LowComma n) kinds.CloseBrace b o i h = (h, refl)
count_refines (counts.LowComma v) (LowComma n) _ b o i h = tt
count_refines (counts.LowHigh v w) (LowHigh n m) kinds.CloseBrace b o i h = (h.0, ap Some h.1)
count_refines (counts.LowHigh v w) (LowHigh n m) _ b o i h = tt
count_refines counts.OnlyComma OnlyComma kinds.Number b o i h = i
count_refines counts.OnlyComma OnlyComma _ b o i h = tt
count_refines (counts.High w) (High m) kinds.CloseBrace b o i h = (refl, ap Some h)
count_refines (counts.High w) (High m) _ b o i h = tt
count_refines _ _ k b o i h = absurd h
