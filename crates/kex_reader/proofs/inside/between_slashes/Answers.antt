use Rattle.std.proofs.Common.{ℕ, ◌≤◌, ◌∷◌, [], List, length, ap, arith, length-append}
use Rattle.kex_tokens.specs.declared.token.TokenKind.TheVariants as kinds
use Rattle.kex_tokens.specs.Lexemes.{IsToken}
use Rattle.kex_reader.proofs.inside.between_slashes.Goals as goal

regex_long : (bytes : List ℕ) → IsToken kinds.Regex bytes → 3 ≤ length bytes
unfolding IsToken
regex_long bytes h = omega (arith, ap (λ (w : List ℕ). length w) h.6, length-append h.1 (47 ∷ []))

pub split_at-requires : goal.split_at-requires
split_at-requires c = omega (arith, regex_long c.args.spelling.now c.requires)

pub overflow_sub-spelling : goal.overflow_sub-spelling
overflow_sub-spelling c = omega (arith, regex_long c.args.spelling.now c.requires)

pub returns-clause-short : goal.returns-clause-short
returns-clause-short c = omega (arith, regex_long c.args.spelling.now c.requires, c.split_at-2.ensures.front_len)
