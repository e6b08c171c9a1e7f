-- The tokens of a text, and the first place where none can be completed.
use Rattle.std.specs.Prelude.{◌≡◌, ℕ, ◌+◌, ◌<◌, ◌≤◌, List, [], ◌∷◌, ◌++◌, length, drop}
use Rattle.std.specs.List.{slice_range}
use Rattle.kex_tokens.specs.declared.token.Token.{Token}
use Rattle.kex_tokens.specs.declared.token.TokenFault.{TokenFault}
use Rattle.kex_tokens.specs.declared.token.TokenFault.TheVariants.{TextTooLong, BadToken, Memory}
use Rattle.kex_tokens.specs.Lexemes.{Lexeme, Space, LineComment, BlockComment, Kept, SizedLexeme}
use Rattle.kex_tokens.specs.Lexemes.{IsToken, IsLongest, HasNoLexeme}

-- how many bytes a text may have
abbrev pub most_text : ℕ
most_text = 1048576

-- the pieces are the text from one offset up to another, the longest lexeme at each place
unfoldable pub Covers : List ℕ → ℕ → List SizedLexeme → ℕ → Type 0
Covers text from [] to = from ≡ to
Covers text from (p ∷ ps) to = IsLongest (drop from text) p × Covers text (from + p.long) ps to

-- what a piece adds to the tokens; white space and comments are dropped
abbrev pub added_tokens : Lexeme → ℕ → ℕ → List Token
added_tokens (Kept kind) from to = record { kind = kind; from = from; to = to } ∷ []
added_tokens Space from to = []
added_tokens LineComment from to = []
added_tokens BlockComment from to = []

unfoldable pub tokens_of : ℕ → List SizedLexeme → List Token
tokens_of from [] = []
tokens_of from (p ∷ ps) = added_tokens p.lexeme from (from + p.long) ++ tokens_of (from + p.long) ps

-- the whole text is cut into the longest lexemes, and these are the tokens among them
abbrev pub AreTokens : List ℕ → List Token → Type 0
AreTokens text ts = (ps : List SizedLexeme) × Covers text 0 ps (length text) × (tokens_of 0 ps ≡ ts)

-- the text before this offset is cut into the longest lexemes, and none can be completed there
abbrev pub IsBadToken : List ℕ → ℕ → Type 0
IsBadToken text at = (ps : List SizedLexeme) × Covers text 0 ps at × (at < length text)
    × HasNoLexeme (drop at text)

-- a span within the text that is spelled as its kind says
pub record IsSpan (text : List ℕ) (t : Token) : Type 0 where
  pub filled : t.from < t.to
  pub inside : t.to ≤ length text
  pub is : IsToken t.kind (slice_range text t.from t.to)

-- each span ends before the next begins
unfoldable pub AreInOrder : ℕ → List Token → Type 0
AreInOrder from [] = Unit {0}
AreInOrder from (t ∷ ts) = (from ≤ t.from) × AreInOrder t.to ts

-- why a text is refused: too long before all else
abbrev pub AreTokensRefused : TokenFault → List ℕ → Type 0
AreTokensRefused TextTooLong text = most_text < length text
AreTokensRefused (BadToken at) text = (length text ≤ most_text) × IsBadToken text at
AreTokensRefused Memory text = length text ≤ most_text
