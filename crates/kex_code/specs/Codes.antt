-- Codes: lists of symbols. Their bytes, what begins what, and which comes before which.
use Rattle.std.specs.Prelude.{◌≡◌, ℕ, Some, slice_get, List, [], ◌∷◌, ◌++◌, ◌⊎◌}
use Rattle.kex_code.specs.declared.symbol.Symbol.{Symbol}
use Rattle.kex_code.specs.declared.symbol.Symbol.TheVariants.{L, R, Byte}

-- the bytes that a code says were read, in order
abbrev pub bytes_of : List Symbol → List ℕ
bytes_of [] = []
bytes_of (L ∷ c) = bytes_of c
bytes_of (R ∷ c) = bytes_of c
bytes_of (Byte b ∷ c) = b ∷ bytes_of c

-- d begins with c
abbrev pub Begins : {A : Type 0} → List A → List A → Type 0
Begins {A} d c = (more : List A) × (d ≡ c ++ more)

-- c comes before d: where they first differ c has L and d has R
abbrev pub Before : List Symbol → List Symbol → Type 0
Before c d = (same x y : List Symbol) × (c ≡ same ++ L ∷ x) × (d ≡ same ++ R ∷ y)

-- c is d, or comes before it
abbrev pub AtMost : List Symbol → List Symbol → Type 0
AtMost c d = (c ≡ d) ⊎ Before c d

-- y is one of xs
abbrev pub IsAmong : {A : Type 0} → List A → A → Type 0
IsAmong [] y = ⊥
IsAmong (x ∷ xs) y = (x ≡ y) ⊎ IsAmong xs y

-- no two are equal
abbrev pub Different : {A : Type 0} → List A → Type 0
Different [] = Unit {0}
Different (x ∷ xs) = (IsAmong xs x → ⊥) × Different xs

-- number i of the list is x
abbrev pub HasNumber : {A : Type 0} → List A → A → ℕ → Type 0
HasNumber xs x i = slice_get xs i ≡ Some x
