-- Texts of codes: of two codes joined, and of what a text begins with.
use Rattle.std.proofs.Common.{◌≡◌, ℕ, ◌<◌, ◌*◌, ◌/◌, ◌%◌, List, [], ◌∷◌, ◌++◌, refl, sym, ap, ◌∙◌, append_assoc, arith, get_or, drop}
use Rattle.std.specs.Char.{digit_char}
use Rattle.kex_code.specs.declared.symbol.Symbol.{Symbol}
use Rattle.kex_code.specs.declared.symbol.Symbol.TheVariants.{L, R, Byte}
use Rattle.kex_code.specs.declared.reader.Begun.{Begun}
use Rattle.kex_code.specs.declared.reader.Begun.TheVariants.{Nothing, Quote, Digit}
use Rattle.kex_code.specs.Texts.{apostrophe, text_of, IsCode, BeginsText, IsBegun, SpellsCode}
use Rattle.kex_code.specs.Begun.{text_begun, IsPart}

pub text_of-append : (c d : List Symbol) → text_of (c ++ d) ≡ text_of c ++ text_of d
text_of-append [] d = refl
text_of-append (L ∷ c) d = ap (λ z. digit_char 0 ∷ z) (text_of-append c d)
text_of-append (R ∷ c) d = ap (λ z. digit_char 1 ∷ z) (text_of-append c d)
text_of-append (Byte b ∷ c) d = ap (λ z. apostrophe ∷ digit_char (b / 16) ∷ digit_char (b % 16) ∷ z) (text_of-append c d)

pub IsCode-append : (c d : List Symbol) → IsCode c → IsCode d → IsCode (c ++ d)
IsCode-append [] d h k = k
IsCode-append (L ∷ c) d h k = IsCode-append c d h k
IsCode-append (R ∷ c) d h k = IsCode-append c d h k
IsCode-append (Byte b ∷ c) d h k = (h.0, IsCode-append c d h.1 k)

clash : {A : Type 0} (x y : ℕ) (xs ys : List ℕ) → (x ≡ y → ⊥) → x ∷ xs ≡ y ∷ ys → A
clash x y xs ys apart e = absurd (apart (ap (λ z. get_or z 0 0) e))

tails : (x y : ℕ) (xs ys : List ℕ) → x ∷ xs ≡ y ∷ ys → xs ≡ ys
tails x y xs ys e = ap (λ z. drop 1 z) e

-- where the text of a code begins with that of another, the rest is a code's text too
pub text_behind : (c d : List Symbol) (s : List ℕ) → IsCode d → text_of d ≡ text_of c ++ s → (e : List Symbol) × IsCode e × (text_of e ≡ s)
text_behind [] d s k e = (d, k, e)
text_behind (L ∷ c) [] s k e = cc
text_behind (L ∷ c) (L ∷ d) s k e = text_behind c d s k (tails 48 48 _ _ e)
text_behind (L ∷ c) (R ∷ d) s k e = clash 49 48 _ _ (λ h. omega arith) e
text_behind (L ∷ c) (Byte a ∷ d) s k e = clash 39 48 _ _ (λ h. omega arith) e
text_behind (R ∷ c) [] s k e = cc
text_behind (R ∷ c) (L ∷ d) s k e = clash 48 49 _ _ (λ h. omega arith) e
text_behind (R ∷ c) (R ∷ d) s k e = text_behind c d s k (tails 49 49 _ _ e)
text_behind (R ∷ c) (Byte a ∷ d) s k e = clash 39 49 _ _ (λ h. omega arith) e
text_behind (Byte b ∷ c) [] s k e = cc
text_behind (Byte b ∷ c) (L ∷ d) s k e = clash 48 39 _ _ (λ h. omega arith) e
text_behind (Byte b ∷ c) (R ∷ d) s k e = clash 49 39 _ _ (λ h. omega arith) e
text_behind (Byte b ∷ c) (Byte a ∷ d) s k e = text_behind c d s k.1 (tails _ _ _ _ (tails _ _ _ _ (tails 39 39 _ _ e)))

pub begins_behind : (c : List Symbol) (s : List ℕ) → BeginsText (text_of c ++ s) → BeginsText s
begins_behind c s (d, k, (more, e)) =
    let r = text_behind c d (s ++ more) k (e ∙ append_assoc (text_of c) s more) in
    (r.0, r.1, (more, r.2))

pub spells_begins : (w : List ℕ) (c : List Symbol) (s : List ℕ) → SpellsCode w c s → BeginsText w
spells_begins w c s h =
    let (x, next, more, k, e) = h.front in (
      c ++ x ∷ [],
      IsCode-append c (x ∷ []) h.code k,
      (
        next ∷ more,
        text_of-append c (x ∷ []) ∙ ap (λ z. text_of c ++ z) e ∙ sym (append_assoc (text_of c) s (next ∷ more)) ∙ ap (λ z. z ++ next ∷ more) (sym h.text),
      ),
    )

high_of : (v : ℕ) → v < 16 → 16 * v / 16 ≡ v
high_of v lt = omega arith

-- what is begun goes on
pub is_begun : (p : Begun) → IsPart p → IsBegun (text_begun p)
is_begun Nothing h = (L, digit_char 0, [], tt, refl)
is_begun Quote h = (Byte 0, digit_char 0, digit_char 0 ∷ [], (omega arith, tt), refl)
is_begun (Digit v) h = (Byte (16 * v), digit_char (16 * v % 16), [], (omega arith, tt), ap (λ z. apostrophe ∷ digit_char z ∷ digit_char (16 * v % 16) ∷ []) (high_of v h))

-- a code's text that is what is begun is empty
pub none_begun : (p : Begun) (d : List Symbol) → text_of d ≡ text_begun p → text_begun p ≡ []
none_begun Nothing d e = refl
none_begun p [] e = sym e
none_begun Quote (L ∷ d) e = clash 48 39 _ _ (λ h. omega arith) e
none_begun Quote (R ∷ d) e = clash 49 39 _ _ (λ h. omega arith) e
none_begun Quote (Byte b ∷ d) e = let f : digit_char (b / 16) ∷ digit_char (b % 16) ∷ text_of d ≡ [] = tails 39 39 _ _ e in cc
none_begun (Digit v) (L ∷ d) e = clash 48 39 _ _ (λ h. omega arith) e
none_begun (Digit v) (R ∷ d) e = clash 49 39 _ _ (λ h. omega arith) e
none_begun (Digit v) (Byte b ∷ d) e = let f : digit_char (b % 16) ∷ text_of d ≡ [] = tails _ _ _ _ (tails 39 39 _ _ e) in cc

pub nothing_begun : (p : Begun) → text_begun p ≡ [] → p ≡ Nothing
nothing_begun Nothing e = refl
nothing_begun Quote e = cc
nothing_begun (Digit v) e = cc

-- a byte that is no code's first one
pub no_first : (b : ℕ) → (b ≡ 48 → ⊥) → (b ≡ 49 → ⊥) → (b ≡ 39 → ⊥) → BeginsText (b ∷ []) → ⊥
no_first b zero one mark ([], k, (more, e)) = cc
no_first b zero one mark (L ∷ d, k, (more, e)) = zero (sym (ap (λ z. get_or z 0 0) e))
no_first b zero one mark (R ∷ d, k, (more, e)) = one (sym (ap (λ z. get_or z 0 0) e))
no_first b zero one mark (Byte a ∷ d, k, (more, e)) = mark (sym (ap (λ z. get_or z 0 0) e))

-- a byte that is no digit
pub no_digit : (b : ℕ) → ((v : ℕ) → v < 16 → b ≡ digit_char v → ⊥) → BeginsText (apostrophe ∷ b ∷ []) → ⊥
no_digit b none ([], k, (more, e)) = cc
no_digit b none (L ∷ d, k, (more, e)) = clash 48 39 _ _ (λ h. omega arith) e
no_digit b none (R ∷ d, k, (more, e)) = clash 49 39 _ _ (λ h. omega arith) e
no_digit b none (Byte a ∷ d, k, (more, e)) = let lt : a < 256 = k.0 in none (a / 16) (omega arith) (sym (ap (λ z. get_or z 1 0) e))

pub no_second_digit : (v b : ℕ) → ((v : ℕ) → v < 16 → b ≡ digit_char v → ⊥) → BeginsText (apostrophe ∷ digit_char v ∷ b ∷ []) → ⊥
no_second_digit v b none ([], k, (more, e)) = cc
no_second_digit v b none (L ∷ d, k, (more, e)) = clash 48 39 _ _ (λ h. omega arith) e
no_second_digit v b none (R ∷ d, k, (more, e)) = clash 49 39 _ _ (λ h. omega arith) e
no_second_digit v b none (Byte a ∷ d, k, (more, e)) = none (a % 16) (omega arith) (sym (ap (λ z. get_or z 2 0) e))
