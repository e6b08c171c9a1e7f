-- A number that was read, and the text that it was read from.
use Rattle.std.proofs.Common.{◌≡◌, ◌≤◌, ◌<◌, ◌^◌, ℕ, Bool, List, true, false, refl, sym, ◌∙◌, ap}
use Rattle.std.proofs.lemmas.Bool.{leb-true, le-leb}
use Rattle.std.specs.Prelude.{◌&&◌, nat_le, Option, Some, None, Result, Ok, Err, option_and_then}
use Rattle.std.specs.Str.Parse.{ParsesUnsigned, IsNumeral, digits_value, without_leading_plus}
use Rattle.clap.specs.Words.{Text, ReadsOne}
use Rattle.clap.specs.ValueTests.{is_unsigned_in}
use Rattle.clap.specs.declared.builder.value_parser.ValueParser.TheVariants as vp
use Rattle.clap.proofs.ValueTestLemmas.{accepts-Accepts, Accepts-accepts}
use Rattle.clap.proofs.WalkLemmas.{both}
use Rattle.kex_words.specs.Words.{number_within, bounded_number}

abbrev value : Text → ℕ
value t = digits_value 10 (without_leading_plus t)

abbrev Within : ℕ → ℕ → Text → Type 0
Within low high t = IsNumeral 10 (without_leading_plus t) × (value t < 2 ^ 64) × (low ≤ value t) × (value t ≤ high)

is_within : (low high : ℕ) (t : Text) → is_unsigned_in low high t ≡ true → Within low high t
is_within low high t e = accepts-Accepts false (vp.Unsigned low high) t e

within_is : (low high : ℕ) (t : Text) → Within low high t → is_unsigned_in low high t ≡ true
within_is low high t w = Accepts-accepts false (vp.Unsigned low high) t w

read-some : (low high v : ℕ) (t : Text) → IsNumeral 10 (without_leading_plus t) → value t < 2 ^ 64 → v ≡ value t
    → number_within low high (Some v) ≡ bounded_number low high t
read-some low high v t numeral small is = go (is_unsigned_in low high t) refl (nat_le low v && nat_le v high) refl where
  go : (b : Bool) → is_unsigned_in low high t ≡ b → (d : Bool) → (nat_le low v && nat_le v high) ≡ d
      → number_within low high (Some v) ≡ bounded_number low high t
  go true x true y = rw (x, y) (ap Some is)
  go true x false y =
      let w = is_within low high t x in
      let low_in : nat_le low v ≡ true = le-leb _ _ (rw is w.2) in
      let high_in : nat_le v high ≡ true = le-leb _ _ (rw is w.3) in
      let bad : false ≡ true = sym y ∙ rw (low_in, high_in) refl in cc
  go false x true y =
      let p = both _ _ y in
      let low_in : low ≤ value t = rw (← is) (leb-true low v p.0) in
      let high_in : value t ≤ high = rw (← is) (leb-true v high p.1) in
      let bad : false ≡ true = sym x ∙ within_is low high t (numeral, small, low_in, high_in) in cc
  go false x false y = rw (x, y) refl

read-none : (low high : ℕ) (t : Text) → ¬ (IsNumeral 10 (without_leading_plus t) × (value t < 2 ^ 64))
    → number_within low high None ≡ bounded_number low high t
read-none low high t refused = go (is_unsigned_in low high t) refl where
  go : (b : Bool) → is_unsigned_in low high t ≡ b → number_within low high None ≡ bounded_number low high t
  go true x = let w = is_within low high t x in absurd (refused (w.0, w.1))
  go false x = rw x refl

pub number-read : (E : Type 0) (G : List ℕ → Result ℕ E → Type 0) (low high : ℕ) (o : Option Text) (r : Option ℕ)
    → ((u : List ℕ) (x : Result ℕ E) → G u x → ParsesUnsigned 64 10 u x)
    → (o ≡ None → r ≡ None) → ((t : Text) → o ≡ Some t → ReadsOne G t r)
    → number_within low high r ≡ option_and_then (bounded_number low high) o
number-read E G low high None r only none value = ap (number_within low high) (none refl)
number-read E G low high (Some t) (Some v) only none value =
    let p = only t (Ok v) (value t refl) in read-some low high v t p.0.0 p.0.1 p.1
number-read E G low high (Some t) None only none value =
    let p = value t refl in read-none low high t (only t (Err p.0) p.1)
