-- Flags, one after another.
use Rattle.std.proofs.Common.{◌≡◌, ℕ, ◌<◌, ◌==◌, ◌&&◌, Bool, true, false, nat_le, nat_lt, List, set, replicate, sym, ap, ◌∙◌, arith, inl, inr}
use Rattle.std.proofs.lemmas.Bool.{cases_eq}
use Rattle.std.proofs.lemmas.Bool.Decides.{nat_tests}
use Rattle.std.proofs.lemmas.List.{length-set, length-replicate, get_or-replicate, get_or-set_same, get_or-set_other, ext_get_or}
use Rattle.kex_byteset.specs.Sets.{HasExactly, has}

-- none are set
pub none_set : HasExactly (replicate 256 false) (λ _. false)
none_set = record { long = length-replicate 256 false; bytes = λ b h. get_or-replicate 256 b false false h }

-- one flag is written, and the test changes there alone
pub written : (s : List Bool) (f g : ℕ → Bool) (i : ℕ) (v : Bool) → HasExactly s f → i < 256 → g i ≡ v → ((b : ℕ) → b < 256 → (b ≡ i → ⊥) → g b ≡ f b) → HasExactly (set s i v) g
written s f g i v h lt at others = record {
  long = length-set s i v ∙ h.long;
  bytes = λ b below. elim (cases_eq b i) [
    | inl e ↦ ap (λ (x : ℕ). has (set s i v) x) e ∙ get_or-set_same s i v false (omega (arith, lt, h.long)) ∙ sym at ∙ ap g (sym e)
    | inr n ↦ get_or-set_other s i b v false n ∙ h.bytes b below ∙ sym (others b below n)
  ];
}

-- the same test in other words
pub in_words : (s : List Bool) (f g : ℕ → Bool) → HasExactly s f → ((b : ℕ) → b < 256 → f b ≡ g b) → HasExactly s g
in_words s f g h same = record { long = h.long; bytes = λ b below. h.bytes b below ∙ same b below }

-- a set is its bytes
pub same_set : (s t : List Bool) (test : ℕ → Bool) → HasExactly s test → HasExactly t test → s ≡ t
same_set s t test h k = ext_get_or false s t (h.long ∙ sym k.long) (λ i below. h.bytes i (omega (arith, below, h.long)) ∙ sym (k.bytes i (omega (arith, below, h.long))))

pub one_set : (byte : ℕ) → byte < 256 → HasExactly (set (replicate 256 false) byte true) (λ b. b == byte)
one_set byte lt = written (replicate 256 false) (λ _. false) (λ b. b == byte) byte true none_set lt (grind (arith, nat_tests)) (λ b below n. grind (arith, nat_tests))

-- the bytes from lo up to, not including, i
abbrev pub between : ℕ → ℕ → ℕ → Bool
between lo i b = nat_le lo b && nat_lt b i
