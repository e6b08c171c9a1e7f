-- The bits of words, and the flags that they show.
use Rattle.std.proofs.Common.{◌≡◌, ℕ, zero, suc, ◌+◌, ◌-◌, ◌*◌, ◌/◌, ◌%◌, ◌^◌, ◌<◌, ◌==◌, ◌||◌, Bool, true, false, not, List, [], ◌∷◌, ◌++◌, length, set, get_or, refl, sym, ap, ◌∙◌, arith, inl, inr, w64, bit_or, bit_and, count_by, cond, subst}
use Rattle.std.proofs.lemmas.Bool.{cases_eq}
use Rattle.std.proofs.lemmas.Bool.Decides.{nat_tests}
use Rattle.std.proofs.lemmas.Nat.{or_lt, zero_from_ones, ones_le_self}
use Rattle.std.proofs.lemmas.Nat.Bits.{bit_at_or, bit_at_not, bit_at-lt, bit_at-zero, shr_and_one, bit_at_set_same, bit_at_set_other, same_from_bits_below}
use Rattle.std.proofs.lemmas.Simd.{bit_mask_l, ones-mask_l, mask_l-lt}
use Rattle.std.specs.Int.RustNames.{count_ones}
use lib.Lanes.{mask_l}
use Rattle.std.proofs.lemmas.List.{length-append, get_or-append-add, get_or_append_left, length-set, get_or-set_same, get_or-set_other, map-id}
use Rattle.std.proofs.lemmas.List.FromFn.{length-map-range_with_len, get_or-map-range_with_len}
use Rattle.std.proofs.lemmas.List.Sums.{sum_by-cons, sum_by-append}
use Rattle.std.proofs.lemmas.List.Folds.{list_any-append}
use Rattle.std.specs.List.{list_any}
use Rattle.std.specs.Int.{bit_at}
use Rattle.kex_byteset.specs.Sets.{HasExactly, has}
use Rattle.kex_byteset.specs.Words.{bits, flags, AreWords}

-- whether the bit of a byte is set
abbrev pub bit : List ℕ → ℕ → Bool
bit words b = bit_at (get_or words (b / 64) 0) (b % 64) == 1

length_bits : (word : ℕ) → length (bits word) ≡ 64
unfolding bits
length_bits word = length-map-range_with_len (λ i. bit_at word i == 1) 0 64

get_or_bits : (word j : ℕ) → j < 64 → has (bits word) j ≡ (bit_at word j == 1)
unfolding bits
get_or_bits word j lt = get_or-map-range_with_len (λ i. bit_at word i == 1) 0 64 j j false lt (omega arith)

length_flags : (words : List ℕ) → length (flags words) ≡ 64 * length words
unfolding flags
length_flags [] = refl
length_flags (w ∷ ws) = omega (arith, length-append (bits w) (flags ws), length_bits w, length_flags ws)

-- flag j of word i
flag_at : (words : List ℕ) (i j : ℕ) → i < length words → j < 64 → has (flags words) (64 * i + j) ≡ (bit_at (get_or words i 0) j == 1)
unfolding flags
flag_at [] i j below small = absurd (omega arith)
flag_at (w ∷ ws) zero j below small =
    let at : 64 * 0 + j ≡ j = omega arith in
    ap (λ k. has (bits w ++ flags ws) k) at ∙ get_or_append_left (bits w) (flags ws) false j (omega (arith, length_bits w)) ∙ get_or_bits w j small
flag_at (w ∷ ws) (suc i) j below small =
    let at : 64 * suc i + j ≡ length (bits w) + (64 * i + j) = omega (arith, length_bits w) in
    ap (λ k. has (bits w ++ flags ws) k) at ∙ get_or-append-add (bits w) (flags ws) (64 * i + j) false ∙ flag_at ws i j (omega arith) small

-- a flag is the bit of its byte
pub flag : (words : List ℕ) (b : ℕ) → length words ≡ 4 → b < 256 → has (flags words) b ≡ bit words b
flag words b e lt =
    let at : b ≡ 64 * (b / 64) + b % 64 = omega arith in
    ap (λ k. has (flags words) k) at ∙ flag_at words (b / 64) (b % 64) (omega arith) (omega arith)

-- four words whose bits say what a test says
pub exactly : (words : List ℕ) (test : ℕ → Bool) → length words ≡ 4 → ((b : ℕ) → b < 256 → bit words b ≡ test b) → HasExactly (flags words) test
exactly words test e h = record { long = omega (arith, length_flags words); bytes = λ b lt. flag words b e lt ∙ h b lt }

-- ---- one bit of a word

bit_or_is : (a b i : ℕ) → (bit_at (bit_or a b) i == 1) ≡ ((bit_at a i == 1) || (bit_at b i == 1))
bit_or_is a b i = grind (arith, nat_tests, bit_at_or a b i, bit_at-lt a i, bit_at-lt b i)

bit_not_is : (a i : ℕ) → a < 2 ^ 64 → i < 64 → (bit_at (2 ^ 64 - 1 - a) i == 1) ≡ not (bit_at a i == 1)
bit_not_is a i fits lt = grind (arith, nat_tests, bit_at_not w64 a i fits lt, bit_at-lt a i)

-- ---- four words

four : (f : ℕ → ℕ) (i : ℕ) → i < 4 → get_or (f 0 ∷ f 1 ∷ f 2 ∷ f 3 ∷ []) i 0 ≡ f i
four f zero lt = refl
four f (suc zero) lt = refl
four f (suc (suc zero)) lt = refl
four f (suc (suc (suc zero))) lt = refl
four f (suc (suc (suc (suc i)))) lt = absurd (omega arith)

four_fit : (f : ℕ → ℕ) → ((i : ℕ) → f i < 2 ^ 64) → AreWords (f 0 ∷ f 1 ∷ f 2 ∷ f 3 ∷ [])
four_fit f h zero = h 0
four_fit f h (suc zero) = h 1
four_fit f h (suc (suc zero)) = h 2
four_fit f h (suc (suc (suc zero))) = h 3
four_fit f h (suc (suc (suc (suc i)))) = omega arith

four_exactly : (f : ℕ → ℕ) (test : ℕ → Bool) → ((b : ℕ) → b < 256 → (bit_at (f (b / 64)) (b % 64) == 1) ≡ test b) → HasExactly (flags (f 0 ∷ f 1 ∷ f 2 ∷ f 3 ∷ [])) test
four_exactly f test h = exactly _ test refl (λ b lt. ap (λ w. bit_at w (b % 64) == 1) (four f (b / 64) (omega arith)) ∙ h b lt)

-- ---- what the operations on words do to sets

pub none_words : HasExactly (flags (0 ∷ 0 ∷ 0 ∷ 0 ∷ [])) (λ _. false)
none_words = four_exactly (λ _. 0) (λ _. false) (λ b lt. ap (λ x. x == 1) (bit_at-zero (b % 64)))

module _ (s t : List ℕ) where
  abbrev or_at : ℕ → ℕ
  or_at i = bit_or (get_or s i 0) (get_or t i 0)

  pub or_fit : AreWords s → AreWords t → AreWords (or_at 0 ∷ or_at 1 ∷ or_at 2 ∷ or_at 3 ∷ [])
  or_fit h k = four_fit or_at (λ i. or_lt 64 _ _ (h i) (k i))

  pub or_words : length s ≡ 4 → length t ≡ 4 → HasExactly (flags (or_at 0 ∷ or_at 1 ∷ or_at 2 ∷ or_at 3 ∷ [])) (λ b. has (flags s) b || has (flags t) b)
  or_words e d = four_exactly or_at _ (λ b lt. bit_or_is _ _ (b % 64) ∙ (λ k. sym (flag s b e lt) k || sym (flag t b d lt) k))

module _ (s : List ℕ) where
  abbrev not_at : ℕ → ℕ
  not_at i = 2 ^ 64 - 1 - get_or s i 0

  pub not_fit : AreWords (not_at 0 ∷ not_at 1 ∷ not_at 2 ∷ not_at 3 ∷ [])
  not_fit = four_fit not_at (λ i. omega arith)

  pub not_words : length s ≡ 4 → AreWords s → HasExactly (flags (not_at 0 ∷ not_at 1 ∷ not_at 2 ∷ not_at 3 ∷ [])) (λ b. not (has (flags s) b))
  not_words e h = four_exactly not_at _ (λ b lt. bit_not_is _ (b % 64) (h (b / 64)) (omega arith) ∙ ap not (sym (flag s b e lt)))

-- ---- one bit is set

with_it : (x : Bool) (b c : ℕ) → b ≡ c → true ≡ (x || b == c)
with_it x b c e = grind (arith, nat_tests)

without_it : (x : Bool) (b c : ℕ) → (b ≡ c → ⊥) → x ≡ (x || b == c)
without_it x b c n = grind (arith, nat_tests)

module _ (s : List ℕ) (byte : ℕ) where
  -- the byte's word with the byte's bit
  abbrev with_bit : ℕ
  with_bit = bit_or (get_or s (byte / 64) 0) (1 * 2 ^ (byte % 64) % 2 ^ 64)

  abbrev set_at : List ℕ
  set_at = set s (byte / 64) with_bit

  set_same : length s ≡ 4 → byte < 256 → get_or set_at (byte / 64) 0 ≡ with_bit
  set_same e lt = get_or-set_same s (byte / 64) _ 0 (omega (arith, e))

  pub set_fit : length s ≡ 4 → byte < 256 → AreWords s → AreWords set_at
  set_fit e lt h i = elim (cases_eq i (byte / 64)) [
    | inl q ↦ omega (arith, ap (λ k. get_or set_at k 0) q, set_same e lt, or_lt 64 (get_or s (byte / 64) 0) (1 * 2 ^ (byte % 64) % 2 ^ 64) (h (byte / 64)) (omega arith))
    | inr n ↦ omega (arith, get_or-set_other s (byte / 64) i with_bit 0 n, h i)
  ]

  in_its_word : (b : ℕ) → length s ≡ 4 → byte < 256 → b < 256 → b / 64 ≡ byte / 64 → bit set_at b ≡ (bit s b || b == byte)
  in_its_word b e lt below q =
      let word : get_or set_at (b / 64) 0 ≡ with_bit = ap (λ k. get_or set_at k 0) q ∙ set_same e lt in
      elim (cases_eq (b % 64) (byte % 64)) [
        | inl r ↦ (
            let one : bit_at (get_or set_at (b / 64) 0) (b % 64) ≡ 1 = (λ i. bit_at (word i) (r i)) ∙ bit_at_set_same w64 _ (byte % 64) (omega arith) in
            ap (λ x. x == 1) one ∙ with_it (bit s b) b byte (omega arith)
            )
        | inr n ↦ (
            let old : bit_at (get_or set_at (b / 64) 0) (b % 64) ≡ bit_at (get_or s (b / 64) 0) (b % 64) =
            ap (λ w. bit_at w (b % 64)) word ∙ bit_at_set_other w64 _ (byte % 64) (omega arith) (b % 64) n ∙ ap (λ k. bit_at (get_or s k 0) (b % 64)) (sym q) in
            ap (λ x. x == 1) old ∙ without_it (bit s b) b byte (λ same. n (ap (λ k. k % 64) same))
            )
      ]

  bit_set : (b : ℕ) → length s ≡ 4 → byte < 256 → b < 256 → bit set_at b ≡ (bit s b || b == byte)
  bit_set b e lt below = elim (cases_eq (b / 64) (byte / 64)) [
    | inl q ↦ in_its_word b e lt below q
    | inr n ↦ ap (λ w. bit_at w (b % 64) == 1) (get_or-set_other s (byte / 64) (b / 64) _ 0 n) ∙ without_it (bit s b) b byte (λ same. n (ap (λ k. k / 64) same))
  ]

  pub set_words : length s ≡ 4 → byte < 256 → HasExactly (flags set_at) (λ b. has (flags s) b || b == byte)
  set_words e lt = exactly set_at _ (length-set _ _ _ ∙ e) (λ b below. bit_set b e lt below ∙ ap (λ x. x || b == byte) (sym (flag s b e below)))

-- ---- one bit is read

pub bit_is : (s : List ℕ) (byte : ℕ) → length s ≡ 4 → byte < 256 → (bit_and (get_or s (byte / 64) 0 / 2 ^ (byte % 64)) 1 == 1) ≡ has (flags s) byte
bit_is s byte e lt = ap (λ x. x == 1) (shr_and_one _ (byte % 64)) ∙ sym (flag s byte e lt)

-- ---- the bits are counted

cond_bit : (w i : ℕ) → cond (bit_at w i == 1) 1 0 ≡ bit_at w i
cond_bit w i = grind (arith, nat_tests, bit_at-lt w i)

word_is : (w : ℕ) → w < 2 ^ 64 → mask_l (bits w) ≡ w
word_is w fits =
    let below : mask_l (bits w) < 2 ^ 64 = subst (λ k. mask_l (bits w) < 2 ^ k) (length_bits w) (mask_l-lt (bits w)) in
    same_from_bits_below 64 (mask_l (bits w)) w below fits (λ i lt. bit_mask_l (bits w) i ∙ ap (λ x. cond x 1 0) (get_or_bits w i lt) ∙ cond_bit w i)

count_bits : (w : ℕ) → w < 2 ^ 64 → count_by (λ b. b) (bits w) ≡ count_ones w
count_bits w fits = sym (ones-mask_l (λ b. b) (bits w)) ∙ ap (λ l. count_ones (mask_l l)) (map-id (bits w)) ∙ ap count_ones (word_is w fits)

count_flags : (w : ℕ) (ws : List ℕ) → w < 2 ^ 64 → count_by (λ b. b) (flags (w ∷ ws)) ≡ count_ones w + count_by (λ b. b) (flags ws)
unfolding flags
count_flags w ws fits = sum_by-append (λ x. cond x 1 0) (bits w) (flags ws) ∙ ap (λ n. n + count_by (λ b. b) (flags ws)) (count_bits w fits)

count_none : count_by (λ b. b) (flags []) ≡ 0
unfolding flags
count_none = refl

pub count_words : (s : List ℕ) → length s ≡ 4 → AreWords s
    → count_by (λ b. b) (flags s) ≡ count_ones (get_or s 0 0) + count_ones (get_or s 1 0) + count_ones (get_or s 2 0) + count_ones (get_or s 3 0)
count_words (a ∷ b ∷ c ∷ d ∷ []) e h =
    omega (arith, count_flags a (b ∷ c ∷ d ∷ []) (h 0), count_flags b (c ∷ d ∷ []) (h 1), count_flags c (d ∷ []) (h 2), count_flags d [] (h 3), count_none)
count_words _ e h = absurd (omega arith)

-- ---- some bit is set

any_count : (xs : List Bool) → list_any (λ b. b) xs ≡ not (count_by (λ b. b) xs == 0)
any_count [] = refl
any_count (true ∷ xs) = grind (arith, nat_tests, sum_by-cons (λ (x : Bool). cond x 1 0) true xs)
any_count (false ∷ xs) = any_count xs

any_bits : (w : ℕ) → w < 2 ^ 64 → list_any (λ b. b) (bits w) ≡ not (w == 0)
any_bits w fits = any_count (bits w) ∙ ap (λ n. not (n == 0)) (count_bits w fits) ∙ zero_ones
  where
    zero_ones : not (count_ones w == 0) ≡ not (w == 0)
    zero_ones = grind (arith, nat_tests, zero_from_ones w, ones_le_self w)

pub any_words : (s : List ℕ) → AreWords s → list_any (λ b. b) (flags s) ≡ list_any (λ w. not (w == 0)) s
unfolding flags
any_words [] h = refl
any_words (w ∷ ws) h = list_any-append (λ b. b) (bits w) (flags ws) ∙ (λ i. any_bits w (h 0) i || any_words ws (λ k. h (suc k)) i)
