-- Bits of words and of rows.
use Rattle.std.proofs.Common.{◌≡◌, ℕ, suc, ◌+◌, ◌-◌, ◌*◌, ◌/◌, ◌%◌, ◌^◌, ◌<◌, ◌≤◌, ◌==◌, true, false, List, [], ◌∷◌, ◌⊎◌, inl, inr, ⊎_elim, length, set, get_or, sym, ap, subst, ◌∙◌, arith, w64, bit_or, bit_and, get_or-set_same, get_or-set_other, length-set}
use Rattle.std.proofs.Math.Nat.{div-eq_of_lt, div-lt_iff_lt-mul, mod-lt, pow-le-pow_right, pow-succ'}
use Rattle.std.proofs.lemmas.Nat.{leading_top, pow_pos, one_shl, and_mask}
use Rattle.std.proofs.lemmas.Nat.Bits.{bit_at_and, bit_at_ones, bit_at-lt, bit_at_set_same, bit_at_set_other, bit_at_clear_same, bit_at_clear_other}
use Rattle.std.proofs.lemmas.Bool.{cases_eq}
use Rattle.std.specs.Int.{bit_at, bit_not}
use Rattle.kex_frontier.specs.Rows.{has_mark, IsTop, AlsoMarks, Unmarks}
use lib.Count.{count_leading_zeros}

-- a number below a power has no bit from there on
no_bit : (a k i : ℕ) → a < 2 ^ k → k ≤ i → bit_at a i ≡ 0
no_bit a k i lt le =
    let more : 2 ^ k ≤ 2 ^ i = pow-le-pow_right (omega arith) le in
    let small : a < 2 ^ i = omega arith in
    ap (λ z. z % 2) (div-eq_of_lt small)

pub top_is : (a : ℕ) → 0 < a → a < 2 ^ 64 → IsTop a (63 - count_leading_zeros 64 a)
top_is a some small =
    let (j, e, lo, hi) = leading_top 64 a some small in
    let at : 63 - count_leading_zeros 64 a ≡ j = omega arith in
    let one : a / 2 ^ j ≡ 1 =
    let p : 0 < 2 ^ j = pow_pos j in
    let twice : 2 ^ suc j ≡ 2 * 2 ^ j = pow-succ' 2 j in
    let less : a / 2 ^ j < 2 = (div-lt_iff_lt-mul p).1 (omega arith) in
    let not_less : a / 2 ^ j < 1 → ⊥ = λ h. let q : a < 1 * 2 ^ j = (div-lt_iff_lt-mul p).0 h in omega arith in
    ⊎_elim (λ h. absurd (not_less h)) (λ h. h) (either (a / 2 ^ j) less) in
    subst (λ z. IsTop a z) (sym at) (record { within = omega arith; set = ap (λ z. z % 2) one; last = λ i lt. no_bit a (suc j) i hi lt })
  where
    either : (q : ℕ) → q < 2 → (q < 1) ⊎ (q ≡ 1)
    either q lt = grind arith

module _ (row : List ℕ) where
  -- the places from the word's on up to the end are looked at, but for the bits
  pub record Searching (end word bits : ℕ) : Type 0 where
    pub within : word ≤ end / 64
    pub same : (i : ℕ) → i < 64 → 64 * word + i < end → bit_at bits i ≡ bit_at (get_or row word 0) i
    pub none : (i : ℕ) → i < 64 → end ≤ 64 * word + i → bit_at bits i ≡ 0
    pub above : (m : ℕ) → 64 * (word + 1) ≤ m → m < end → has_mark row m ≡ false

  pub search_starts : (end x : ℕ) → x ≡ get_or row (end / 64) 0 → Searching end (end / 64) (bit_and x (1 * 2 ^ (end % 64) % 2 ^ 64 - 1))
  search_starts end x here =
      let k = end % 64 in
      let mask : 1 * 2 ^ k % 2 ^ 64 - 1 ≡ 2 ^ k - 1 = ap (λ z. z - 1) (one_shl k 64 (omega arith)) in
      let masked : bit_and x (1 * 2 ^ k % 2 ^ 64 - 1) ≡ bit_and x (2 ^ k - 1) = ap (λ z. bit_and x z) mask in
      record {
        within = omega arith;
        same = λ i lt below.
            let in_mask : i < k = omega arith in
            ap (λ z. bit_at z i) masked ∙ bit_at_and x (2 ^ k - 1) i ∙ (let ones : bit_at (2 ^ k - 1) i ≡ 1 = bit_at_ones k i in_mask in let small : bit_at x i < 2 = bit_at-lt x i in omega arith) ∙ ap (λ z. bit_at z i) here;
        none = λ i lt past.
            let low : x % 2 ^ k < 2 ^ k = mod-lt x (pow_pos k) in
            ap (λ z. bit_at z i) (masked ∙ and_mask x k) ∙ no_bit (x % 2 ^ k) k i low (omega arith);
        above = λ m past below. absurd (omega arith);
      }

-- the bit of a place is set
pub marks_one : (row : List ℕ) (place w : ℕ) → place / 64 < length row → w ≡ get_or row (place / 64) 0 → AlsoMarks (place ∷ []) row (set row (place / 64) (bit_or w (1 * 2 ^ (place % 64) % 2 ^ 64)))
marks_one row place w room here = record {
  room = length-set row (place / 64) with_it;
  kept = λ n h. ⊎_elim (λ e. subst (λ z. has_mark new z ≡ true) (sym e) itself) (λ ne. others n ne ∙ h) (cases_eq n place);
  added = λ n i. ⊎_elim (λ e. subst (λ z. has_mark new z ≡ true) e itself) (λ z. absurd z) i;
  only = λ n h. ⊎_elim (λ e. inr (inl (sym e))) (λ ne. inl (sym (others n ne) ∙ h)) (cases_eq n place);
}
  where
    with_it : ℕ
    with_it = bit_or w (1 * 2 ^ (place % 64) % 2 ^ 64)

    new : List ℕ
    new = set row (place / 64) with_it

    here_too : get_or new (place / 64) 0 ≡ with_it
    here_too = get_or-set_same row (place / 64) with_it 0 room

    itself : has_mark new place ≡ true
    itself = ap (λ z. bit_at z (place % 64) == 1) here_too ∙ ap (λ z. z == 1) (bit_at_set_same w64 w (place % 64) (omega arith))

    others : (n : ℕ) → (n ≡ place → ⊥) → has_mark new n ≡ has_mark row n
    others n ne = ⊎_elim (λ e. in_word e) (λ o. ap (λ z. bit_at z (n % 64) == 1) (get_or-set_other row (place / 64) (n / 64) with_it 0 o)) (cases_eq (n / 64) (place / 64))
      where
        in_word : n / 64 ≡ place / 64 → has_mark new n ≡ has_mark row n
        in_word e =
            let other : n % 64 ≡ place % 64 → ⊥ = λ r. ne (omega arith) in
            ap (λ k. bit_at (get_or new k 0) (n % 64) == 1) e ∙ ap (λ z. bit_at z (n % 64) == 1) here_too ∙ ap (λ z. z == 1) (bit_at_set_other w64 w (place % 64) (omega arith) (n % 64) other) ∙ ap (λ z. bit_at z (n % 64) == 1) here ∙ ap (λ k. bit_at (get_or row k 0) (n % 64) == 1) (sym e)

-- the bit of a place is taken away
pub unmarks_one : (row : List ℕ) (place w : ℕ) → place / 64 < length row → w ≡ get_or row (place / 64) 0 → Unmarks place row (set row (place / 64) (bit_and w (bit_not w64 (1 * 2 ^ (place % 64) % 2 ^ 64))))
unmarks_one row place w room here = record {
  room = length-set row (place / 64) without;
  gone = ap (λ z. bit_at z (place % 64) == 1) here_too ∙ ap (λ z. z == 1) (bit_at_clear_same w64 w (place % 64) (omega arith));
  others = others;
}
  where
    without : ℕ
    without = bit_and w (bit_not w64 (1 * 2 ^ (place % 64) % 2 ^ 64))

    new : List ℕ
    new = set row (place / 64) without

    here_too : get_or new (place / 64) 0 ≡ without
    here_too = get_or-set_same row (place / 64) without 0 room

    others : (n : ℕ) → (n ≡ place → ⊥) → has_mark new n ≡ has_mark row n
    others n ne = ⊎_elim (λ e. in_word e) (λ o. ap (λ z. bit_at z (n % 64) == 1) (get_or-set_other row (place / 64) (n / 64) without 0 o)) (cases_eq (n / 64) (place / 64))
      where
        in_word : n / 64 ≡ place / 64 → has_mark new n ≡ has_mark row n
        in_word e =
            let other : n % 64 ≡ place % 64 → ⊥ = λ r. ne (omega arith) in
            ap (λ k. bit_at (get_or new k 0) (n % 64) == 1) e ∙ ap (λ z. bit_at z (n % 64) == 1) here_too ∙ ap (λ z. z == 1) (bit_at_clear_other w64 w (place % 64) (omega arith) (n % 64) (omega arith) other) ∙ ap (λ z. bit_at z (n % 64) == 1) here ∙ ap (λ k. bit_at (get_or row k 0) (n % 64) == 1) (sym e)
