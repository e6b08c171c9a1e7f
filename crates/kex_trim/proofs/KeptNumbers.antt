-- Numbers for what is kept.
use Rattle.std.proofs.Common.{◌≡◌, ◌≢◌, ℕ, zero, suc, ◌<◌, ◌≤◌, ◌+◌, Bool, true, false, List, [], ◌∷◌, ◌++◌, ◌⊎◌, ⊎_elim, length, get_or, set, sym, ap, subst, ◌∙◌, length-append, length-set, get_or-set_same, get_or-set_other, arith}
use Rattle.kex_code.specs.Codes.{HasNumber}
use Rattle.kex_model.proofs.Tables.{get_more, get_last, get_pushed}
use Rattle.kex_trim.specs.Trim.{IsNumbering, NumbersOne}

last_or_less : (n s : ℕ) → s < n + 1 → (n ≡ s) ⊎ (s < n)
last_or_less n s lt = grind arith

-- the first i that are alive have their numbers
pub record Numbered (i : ℕ) (alive : List Bool) (kept numbers : List ℕ) : Type 0 where
  pub long : length numbers ≡ length alive
  pub few : length kept ≤ i
  pub each : (s t : ℕ) → HasNumber kept s t → (get_or alive s false ≡ true) × (s < i)
  pub all : (s : ℕ) → s < i → get_or alive s false ≡ true → HasNumber kept s (get_or numbers s 0)
  pub once : (s t : ℕ) → HasNumber kept s t → get_or numbers s 0 ≡ t

pub numbered_more : (n : ℕ) (alive : List Bool) (kept numbers kept' numbers' : List ℕ) → n < length alive → Numbered n alive kept numbers → (b : Bool) → get_or alive n false ≡ b → NumbersOne b n kept numbers kept' numbers' → Numbered (n + 1) alive kept' numbers'
numbered_more n alive kept numbers kept' numbers' lt h true e one = rw (one.0, one.1) (record {
  long = length-set numbers n (length kept) ∙ h.long;
  few = omega (arith, h.few, length-append kept (n ∷ []));
  each = λ s t g. ⊎_elim
      (λ old. let r = h.each s t old in (r.0, (let l : s < n = r.1 in omega arith)))
      (λ new. (ap (λ z. get_or alive z false) (sym new.1) ∙ e, (let q : n ≡ s = new.1 in omega arith)))
      (get_pushed kept n t s g);
  all = λ s l q. ⊎_elim
      (λ same. subst (λ z. HasNumber (kept ++ n ∷ []) z (get_or (set numbers n (length kept)) z 0)) same (subst (λ z. HasNumber (kept ++ n ∷ []) n z) (sym at_new) (get_last kept n)))
      (λ k. subst (λ z. HasNumber (kept ++ n ∷ []) s z) (sym (other s k)) (get_more kept (n ∷ []) (get_or numbers s 0) s (h.all s k q)))
      (last_or_less n s l);
  once = λ s t g. ⊎_elim
      (λ old. other s (h.each s t old).1 ∙ h.once s t old)
      (λ new. ap (λ z. get_or (set numbers n (length kept)) z 0) (sym new.1) ∙ at_new ∙ sym new.0)
      (get_pushed kept n t s g);
})
  where
    fits : n < length numbers
    fits = omega (arith, lt, h.long)

    at_new : get_or (set numbers n (length kept)) n 0 ≡ length kept
    at_new = get_or-set_same numbers n (length kept) 0 fits

    apart : (s : ℕ) → s < n → s ≢ n
    apart s l e = omega arith

    other : (s : ℕ) → s < n → get_or (set numbers n (length kept)) s 0 ≡ get_or numbers s 0
    other s l = get_or-set_other numbers n s (length kept) 0 (apart s l)
numbered_more n alive kept numbers kept' numbers' lt h false e one = rw (one.0, one.1) (record {
  long = h.long;
  few = omega (arith, h.few);
  each = λ s t g. let r = h.each s t g in (r.0, (let l : s < n = r.1 in omega arith));
  all = λ s l q. ⊎_elim
      (λ same. let bad : true ≡ false = sym q ∙ ap (λ z. get_or alive z false) (sym same) ∙ e in cc)
      (λ k. h.all s k q)
      (last_or_less n s l);
  once = h.once;
})

pub past : (alive : List Bool) (s : ℕ) → get_or alive s false ≡ true → s < length alive
past [] s e = cc
past (x ∷ alive) zero e = omega arith
past (x ∷ alive) (suc s) e = let l : s < length alive = past alive s e in omega arith

pub numbered_all : (alive : List Bool) (kept numbers : List ℕ) → Numbered (length alive) alive kept numbers → IsNumbering alive kept numbers
numbered_all alive kept numbers h = record { long = h.long; few = h.few; each = λ s t g. (h.each s t g).0; all = λ s g. h.all s (past alive s g) g; once = h.once }
