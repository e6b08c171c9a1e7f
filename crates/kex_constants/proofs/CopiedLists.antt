-- Lists that grow by a copy.
use Rattle.std.proofs.Common.{◌≡◌, ℕ, zero, suc, ◌<◌, ◌+◌, List, [], ◌∷◌, ◌++◌, Option, Some, None, length, get_or, ⊎_elim, refl, sym, ap, subst, ◌∙◌, arith, length-append}
use Rattle.std.specs.Prelude.{Result, Ok, Err, IfOk, IfSome, slice_get}
use Rattle.std.proofs.lemmas.Bool.{cases_lt}
use Rattle.std.proofs.lemmas.List.{get_or-map, get_or_append_left, get_or_push, length-map}
use Rattle.kex_sst.specs.declared.table.Transition.{Transition}
use Rattle.kex_sst.specs.Tables.{Row}
use Rattle.kex_sst.specs.Fans.{IsFan, fan, fan_at}
use Rattle.kex_sst.proofs.Fans.{fan_get, fan_long}
use Rattle.kex_constants.specs.declared.copies.StateCopy.{StateCopy}
use Rattle.kex_constants.specs.Copies.{GoAlike, GoesAlike, HasCopy, IsCopy, IsCopyOf, originals}

-- an item that is there
pub there : {A : Type 0} (xs : List A) (i : ℕ) (d : A) → i < length xs → slice_get xs i ≡ Some (get_or xs i d)
there [] i d lt = absurd (omega arith)
there (x ∷ xs) zero d lt = refl
there (x ∷ xs) (suc i) d lt = there xs i d (omega arith)

abbrev from_some : {A : Type 0} → Option A → A → A
from_some None d = d
from_some (Some x) d = x

pub some_same : {A : Type 0} (x y : A) → Some x ≡ Some y → x ≡ y
some_same x y e = ap (λ o. from_some o x) e

pub if_some : {A : Type 0} (P Q : A → Type 0) (o : Option A) → ((x : A) → P x → Q x) → IfSome o P → IfSome o Q
if_some P Q None f h = tt
if_some P Q (Some x) f h = f x h

pub if_ok : {T E : Type 0} (P Q : T → Type 0) (r : Result T E) → ((x : T) → P x → Q x) → IfOk r P → IfOk r Q
if_ok P Q (Ok x) f h = f x h
if_ok P Q (Err e) f h = tt

-- transitions of which the first are alike
pub record FirstAlike (of : List ℕ) (go made : List (Option Transition)) (count : ℕ) : Type 0 where
  pub long : length made ≡ count
  pub each : (k : ℕ) → k < count → GoesAlike of (get_or go k None) (get_or made k None)

pub one_more_alike : (of : List ℕ) (go made : List (Option Transition)) (i : ℕ) (r : Option Transition) → FirstAlike of go made i → GoesAlike of (get_or go i None) r → FirstAlike of go (made ++ r ∷ []) (i + 1)
one_more_alike of go made i r f h = record {
  long = omega (arith, f.long, length-append made (r ∷ []));
  each = λ k lt. ⊎_elim
      (λ less. subst (λ z. GoesAlike of (get_or go k None) z) (sym (get_or_append_left made (r ∷ []) None k (omega (arith, less, f.long)))) (f.each k less))
      (λ le. let here : k ≡ i = omega (arith, lt, le) in subst (λ n. GoesAlike of (get_or go n None) (get_or (made ++ r ∷ []) n None)) (sym here) (subst (λ z. GoesAlike of (get_or go i None) z) (sym (get_or_push made r None i f.long)) h))
      (cases_lt k i);
}

-- by class
pub fan_alike : (of : List ℕ) (n : ℕ) (numbers : List ℕ) (xs ys : List (Option Transition)) → IsFan n numbers xs → GoAlike of xs ys → GoAlike of (fan n numbers xs) (fan n numbers ys)
fan_alike of n numbers xs ys h a = record {
  long = fan_long n numbers ys ∙ sym (fan_long n numbers xs);
  each = λ k lt.
      let less : k < n = omega (arith, lt, fan_long n numbers xs) in
      subst (λ z. GoesAlike of z (get_or (fan n numbers ys) k None)) (sym (fan_get n numbers xs k less))
      (subst (λ z. GoesAlike of (fan_at numbers xs k) z) (sym (fan_get n numbers ys k less)) (a.each (get_or numbers k 0) (h.each k less)));
}

-- states of which the first are copied
pub record FirstCopied (of : List ℕ) (states made : List Row) (count : ℕ) : Type 0 where
  pub long : length made ≡ count
  pub each : (k : ℕ) → k < count → HasCopy of states made k

still_there : {A : Type 0} (xs : List A) (x y : A) (k : ℕ) → slice_get xs k ≡ Some y → slice_get (xs ++ x ∷ []) k ≡ Some y
still_there [] x y k e = let no : None ≡ Some y = e in cc
still_there (z ∷ xs) x y zero e = e
still_there (z ∷ xs) x y (suc k) e = still_there xs x y k e

last_there : {A : Type 0} (xs : List A) (x : A) (i : ℕ) → length xs ≡ i → slice_get (xs ++ x ∷ []) i ≡ Some x
last_there [] x zero e = refl
last_there [] x (suc i) e = absurd (omega (arith, e))
last_there (z ∷ xs) x zero e = absurd (omega (arith, e))
last_there (z ∷ xs) x (suc i) e = last_there xs x i (omega (arith, e))

pub one_more_copy : (of : List ℕ) (states made : List Row) (i : ℕ) (row s : Row) → FirstCopied of states made i → slice_get states (get_or of i 0) ≡ Some row → IsCopy of row s → FirstCopied of states (made ++ s ∷ []) (i + 1)
one_more_copy of states made i row s f at is = record {
  long = omega (arith, f.long, length-append made (s ∷ []));
  each = λ k lt. ⊎_elim
      (λ less. let h = f.each k less in record { row = h.row; copy = h.copy; at = h.at; copied = still_there made s h.copy k h.copied; is = h.is })
      (λ le. let here : k ≡ i = omega (arith, lt, le) in subst (λ n. HasCopy of states (made ++ s ∷ []) n) (sym here) (record { row = row; copy = s; at = at; copied = last_there made s i f.long; is = is }))
      (cases_lt k i);
}

-- the state of a copy
pub original_of : (copies : List StateCopy) (i : ℕ) (d : StateCopy) → i < length copies → get_or (originals copies) i 0 ≡ (get_or copies i d).of
original_of copies i d lt = get_or-map (λ c. c.of) copies i d 0 lt

pub is_copy_of : (copies : List StateCopy) (i state : ℕ) (d : StateCopy) → i < length copies → (get_or copies i d).of ≡ state → IsCopyOf (originals copies) i state
is_copy_of copies i state d lt e = (omega (arith, lt, length-map copies (λ c. c.of)), original_of copies i d lt ∙ e)
