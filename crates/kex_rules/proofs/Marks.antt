-- Marks and numbers in lists that grow.
use Rattle.std.proofs.Common.{◌≡◌, ◌≢◌, ℕ, zero, suc, ◌<◌, ◌≤◌, List, [], ◌∷◌, ◌++◌, ◌⊎◌, inl, inr, ⊎_elim, Some, length, get_or, set, replicate, refl, sym, ap, ◌∙◌, get_or-set_same, arith}
use Rattle.std.proofs.lemmas.Option.{slice_get_within, slice_get-get_or}
use Rattle.kex_code.specs.Codes.{IsAmong, HasNumber}
use Rattle.kex_model.proofs.Tables.{some_same, get_more}
use Rattle.kex_rules.specs.declared.components.Mark.{Mark}
use Rattle.kex_rules.specs.declared.components.Mark.TheVariants.{Unseen, Open, Closed}
use Rattle.kex_rules.specs.Searches.{unseen_count}

pub same_or_not : (a b : ℕ) → (a ≡ b) ⊎ (b ≢ a)
same_or_not a b = grind arith

pub less_or_not : (a b : ℕ) → (a < b) ⊎ (b ≤ a)
less_or_not a b = grind arith

pub at_most_or_not : (a b : ℕ) → (a ≤ b) ⊎ (b < a)
at_most_or_not a b = grind arith

pub one_number : {A : Type 0} (xs : List A) (x y : A) (i : ℕ) → HasNumber xs x i → HasNumber xs y i → x ≡ y
one_number xs x y i h k = some_same x y (sym h ∙ k)

-- what is in a list is in its front, if its number is
pub number_front : {A : Type 0} (us vs : List A) (i : ℕ) (x : A) → HasNumber (us ++ vs) x i → i < length us → HasNumber us x i
number_front us vs i x e lt = let g = slice_get-get_or us i x lt in g ∙ sym (get_more us vs i (get_or us i x) g) ∙ e

-- what is in two joined lists is in the first one, or is of the second one
pub number_cases : {A : Type 0} (xs ys : List A) (x : A) (i : ℕ) → HasNumber (xs ++ ys) x i → HasNumber xs x i ⊎ ((length xs ≤ i) × IsAmong ys x)
number_cases [] ys x i h = inr (omega arith, among ys i h)
  where
    among : (ys : List _) (i : ℕ) → HasNumber ys x i → IsAmong ys x
    among [] i e = let lt : i < 0 = slice_get_within [] i x e in absurd (omega arith)
    among (y ∷ ys) zero e = inl (some_same y x e)
    among (y ∷ ys) (suc i) e = inr (among ys i e)
number_cases (y ∷ xs) ys x zero h = inl h
number_cases (y ∷ xs) ys x (suc i) h = ⊎_elim (λ k. inl k) (λ k. let le : length xs ≤ i = k.0 in inr (omega arith, k.1)) (number_cases xs ys x i h)

-- what is of the second list comes after the first one
pub number_of : {A : Type 0} (xs ys : List A) (x : A) → IsAmong ys x → (q : ℕ) × HasNumber (xs ++ ys) x q × (length xs ≤ q)
number_of [] [] x i = absurd i
number_of [] (y ∷ ys) x (inl e) = (0, ap (λ z. Some z) e, omega arith)
number_of [] (y ∷ ys) x (inr i) = let r = number_of [] ys x i in (suc r.0, r.1, omega arith)
number_of (y ∷ xs) ys x i = let r = number_of xs ys x i in (suc r.0, r.1, (let le : length xs ≤ r.0 = r.2 in omega arith))

-- a mark other than the default is within
pub mark_within : (marks : List Mark) (v : ℕ) (m : Mark) → get_or marks v Unseen ≡ m → (m ≡ Unseen → ⊥) → v < length marks
mark_within [] v m e n = absurd (n (sym e))
mark_within (x ∷ marks) zero m e n = omega arith
mark_within (x ∷ marks) (suc v) m e n = let lt : v < length marks = mark_within marks v m e n in omega arith

pub mark_set : (marks : List Mark) (y v : ℕ) (m : Mark) → y < length marks → y ≡ v → get_or (set marks y m) v Unseen ≡ m
mark_set marks y v m lt e = ap (λ z. get_or (set marks y m) z Unseen) (sym e) ∙ get_or-set_same marks y m Unseen lt

-- the default is of no account within the list
pub read_any : {A : Type 0} (xs : List A) (n : ℕ) (d e : A) → n < length xs → get_or xs n d ≡ get_or xs n e
read_any [] n d e lt = absurd (omega arith)
read_any (x ∷ xs) zero d e lt = refl
read_any (x ∷ xs) (suc n) d e lt = read_any xs n d e (omega arith)

pub unseen_count-open : (marks : List Mark) (n i : ℕ) → n < length marks → get_or marks n Unseen ≡ Unseen → unseen_count marks ≡ suc (unseen_count (set marks n (Open i)))
unseen_count-open [] n i lt e = absurd (omega arith)
unseen_count-open (Unseen ∷ xs) zero i lt e = refl
unseen_count-open (Open j ∷ xs) zero i lt e = cc
unseen_count-open (Closed a ∷ xs) zero i lt e = cc
unseen_count-open (Unseen ∷ xs) (suc n) i lt e = ap suc (unseen_count-open xs n i (omega arith) e)
unseen_count-open (Open j ∷ xs) (suc n) i lt e = unseen_count-open xs n i (omega arith) e
unseen_count-open (Closed a ∷ xs) (suc n) i lt e = unseen_count-open xs n i (omega arith) e

pub unseen_count-closed : (marks : List Mark) (n a : ℕ) → unseen_count (set marks n (Closed a)) ≤ unseen_count marks
unseen_count-closed [] n a = omega arith
unseen_count-closed (Unseen ∷ xs) zero a = omega arith
unseen_count-closed (Open j ∷ xs) zero a = omega arith
unseen_count-closed (Closed b ∷ xs) zero a = omega arith
unseen_count-closed (Unseen ∷ xs) (suc n) a = let h : unseen_count (set xs n (Closed a)) ≤ unseen_count xs = unseen_count-closed xs n a in omega arith
unseen_count-closed (Open j ∷ xs) (suc n) a = unseen_count-closed xs n a
unseen_count-closed (Closed b ∷ xs) (suc n) a = unseen_count-closed xs n a

pub fresh_mark : (k v : ℕ) → get_or (replicate k Unseen) v Unseen ≡ Unseen
fresh_mark zero v = refl
fresh_mark (suc k) zero = refl
fresh_mark (suc k) (suc v) = fresh_mark k v

pub unseen_count-replicate : (k : ℕ) → unseen_count (replicate k Unseen) ≡ k
unseen_count-replicate zero = refl
unseen_count-replicate (suc k) = ap suc (unseen_count-replicate k)
