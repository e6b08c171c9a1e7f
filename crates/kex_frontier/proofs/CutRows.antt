-- Words that are cut into rows.
use Rattle.std.proofs.Common.{◌≡◌, ℕ, cond, false, Result, Ok, Err, is_ok, is_err, zero, suc, ◌+◌, ◌*◌, ◌-◌, ◌<◌, ◌≤◌, List, [], ◌∷◌, ◌++◌, length, get_or, take, drop, refl, sym, ap, ap₂, subst, ◌∙◌, arith, length-drop}
use Rattle.std.proofs.lemmas.List.{drop-drop, drop-append-le, length-take-le, nil_from_length, take-append-le, take_all}
use Rattle.std.proofs.Math.Nat.{mul-le-mul_right}
use Rattle.kex_frontier.specs.Caches.{RowList, cut_rows}

pub count_cut : (w n : ℕ) (words : List ℕ) → length (cut_rows w n words) ≡ n
count_cut w zero words = refl
count_cut w (suc n) words = ap suc (count_cut w n (drop w words))

pub row_cut : (w n i : ℕ) (words : List ℕ) → i < n → get_or (cut_rows w n words) i [] ≡ take w (drop (i * w) words)
row_cut w zero i words lt = absurd (omega arith)
row_cut w (suc n) zero words lt = let e : 0 ≡ zero * w = omega arith in ap (λ k. take w (drop k words)) e
row_cut w (suc n) (suc i) words lt =
    let e : w + i * w ≡ suc i * w = omega arith in
    row_cut w n i (drop w words) (omega arith) ∙ ap (λ z. take w z) (drop-drop (i * w) w words ∙ ap (λ k. drop k words) e)

-- the last place of a row is within the words
pub row_within : (w n i : ℕ) → i < n → i * w + w ≤ n * w
row_within w n i lt = let h : suc i * w ≤ n * w = mul-le-mul_right w (omega arith) in omega (arith, h)

pub width_cut : (w n i : ℕ) (words : List ℕ) → i < n → length words ≡ n * w → length (take w (drop (i * w) words)) ≡ w
width_cut w n i words lt e =
    let h : i * w + w ≤ n * w = row_within w n i lt in
    length-take-le w (drop (i * w) words) (omega (arith, length-drop (i * w) words, h, e))

-- a row that is seen is among the words
pub row_in : (w n i : ℕ) (words : List ℕ) (r : RowList) → record { width = w; rows = cut_rows w n words } ≡ r → i < length r.rows → length words ≡ n * w → i * w + w ≤ length words
row_in w n i words r is lt e =
    let count : n ≡ length r.rows = sym (count_cut w n words) ∙ ap (λ z. length z.rows) is in
    let h : i * w + w ≤ n * w = row_within w n i (omega (arith, count, lt)) in
    omega (arith, h, e)

pub row_seen : (w n i : ℕ) (words : List ℕ) (r : RowList) → record { width = w; rows = cut_rows w n words } ≡ r → i < length r.rows → length words ≡ n * w → (take w (drop (i * w) words) ≡ get_or r.rows i []) × (length (take w (drop (i * w) words)) ≡ r.width)
row_seen w n i words r is lt e =
    let count : n ≡ length r.rows = sym (count_cut w n words) ∙ ap (λ z. length z.rows) is in
    let below : i < n = omega (arith, count, lt) in (
      sym (row_cut w n i words below) ∙ ap (λ z. get_or z.rows i []) is,
      width_cut w n i words below e ∙ ap (λ z. z.width) is,
    )

pub all_in : {T E X : Type 0} (r : Result T E) (a b new : List X) → is_err r ≡ false → new ≡ cond (is_ok r) a b → new ≡ a
all_in (Ok x) a b new e h = h
all_in (Err x) a b new e h = cc

pub cut_push : (w n : ℕ) (words row : List ℕ) → length words ≡ n * w → length row ≡ w → cut_rows w (suc n) (words ++ row) ≡ cut_rows w n words ++ row ∷ []
cut_push w zero words row e f =
    let none : words ≡ [] = nil_from_length words (omega (arith, e)) in
    let all : take w row ≡ row = take_all w row (omega (arith, f)) in
    subst (λ z. take w (z ++ row) ∷ [] ≡ row ∷ []) (sym none) (ap (λ z. z ∷ []) all)
cut_push w (suc n) words row e f =
    let long : w ≤ length words = omega (arith, e) in
    let left : length (drop w words) ≡ n * w = omega (arith, length-drop w words, e) in
    ap₂ (λ x y. x ∷ y) (take-append-le w words row long) (ap (λ z. cut_rows w (suc n) z) (drop-append-le w words row long) ∙ cut_push w n (drop w words) row left f)
