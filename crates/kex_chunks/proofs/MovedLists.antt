-- Lists of parts that are moved from one update to the next.
use Rattle.std.proofs.Common.{◌≡◌, ℕ, zero, suc, ◌+◌, ◌<◌, ◌≤◌, List, [], ◌∷◌, ◌++◌, ◌⊎◌, inl, inr, ⊎_elim, Some, length, get_or, map, take, drop, refl, sym, ap, ap₂, subst, ◌∙◌, append_assoc, append-nil, arith}
use Rattle.std.specs.Prelude.{slice_get}
use Rattle.std.proofs.Math.ListN.{set}
use Rattle.std.proofs.lemmas.List.{take_more, drop_more, get_or_past, map-append}
use Rattle.kex_code.specs.declared.symbol.Symbol.{Symbol}
use Rattle.kex_code.specs.Codes.{IsAmong, Different}
use Rattle.kex_model.proofs.Shapes.{among_left, among_right}
use Rattle.kex_sst.specs.declared.parts.Part.{Part}
use Rattle.kex_sst.specs.declared.parts.Part.TheVariants.{Put, Old, Input}
use Rattle.kex_sst.specs.Parts.{olds, olds_in}
use Rattle.kex_sst.specs.Series.{read_parts, substitute, olds_from}
use Rattle.kex_sst.proofs.Courses.{olds-append, different_left, different_right, different_apart}

-- what parts stand for, in two steps
pub substitute_both : (regs : List (List Part)) (b : ℕ) (xs ys : List Part) → substitute regs (read_parts b (xs ++ ys)) ≡ substitute regs (read_parts b xs) ++ substitute regs (read_parts b ys)
substitute_both regs b [] ys = refl
substitute_both regs b (Put s ∷ xs) ys = ap (λ z. Put s ∷ z) (substitute_both regs b xs ys)
substitute_both regs b (Input ∷ xs) ys = ap (λ z. Put (Symbol.Byte b) ∷ z) (substitute_both regs b xs ys)
substitute_both regs b (Old i ∷ xs) ys = ap (λ z. get_or regs i [] ++ z) (substitute_both regs b xs ys) ∙ sym (append_assoc (get_or regs i []) (substitute regs (read_parts b xs)) (substitute regs (read_parts b ys)))

-- one part more
pub substitute_more : (regs : List (List Part)) (b : ℕ) (parts : List Part) (k : ℕ) (d : Part) (before now after : List Part) → k < length parts → now ≡ before ++ substitute regs (read_parts b (take k parts)) → after ≡ now ++ substitute regs (read_parts b (get_or parts k d ∷ [])) → after ≡ before ++ substitute regs (read_parts b (take (k + 1) parts))
substitute_more regs b parts k d before now after lt e f =
    f
    ∙ ap (λ z. z ++ substitute regs (read_parts b (get_or parts k d ∷ []))) e
    ∙ append_assoc before (substitute regs (read_parts b (take k parts))) (substitute regs (read_parts b (get_or parts k d ∷ [])))
    ∙ ap (λ z. before ++ z) (sym (substitute_both regs b (take k parts) (get_or parts k d ∷ [])) ∙ ap (λ z. substitute regs (read_parts b z)) (sym (take_more parts k d lt)))

-- lists that give the same for the registers that are read
pub same_over : (regs regs' : List (List Part)) (b : ℕ) (xs : List Part) → ((i : ℕ) → IsAmong (olds xs) i → get_or regs' i [] ≡ get_or regs i []) → substitute regs' (read_parts b xs) ≡ substitute regs (read_parts b xs)
same_over regs regs' b [] h = refl
same_over regs regs' b (Put s ∷ xs) h = ap (λ z. Put s ∷ z) (same_over regs regs' b xs h)
same_over regs regs' b (Input ∷ xs) h = ap (λ z. Put (Symbol.Byte b) ∷ z) (same_over regs regs' b xs h)
same_over regs regs' b (Old i ∷ xs) h = ap₂ (λ y z. y ++ z) (h i (inl refl)) (same_over regs regs' b xs (λ j k. h j (inr k)))

-- the first part is moved, and the others are put after it
module _ (regs mid : List (List Part)) (b : ℕ) (p : Part) (rest : List Part) (once : Different (olds (p ∷ rest))) (others : (i : ℕ) → (IsAmong (olds (p ∷ [])) i → ⊥) → get_or mid i [] ≡ get_or regs i []) where
  front : olds (p ∷ rest) ≡ olds (p ∷ []) ++ olds rest
  front = olds-append (p ∷ []) rest

  pub filled : (first all : List Part) → first ≡ substitute regs (read_parts b (p ∷ [])) → all ≡ first ++ substitute mid (read_parts b rest) → all ≡ substitute regs (read_parts b (p ∷ rest))
  filled first all e f =
      f
      ∙ ap₂ (λ y z. y ++ z) e (same_over regs mid b rest (λ i h. others i (λ k. different_apart (olds (p ∷ [])) (olds rest) (subst (λ z. Different z) front once) i k h)))
      ∙ sym (substitute_both regs b (p ∷ []) rest)

  pub unread : (i : ℕ) → (IsAmong (olds (p ∷ rest)) i → ⊥) → get_or mid i [] ≡ get_or regs i []
  unread i h = others i (λ k. h (subst (λ z. IsAmong z i) (sym front) (among_left (olds (p ∷ [])) (olds rest) i k)))

-- the same of parts of which there is a first
pub filled_whole : (regs mid : List (List Part)) (b : ℕ) (parts : List Part) (d : Part) → 0 < length parts → Different (olds parts) → ((i : ℕ) → (IsAmong (olds (get_or parts 0 d ∷ [])) i → ⊥) → get_or mid i [] ≡ get_or regs i []) → (first all : List Part) → first ≡ substitute regs (read_parts b (get_or parts 0 d ∷ [])) → all ≡ first ++ substitute mid (read_parts b (drop 1 parts)) → all ≡ substitute regs (read_parts b parts)
filled_whole regs mid b [] d some once others first all e f = absurd (omega (arith, some))
filled_whole regs mid b (p ∷ rest) d some once others first all e f = filled regs mid b p rest once others first all e f

pub unread_whole : (regs mid : List (List Part)) (b : ℕ) (parts : List Part) (d : Part) → 0 < length parts → Different (olds parts) → ((i : ℕ) → (IsAmong (olds (get_or parts 0 d ∷ [])) i → ⊥) → get_or mid i [] ≡ get_or regs i []) → (i : ℕ) → (IsAmong (olds parts) i → ⊥) → get_or mid i [] ≡ get_or regs i []
unread_whole regs mid b [] d some once others i h = absurd (omega (arith, some))
unread_whole regs mid b (p ∷ rest) d some once others i h = unread regs mid b p rest once others i h

-- an old register that no list is given for
pub none_given : (regs : List (List Part)) (i b : ℕ) (list : List Part) → length regs ≤ i → list ≡ list ++ substitute regs (read_parts b (Old i ∷ []))
none_given regs i b list le = sym (ap (λ z. list ++ (z ++ [])) (get_or_past regs i [] le) ∙ append-nil list)

pub some_given : (regs : List (List Part)) (i b : ℕ) (given before after : List Part) → get_or regs i [] ≡ given → after ≡ before ++ given → after ≡ before ++ substitute regs (read_parts b (Old i ∷ []))
some_given regs i b given before after e f = f ∙ ap (λ z. before ++ z) (sym e ∙ sym (append-nil (get_or regs i [])))

different_drop : (k : ℕ) (lists : List (List Part)) → Different (olds_in lists) → Different (olds_in (drop k lists))
different_drop zero lists d = d
different_drop (suc k) [] d = tt
different_drop (suc k) (x ∷ xs) d = different_drop k xs (different_right (olds x) (olds_in xs) d)

-- one list more
module _ (lists : List (List Part)) (k : ℕ) (d : List Part) (lt : k < length lists) (once : Different (olds_in lists)) where
  here : olds_in (drop k lists) ≡ olds (get_or lists k d) ++ olds_in (drop (k + 1) lists)
  here = ap olds_in (drop_more lists k d lt)

  apart : Different (olds (get_or lists k d) ++ olds_in (drop (k + 1) lists))
  apart = subst (λ z. Different z) here (different_drop k lists once)

  pub list_once : Different (olds (get_or lists k d))
  list_once = different_left (olds (get_or lists k d)) (olds_in (drop (k + 1) lists)) apart

  module _ (regs now new : List (List Part)) (b : ℕ) (same : (i : ℕ) → IsAmong (olds_in (drop k lists)) i → get_or now i [] ≡ get_or regs i []) where
    pub list_filled : (made : List (List Part)) (list : List Part) → made ≡ map (λ xs. substitute regs (read_parts b xs)) (take k lists) → list ≡ substitute now (read_parts b (get_or lists k d)) → made ++ list ∷ [] ≡ map (λ xs. substitute regs (read_parts b xs)) (take (k + 1) lists)
    list_filled made list e f =
        let is : list ≡ substitute regs (read_parts b (get_or lists k d)) = f ∙ same_over regs now b (get_or lists k d) (λ i h. same i (subst (λ z. IsAmong z i) (sym here) (among_left (olds (get_or lists k d)) (olds_in (drop (k + 1) lists)) i h))) in
        ap₂ (λ y z. y ++ z ∷ []) e is
        ∙ sym (map-append (λ xs. substitute regs (read_parts b xs)) (take k lists) (get_or lists k d ∷ []))
        ∙ ap (λ z. map (λ xs. substitute regs (read_parts b xs)) z) (sym (take_more lists k d lt))

    pub still_same : ((i : ℕ) → (IsAmong (olds (get_or lists k d)) i → ⊥) → get_or new i [] ≡ get_or now i []) → (i : ℕ) → IsAmong (olds_in (drop (k + 1) lists)) i → get_or new i [] ≡ get_or regs i []
    still_same others i h =
        others i (λ j. different_apart (olds (get_or lists k d)) (olds_in (drop (k + 1) lists)) apart i j h)
        ∙ same i (subst (λ z. IsAmong z i) (sym here) (among_right (olds (get_or lists k d)) (olds_in (drop (k + 1) lists)) i h))

pub olds_more : (k n : ℕ) → olds_from k (n + 1) ≡ olds_from k n ++ (Old (k + n) ∷ []) ∷ []
olds_more k zero = let zero : k ≡ k + 0 = omega arith in ap (λ z. (Old z ∷ []) ∷ []) zero
olds_more k (suc n) =
    let more : suc k + n ≡ k + suc n = omega arith in
    let one : suc n + 1 ≡ suc (n + 1) = omega arith in
    ap (λ z. olds_from k z) one ∙ ap (λ z. (Old k ∷ []) ∷ z) (olds_more (suc k) n ∙ ap (λ z. olds_from (suc k) n ++ (Old z ∷ []) ∷ []) more)

-- items that are changed one after the other
pub changed_more : {A : Type 0} (f : A → A) (i : ℕ) (all : List A) (a b d : A) → i < length all → b ≡ f (get_or all i d) → set (set (map f (take i all) ++ drop i all) i a) i b ≡ map f (take (i + 1) all) ++ drop (i + 1) all
changed_more f zero [] a b d lt e = absurd (omega arith)
changed_more f zero (x ∷ xs) a b d lt e = ap (λ z. z ∷ xs) e
changed_more f (suc i) [] a b d lt e = absurd (omega arith)
changed_more f (suc i) (x ∷ xs) a b d lt e =
    let more : suc i + 1 ≡ suc (i + 1) = omega arith in
    ap (λ z. f x ∷ z) (changed_more f i xs a b d (omega arith) e) ∙ sym (ap (λ n. map f (take n (x ∷ xs)) ++ drop n (x ∷ xs)) more)

-- one that isn't changed yet
pub unchanged_at : {A : Type 0} (f : A → A) (i : ℕ) (all : List A) (d : A) → i < length all → get_or (map f (take i all) ++ drop i all) i d ≡ get_or all i d
unchanged_at f zero [] d lt = absurd (omega arith)
unchanged_at f zero (x ∷ xs) d lt = refl
unchanged_at f (suc i) [] d lt = absurd (omega arith)
unchanged_at f (suc i) (x ∷ xs) d lt = unchanged_at f i xs d (omega arith)

-- what is in a list in which one item was set
pub set_there : {A : Type 0} (xs : List A) (i q : ℕ) (a y : A) → slice_get (set xs i a) q ≡ Some y → ((q ≡ i) × (y ≡ a)) ⊎ (slice_get xs q ≡ Some y)
set_there [] i q a y e = inr e
set_there (x ∷ xs) zero zero a y e = let same : y ≡ a = cc in inl (refl, same)
set_there (x ∷ xs) zero (suc q) a y e = inr e
set_there (x ∷ xs) (suc i) zero a y e = inr e
set_there (x ∷ xs) (suc i) (suc q) a y e = ⊎_elim (λ h. inl (ap suc h.0, h.1)) (λ h. inr h) (set_there xs i q a y e)
