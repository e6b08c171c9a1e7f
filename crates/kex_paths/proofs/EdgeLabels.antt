-- Labels, cell by cell.
use Rattle.std.proofs.Common.{◌≡◌, ℕ, zero, suc, ◌+◌, ◌-◌, ◌<◌, List, [], ◌∷◌, ◌++◌, Some, length, get_or, take, refl, sym, ap, ap₂, subst, ◌∙◌, append_assoc, arith}
use Rattle.std.specs.Prelude.{slice_get}
use Rattle.std.proofs.lemmas.List.{take_more}
use Rattle.std.proofs.lemmas.Option.{slice_get_within}
use Rattle.kex_code.specs.declared.symbol.Symbol.TheVariants.{L}
use Rattle.kex_sst.specs.declared.parts.Part.TheVariants.{Put}
use Rattle.kex_sst.specs.declared.parts.Part.{Part}
use Rattle.kex_paths.specs.declared.forest.LabelCell.{LabelCell}
use Rattle.kex_paths.specs.Forests.{IsLabel, no_parts, first_part}
use Rattle.kex_paths.specs.Updates.{AreLabels}

got : {A : Type 0} (xs : List A) (m : ℕ) (c d : A) → slice_get xs m ≡ Some d → get_or xs m c ≡ d
got [] m c d e = let bad : ⊥ = cc in absurd bad
got (x ∷ xs) zero c d e = cc
got (x ∷ xs) (suc m) c d e = got xs m c d e

pub take_next : (xs : List Part) (i : ℕ) → i < length xs → take (i + 1) xs ≡ take i xs ++ get_or xs i (Put L) ∷ []
take_next xs i lt = take_more xs i (Put L) lt

pub one_part : (x y : Part) → x ∷ [] ≡ y ∷ [] → x ≡ y
one_part x y e = cc

module _ (cells : List LabelCell) where
  -- an empty label has no parts
  pub label_end : (xs : List Part) → IsLabel cells 0 xs → xs ≡ []
  label_end xs no_parts = refl

  -- each other has a cell
  pub label_within : (n : ℕ) (xs : List Part) → 0 < n → IsLabel cells n xs → n - 1 < length cells
  label_within n xs some no_parts = omega (arith, some)
  label_within n xs some (first_part {n = m} {c = c} e le h) = omega (arith, slice_get_within cells m c e)

  one_cell : (m : ℕ) (c d : LabelCell) → c ≡ get_or cells (suc m - 1) c → slice_get cells m ≡ Some d → d ≡ c
  one_cell m c d e f =
      let here : suc m - 1 ≡ m = omega arith in
      sym (got cells m c d f) ∙ ap (λ z. get_or cells z c) (sym here) ∙ sym e

  -- after which comes an earlier label
  pub label_rest : (n : ℕ) (xs : List Part) (c : LabelCell) → 0 < n → c ≡ get_or cells (n - 1) c → IsLabel cells n xs → c.rest < n
  label_rest n xs c some e no_parts = let bad : ⊥ = omega (arith, some) in absurd bad
  label_rest n xs c some e (first_part {n = m} {c = d} f le h) =
      let less : d.rest < suc m = omega (arith, le) in
      subst (λ z. z.rest < suc m) (one_cell m c d e f) less

  -- its part is the next, and what comes after it is left
  pub label_next : (n : ℕ) (c : LabelCell) (ps xs rest : List Part) → 0 < n → c ≡ get_or cells (n - 1) c → IsLabel cells n rest → ps ++ rest ≡ xs → (more : List Part) × IsLabel cells c.rest more × ((ps ++ c.part ∷ []) ++ more ≡ xs)
  label_next n c ps xs rest some e no_parts same = let bad : ⊥ = omega (arith, some) in absurd bad
  label_next n c ps xs rest some e (first_part {n = m} {c = d} {xs = ys} f le h) same =
      let is : d ≡ c = one_cell m c d e f in
      (ys, subst (λ z. IsLabel cells z.rest ys) is h, append_assoc ps (c.part ∷ []) ys ∙ ap (λ z. ps ++ z.part ∷ ys) (sym is) ∙ same)

  -- a number has one label
  pub one_label : {n : ℕ} (xs ys : List Part) → IsLabel cells n xs → IsLabel cells n ys → xs ≡ ys
  one_label xs ys no_parts no_parts = refl
  one_label xs ys (first_part {n = n} {c = c} {xs = x} e le h) (first_part {c = d} {xs = y} f less k) =
      let same : d ≡ c = one (sym f ∙ e) in
      ap₂ (λ u v. u.part ∷ v) (sym same) (one_label x y h (subst (λ z. IsLabel cells z.rest y) same k))
    where
      one : Some d ≡ Some c → d ≡ c
      one e = cc

  -- one of the labels
  pub label_at : (ns : List ℕ) (xs : List (List Part)) (i : ℕ) → AreLabels cells ns xs → i < length ns → IsLabel cells (get_or ns i 0) (get_or xs i [])
  label_at [] xs i h lt = let bad : ⊥ = omega (arith, lt) in absurd bad
  label_at (n ∷ ns) [] i h lt = absurd h
  label_at (n ∷ ns) (x ∷ xs) zero h lt = h.0
  label_at (n ∷ ns) (x ∷ xs) (suc i) h lt = label_at ns xs i h.1 (omega (arith, lt))

  pub labels_long : (ns : List ℕ) (xs : List (List Part)) → AreLabels cells ns xs → length ns ≡ length xs
  labels_long [] [] h = refl
  labels_long [] (x ∷ xs) h = absurd h
  labels_long (n ∷ ns) [] h = absurd h
  labels_long (n ∷ ns) (x ∷ xs) h = ap (λ z. suc z) (labels_long ns xs h.1)

  pub labels_more : (ns : List ℕ) (xs : List (List Part)) (n : ℕ) (x : List Part) → AreLabels cells ns xs → IsLabel cells n x → AreLabels cells (ns ++ n ∷ []) (xs ++ x ∷ [])
  labels_more [] [] n x h k = (k, tt)
  labels_more [] (y ∷ xs) n x h k = absurd h
  labels_more (m ∷ ns) [] n x h k = absurd h
  labels_more (m ∷ ns) (y ∷ xs) n x h k = (h.0, labels_more ns xs n x h.1 k)
