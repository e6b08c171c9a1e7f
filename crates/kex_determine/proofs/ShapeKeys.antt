-- A shape that is put among others by its key.
use Rattle.std.proofs.Common.{◌≡◌, ℕ, zero, suc, ◌<◌, ◌≤◌, Bool, true, false, List, [], ◌∷◌, ◌++◌, inl, inr, ⊎_elim, Some, length, map, refl, sym, ap, subst, ◌∙◌, length-append, arith}
use Rattle.std.specs.Prelude.{slice_get, ◌||◌}
use Rattle.std.specs.List.{list_any}
use Rattle.std.specs.Bool.{Decides, if◌then◌else◌}
use Rattle.std.specs.Option.{option_map}
use Rattle.std.specs.Global.{Vec}
use Rattle.std.proofs.lemmas.Option.{slice_get-map}
use Rattle.std.proofs.lemmas.List.{map-append, length-map}
use Rattle.kex_code.specs.Codes.{IsAmong}
use Rattle.kex_model.specs.Labelled.{Shape}
use Rattle.kex_model.specs.States.{AllDifferent}
use Rattle.kex_model.proofs.Shapes.{among-append}
use Rattle.kex_model.proofs.Tables.{get_more, get_last, get_pushed}
use Rattle.kex_machine.specs.Nodes.{Graph}
use Rattle.kex_paths.specs.Nexts.{Outline}
use Rattle.kex_paths.specs.Spellings.{key_of}
use Rattle.kex_determine.specs.Rows.{IsFound}
use Rattle.kex_determine.specs.Numbering.{texts, IsAdded, IsMet, AreNumbered, IsWith, HasMoreFound}
use Rattle.kex_determine.proofs.MachineTables.{among_get}
use Rattle.kex_determine.proofs.DifferentShapes.{key_same}

module _ (eq : Vec ℕ → Vec ℕ → Bool) (same : (x y : Vec ℕ) → Decides (eq x y) (x.items ≡ y.items)) where
  there : (ks : List (Vec ℕ)) (k : Vec ℕ) → list_any (eq k) ks ≡ true → IsAmong (texts ks) k.items
  there [] k e = cc
  there (x ∷ ks) k e = by (eq k x) refl (there ks k)
    where
      by : (b : Bool) → eq k x ≡ b → (list_any (eq k) ks ≡ true → IsAmong (texts ks) k.items) → IsAmong (texts (x ∷ ks)) k.items
      by true h rest = inl (sym ((same k x).0 h))
      by false h rest = inr (rest (ap (λ z. z || list_any (eq k) ks) (sym h) ∙ e))

  not_there : (ks : List (Vec ℕ)) (k : Vec ℕ) → list_any (eq k) ks ≡ false → IsAmong (texts ks) k.items → ⊥
  not_there [] k e i = i
  not_there (x ∷ ks) k e i = by (eq k x) refl (not_there ks k)
    where
      by : (b : Bool) → eq k x ≡ b → (list_any (eq k) ks ≡ false → IsAmong (texts ks) k.items → ⊥) → ⊥
      by true h others = let bad : true ≡ false = ap (λ z. z || list_any (eq k) ks) (sym h) ∙ e in cc
      by false h others = ⊎_elim (λ p. let bad : true ≡ false = sym ((same k x).1 (sym p)) ∙ h in cc) (λ j. others (ap (λ z. z || list_any (eq k) ks) (sym h) ∙ e) j) i

  pub added_key : (ks ks' : List (Vec ℕ)) (k : Vec ℕ) → ks' ≡ (if list_any (eq k) ks then ks else ks ++ k ∷ []) → IsAdded (texts ks) k.items (texts ks')
  added_key ks ks' k e = by (list_any (eq k) ks) refl
    where
      by : (b : Bool) → list_any (eq k) ks ≡ b → IsAdded (texts ks) k.items (texts ks')
      by true h = inl (there ks k h, ap texts (e ∙ ap (λ z. if z then ks else ks ++ k ∷ []) h))
      by false h = inr ((λ i. not_there ks k h i), ap texts (e ∙ ap (λ z. if z then ks else ks ++ k ∷ []) h) ∙ map-append (λ v. v.items) ks (k ∷ []))

  pub stored_key : (ks : List (Vec ℕ)) (i : ℕ) (k x : Vec ℕ) → slice_get ks i ≡ Some x → eq k x ≡ true → slice_get (texts ks) i ≡ Some k.items
  stored_key ks i k x e h = slice_get-map (λ v. v.items) ks i ∙ ap (λ z. option_map (λ v. v.items) z) e ∙ ap (λ z. Some z) (sym ((same k x).0 h))

among_keys : (xs : List (Shape ℕ)) (s : Shape ℕ) → IsAmong xs s → IsAmong (map key_of xs) (key_of s)
among_keys [] s i = i
among_keys (x ∷ xs) s i = ⊎_elim (λ e. inl (ap key_of e)) (λ j. inr (among_keys xs s j)) i

key_at : (xs : List (Shape ℕ)) (i : ℕ) (s : Shape ℕ) → slice_get (map key_of xs) i ≡ Some (key_of s) → slice_get xs i ≡ Some s
key_at [] i s e = cc
key_at (x ∷ xs) zero s e = let f : key_of x ≡ key_of s = cc in ap (λ z. Some z) (key_same x s f)
key_at (x ∷ xs) (suc i) s e = key_at xs i s e

pub get_within : {A : Type 0} (xs : List A) (i : ℕ) (x : A) → slice_get xs i ≡ Some x → i < length xs
get_within [] i x e = cc
get_within (y ∷ xs) zero x e = omega arith
get_within (y ∷ xs) (suc i) x e = let h = get_within xs i x e in omega arith

pub different-append : {A : Type 0} (xs : List A) (x : A) → AllDifferent xs → (IsAmong xs x → ⊥) → AllDifferent (xs ++ x ∷ [])
different-append [] x d h = ((λ i. i), tt)
different-append (y ∷ xs) x d h = ((λ i. ⊎_elim (λ j. d.0 j) (λ j. ⊎_elim (λ e. h (inl (sym e))) (λ k. k) j) (among-append xs (x ∷ []) y i)), different-append xs x d.1 (λ i. h (inr i)))

module _ (g : Graph) (keys now : List (Vec ℕ)) (trees : List Outline) (xs : List (Shape ℕ)) (tree : Outline) (s : Shape ℕ) (i : ℕ) (n : AreNumbered g keys trees xs) (met : IsMet g tree s) (added : IsAdded (texts keys) (key_of s) (texts now)) (at : slice_get (texts now) i ≡ Some (key_of s)) where
  -- the shape had a number
  pub enter_known : i < length trees → IsWith g now trees xs s i xs
  enter_known lt = ⊎_elim known gone added
    where
      known : IsAmong (texts keys) (key_of s) × (texts now ≡ texts keys) → IsWith g now trees xs s i xs
      known (j, e) = record {
        numbered = record { keyed = e ∙ n.keyed; count = n.count; shaped = n.shaped; different = n.different };
        grown = inl (refl, omega (arith, lt, n.count));
        at = key_at xs i s (ap (λ z. slice_get z i) (sym (e ∙ n.keyed)) ∙ at);
      }

      gone : (IsAmong (texts keys) (key_of s) → ⊥) × (texts now ≡ texts keys ++ key_of s ∷ []) → IsWith g now trees xs s i xs
      gone (nowhere, e) =
          let pushed : slice_get (map key_of xs ++ key_of s ∷ []) i ≡ Some (key_of s) = ap (λ z. slice_get (z ++ key_of s ∷ []) i) (sym n.keyed) ∙ ap (λ z. slice_get z i) (sym e) ∙ at in
          ⊎_elim
          (λ here. absurd (nowhere (subst (λ z. IsAmong z (key_of s)) (sym n.keyed) (among_keys xs s (among_get xs i s (key_at xs i s here))))))
          (λ last. absurd (omega (arith, last.0, length-map xs key_of, n.count, lt)))
          (get_pushed (map key_of xs) (key_of s) i (key_of s) pushed)

  -- the shape is new
  pub enter_new : length trees ≤ i → (IsAmong xs s → ⊥) × (texts now ≡ map key_of (xs ++ s ∷ [])) × (slice_get (xs ++ s ∷ []) i ≡ Some s)
  enter_new le = ⊎_elim known gone added
    where
      known : IsAmong (texts keys) (key_of s) × (texts now ≡ texts keys) → (IsAmong xs s → ⊥) × (texts now ≡ map key_of (xs ++ s ∷ [])) × (slice_get (xs ++ s ∷ []) i ≡ Some s)
      known (j, e) =
          let lt : i < length (map key_of xs) = get_within (map key_of xs) i (key_of s) (ap (λ z. slice_get z i) (sym (e ∙ n.keyed)) ∙ at) in
          absurd (omega (arith, lt, le, n.count, length-map xs key_of))

      gone : (IsAmong (texts keys) (key_of s) → ⊥) × (texts now ≡ texts keys ++ key_of s ∷ []) → (IsAmong xs s → ⊥) × (texts now ≡ map key_of (xs ++ s ∷ [])) × (slice_get (xs ++ s ∷ []) i ≡ Some s)
      gone (nowhere, e) =
          let all : texts now ≡ map key_of (xs ++ s ∷ []) = e ∙ ap (λ z. z ++ key_of s ∷ []) n.keyed ∙ sym (map-append key_of xs (s ∷ [])) in (
            (λ j. nowhere (subst (λ z. IsAmong z (key_of s)) (sym n.keyed) (among_keys xs s j))),
            all,
            key_at (xs ++ s ∷ []) i s (ap (λ z. slice_get z i) (sym all) ∙ at),
          )

  -- and gets the next number
  pub enter_next : length trees ≤ i → IsWith g now (trees ++ tree ∷ []) xs s (length trees) (xs ++ s ∷ [])
  enter_next le =
      let new = enter_new le in record {
        numbered = record {
          keyed = new.1;
          count = omega (arith, length-append trees (tree ∷ []), length-append xs (s ∷ []), n.count);
          shaped = λ j x e. ⊎_elim
              (λ h. let r = n.shaped j x h in (r.0, get_more trees (tree ∷ []) j r.0 r.1, r.2))
              (λ h. (tree, ap (λ z. slice_get (trees ++ tree ∷ []) z) (h.0 ∙ sym n.count) ∙ get_last trees tree, subst (λ z. IsMet g tree z) h.1 met))
              (get_pushed xs s j x e);
          different = different-append xs s n.different new.0;
        };
        grown = inr (refl, n.count);
        at = ap (λ z. slice_get (xs ++ s ∷ []) z) n.count ∙ get_last xs s;
      }

  -- there is no room for it
  pub enter_full : (most : ℕ) → length trees ≤ i → most ≤ length trees → HasMoreFound g most
  enter_full most le full = record {
    shapes = s ∷ xs;
    more = omega (arith, full, n.count);
    different = ((enter_new le).0, n.different);
    each = λ x j. ⊎_elim (λ e. subst (λ z. IsFound g z) e met.found) (λ k. found_of xs x k (λ l y e. let r = n.shaped l y e in r.2.found)) j;
  }
    where
      found_of : (ys : List (Shape ℕ)) (x : Shape ℕ) → IsAmong ys x → ((l : ℕ) (y : Shape ℕ) → slice_get ys l ≡ Some y → IsFound g y) → IsFound g x
      found_of [] x j h = absurd j
      found_of (y ∷ ys) x j h = ⊎_elim (λ e. subst (λ z. IsFound g z) e (h 0 y refl)) (λ k. found_of ys x k (λ l z e. h (suc l) z e)) j
