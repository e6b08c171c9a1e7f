-- A question that is put among others with its answer.
use Rattle.std.proofs.Common.{◌≡◌, ℕ, ◌<◌, ◌≤◌, Bool, true, List, [], ◌∷◌, ◌++◌, ⊎_elim, Some, length, sym, ap, subst, ◌∙◌, length-append, arith}
use Rattle.std.specs.Prelude.{slice_get}
use Rattle.std.specs.Global.{Vec}
use Rattle.std.proofs.lemmas.List.{length-map}
use Rattle.std.proofs.lemmas.Option.{slice_get-map, slice_get_within}
use Rattle.std.specs.Bool.{Decides}
use Rattle.std.specs.Option.{option_map}
use Rattle.kex_code.specs.Codes.{IsAmong}
use Rattle.kex_model.proofs.Tables.{get_pushed}
use Rattle.kex_machine.specs.Nodes.{Graph}
use Rattle.kex_determine.specs.Numbering.{texts, IsAdded}
use Rattle.kex_determine.proofs.MachineTables.{among_get}
use Rattle.kex_cover.specs.Keeping.{AreAnswered, IsAnswered}

-- the list that a number was found for
pub stored_question : (eq : Vec ℕ → Vec ℕ → Bool) → ((x y : Vec ℕ) → Decides (eq x y) (x.items ≡ y.items)) → (ks : List (Vec ℕ)) (i : ℕ) (k x : Vec ℕ) → slice_get ks i ≡ Some x → eq k x ≡ true → slice_get (texts ks) i ≡ Some k.items
stored_question eq same ks i k x e h = slice_get-map (λ v. v.items) ks i ∙ ap (λ z. option_map (λ v. v.items) z) e ∙ ap (λ z. Some z) (sym ((same k x).0 h))

as_question : (g : Graph) (most leaf leaf' : ℕ) (before before' : List ℕ) (answer answer' : Bool) → leaf ∷ before ≡ leaf' ∷ before' → answer ≡ answer' → IsAnswered g most leaf before answer → IsAnswered g most leaf' before' answer'
as_question g most leaf leaf' before before' answer answer' e f h =
    let p : leaf ≡ leaf' = cc in
    let q : before ≡ before' = cc in
    subst (λ z. IsAnswered g most leaf' before' z) f (subst (λ z. IsAnswered g most leaf' z answer) q (subst (λ z. IsAnswered g most z before answer) p h))

pub none_asked : (g : Graph) (most : ℕ) (asked : List (Vec ℕ)) (answers : List Bool) → asked ≡ [] → answers ≡ [] → AreAnswered g most asked answers
none_asked g most asked answers e f = record {
  count = ap length f ∙ sym (ap length e);
  each = λ i leaf before answer a b. let bad : ⊥ = no_item i answer (ap (λ z. slice_get z i) (sym f) ∙ b) in absurd bad;
}
  where
    no_item : (i : ℕ) (answer : Bool) → slice_get [] i ≡ Some answer → ⊥
    no_item i answer e = cc

module _ (g : Graph) (most : ℕ) (asked now : List (Vec ℕ)) (answers : List Bool) (leaf : ℕ) (before : List ℕ) (i : ℕ) (h : AreAnswered g most asked answers) (added : IsAdded (texts asked) (leaf ∷ before) (texts now)) (at : slice_get (texts now) i ≡ Some (leaf ∷ before)) where
  many : length (texts asked) ≡ length answers
  many = length-map asked (λ v. v.items) ∙ sym h.count

  -- it was asked before
  pub known_question : i < length answers → AreAnswered g most now answers × ((answer : Bool) → slice_get answers i ≡ Some answer → IsAnswered g most leaf before answer)
  known_question lt = ⊎_elim old new added
    where
      old : IsAmong (texts asked) (leaf ∷ before) × (texts now ≡ texts asked) → AreAnswered g most now answers × ((answer : Bool) → slice_get answers i ≡ Some answer → IsAnswered g most leaf before answer)
      old (j, e) = (
        record {
          count = sym many ∙ ap length (sym e) ∙ length-map now (λ v. v.items);
          each = λ k l b y a s. h.each k l b y (ap (λ z. slice_get z k) (sym e) ∙ a) s;
        },
        (λ answer s. h.each i leaf before answer (ap (λ z. slice_get z i) (sym e) ∙ at) s),
      )

      new : (IsAmong (texts asked) (leaf ∷ before) → ⊥) × (texts now ≡ texts asked ++ (leaf ∷ before) ∷ []) → AreAnswered g most now answers × ((answer : Bool) → slice_get answers i ≡ Some answer → IsAnswered g most leaf before answer)
      new (nowhere, e) = ⊎_elim
          (λ here. absurd (nowhere (among_get (texts asked) i (leaf ∷ before) here)))
          (λ last. absurd (omega (arith, last.0, many, lt)))
          (get_pushed (texts asked) (leaf ∷ before) i (leaf ∷ before) (ap (λ z. slice_get z i) (sym e) ∙ at))

  -- it is new, and gets its answer
  pub new_question : length answers ≤ i → (answer : Bool) → IsAnswered g most leaf before answer → AreAnswered g most now (answers ++ answer ∷ [])
  new_question le answer told = ⊎_elim old new added
    where
      old : IsAmong (texts asked) (leaf ∷ before) × (texts now ≡ texts asked) → AreAnswered g most now (answers ++ answer ∷ [])
      old (j, e) =
          let lt = slice_get_within (texts asked) i (leaf ∷ before) (ap (λ z. slice_get z i) (sym e) ∙ at) in
          absurd (omega (arith, lt, many, le))

      new : (IsAmong (texts asked) (leaf ∷ before) → ⊥) × (texts now ≡ texts asked ++ (leaf ∷ before) ∷ []) → AreAnswered g most now (answers ++ answer ∷ [])
      new (nowhere, e) = record {
        count = omega (arith, length-append answers (answer ∷ []), many, ap length e, length-append (texts asked) ((leaf ∷ before) ∷ []), length-map now (λ v. v.items));
        each = λ k l b y a s. ⊎_elim
            (λ here. ⊎_elim
            (λ there. h.each k l b y here there)
            (λ last. let lt = slice_get_within (texts asked) k (l ∷ b) here in absurd (omega (arith, lt, many, last.0)))
            (get_pushed answers answer k y s))
            (λ last. ⊎_elim
            (λ there. let lt = slice_get_within answers k y there in absurd (omega (arith, lt, many, last.0)))
            (λ end. as_question g most leaf l before b answer y last.1 end.1 told)
            (get_pushed answers answer k y s))
            (get_pushed (texts asked) (leaf ∷ before) k (l ∷ b) (ap (λ z. slice_get z k) (sym e) ∙ a));
      }
