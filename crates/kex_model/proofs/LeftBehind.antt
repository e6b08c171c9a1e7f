-- What holds where a walk may come back without a byte: which places it enters, and that it can be made shorter.
use Rattle.std.proofs.Common.{◌≡◌, ℕ, List, [], ◌∷◌, ◌++◌, ◌⊎◌, inl, inr, ⊎_elim, refl, sym, ap, subst, ◌∙◌}
use Rattle.kex_code.specs.declared.symbol.Symbol.{Symbol}
use Rattle.kex_code.specs.Codes.{bytes_of, IsAmong}
use Rattle.kex_model.specs.Moves.{Move, Step, Side, to_left, to_right, took, chose, went, Allows, target_of, symbol_of, symbols_of, code_of, Walk}
use Rattle.kex_model.specs.Survivors.{NoReturn}
use Rattle.kex_model.specs.Laws.{EntersNone, LeftBehind}
use Rattle.kex_model.proofs.Walks.{bytes_of-append}
use Rattle.kex_model.specs.Places.{Place, moves}

pub silent_front : (a b : List Symbol) → bytes_of (a ++ b) ≡ [] → (bytes_of a ≡ []) × (bytes_of b ≡ [])
silent_front a b e = go (bytes_of a) refl
  where
    go : (x : List ℕ) → bytes_of a ≡ x → (bytes_of a ≡ []) × (bytes_of b ≡ [])
    go [] f = (f, ap (λ z. z ++ bytes_of b) (sym f) ∙ sym (bytes_of-append a b) ∙ e)
    go (y ∷ ys) f =
        let bad : y ∷ (ys ++ bytes_of b) ≡ [] = ap (λ z. z ++ bytes_of b) (sym f) ∙ sym (bytes_of-append a b) ∙ e in
        cc

-- where every step without a byte from V leads into V or O, a walk without a byte that enters no place of O and ends outside V enters no place of V
module _ {S : Type 0} (f : S → Move S) (V O : S → Type 0) (closed : (s : S) (k : Step S) → V s → Allows (f s) k → bytes_of (symbols_of k) ≡ [] → V (target_of k) ⊎ O (target_of k)) where
  -- the steps enter no place of O
  abbrev pub Avoids : List (Step S) → Type 0
  Avoids [] = Unit {0}
  Avoids (k ∷ ks) = (O (target_of k) → ⊥) × Avoids ks

  pub stays_in : (ks : List (Step S)) (s t : S) → V s → Walk f s ks t → bytes_of (code_of ks) ≡ [] → Avoids ks → V t
  stays_in [] s t v w q n = subst V w v
  stays_in (k ∷ ks) s t v w q n =
      let quiet = silent_front (symbols_of k) (code_of ks) q in
      ⊎_elim (λ v'. stays_in ks (target_of k) t v' w.1 quiet.1 n.1) (λ o. absurd (n.0 o)) (closed s k v w.0 quiet.0)

-- the same over a stage's places, for lists of places
pub law : LeftBehind
law P left begun closed p q ks walk silent none out = enters ks p walk silent none
  where
    Left : Place → Type 0
    Left r = IsAmong left r

    Begun : Place → Type 0
    Begun r = IsAmong begun r

    avoids : (js : List (Step Place)) → EntersNone begun js → Avoids (moves P) Left Begun closed js
    avoids [] h = tt
    avoids (j ∷ js) h = ((λ o. h (target_of j) o (inl refl)), avoids js (λ r i x. h r i (inr x)))

    enters : (js : List (Step Place)) (s : Place) → Walk (moves P) s js q → bytes_of (code_of js) ≡ [] → EntersNone begun js → EntersNone left js
    enters [] s w e n r v i = i
    enters (j ∷ js) s w e n r v i =
        let quiet = silent_front (symbols_of j) (code_of js) e in
        let later : EntersNone begun js = λ r i x. n r i (inr x) in
        ⊎_elim
        (λ same. out (stays_in (moves P) Left Begun closed js (target_of j) q (subst (λ z. IsAmong left z) (sym same) v) w.1 quiet.1 (avoids js later)))
        (λ x. enters js (target_of j) w.1 quiet.1 later r v x)
        i

-- fewer places were entered before
pub once_fewer : {S : Type 0} (ks : List (Step S)) (more fewer : List S) → ((p : S) → IsAmong fewer p → IsAmong more p) → NoReturn more ks → NoReturn fewer ks
once_fewer [] more fewer h n = tt
once_fewer (took b t ∷ ks) more fewer h n = n
once_fewer (chose x t ∷ ks) more fewer h n = ((λ i. n.0 (h t i)), once_fewer ks (t ∷ more) (t ∷ fewer) (λ p. ⊎_elim (λ e. inl e) (λ i. inr (h p i))) n.1)
once_fewer (went x t ∷ ks) more fewer h n = ((λ i. n.0 (h t i)), once_fewer ks (t ∷ more) (t ∷ fewer) (λ p. ⊎_elim (λ e. inl e) (λ i. inr (h p i))) n.1)

side_bytes : (x : Side) (c : List Symbol) → bytes_of (symbol_of x ∷ c) ≡ bytes_of c
side_bytes to_left c = refl
side_bytes to_right c = refl

module _ {S : Type 0} (same : (x y : S) → (x ≡ y) ⊎ (x ≡ y → ⊥)) (f : S → Move S) where
  -- a walk on w that enters no place twice without a byte in between
  pub record Short (s t : S) (w : List ℕ) : Type 0 where
    pub steps : List (Step S)
    pub walk : Walk f s steps t
    pub once : NoReturn (s ∷ []) steps
    pub reads : bytes_of (code_of steps) ≡ w

  not_behind : (seen : List S) (s t : S) → (IsAmong seen t → ⊥) → (s ≡ t → ⊥) → IsAmong (seen ++ s ∷ []) t → ⊥
  not_behind [] s t n e i = ⊎_elim e (λ j. j) i
  not_behind (x ∷ seen) s t n e i = ⊎_elim (λ h. n (inl h)) (λ j. not_behind seen s t (λ k. n (inr k)) e j) i

  only_last : (seen : List S) (t p : S) → IsAmong (t ∷ []) p → IsAmong (t ∷ seen) p
  only_last seen t p i = ⊎_elim (λ e. inl e) (λ j. absurd j) i

  -- steps that come by s before a byte go on from there; others may have s among what was entered before
  by_s : (s : S) (ks : List (Step S)) (seen : List S) (u t : S) → Walk f u ks t → NoReturn seen ks → Short s t (bytes_of (code_of ks)) ⊎ NoReturn (seen ++ s ∷ []) ks
  by_s s [] seen u t w n = inr tt
  by_s s (took b v ∷ ks) seen u t w n = inr n
  by_s s (chose x v ∷ ks) seen u t w n =
      ⊎_elim
      (λ e. inl (record { steps = ks; walk = subst (λ z. Walk f z ks t) (sym e) w.1; once = subst (λ z. NoReturn (z ∷ []) ks) (sym e) (once_fewer ks (v ∷ seen) (v ∷ []) (only_last seen v) n.1); reads = sym (side_bytes x (code_of ks)) }))
      (λ ne. ⊎_elim
      (λ r. inl (record { steps = r.steps; walk = r.walk; once = r.once; reads = r.reads ∙ sym (side_bytes x (code_of ks)) }))
      (λ m. inr (not_behind seen s v n.0 ne, m))
      (by_s s ks (v ∷ seen) v t w.1 n.1))
      (same s v)
  by_s s (went x v ∷ ks) seen u t w n =
      ⊎_elim
      (λ e. inl (record { steps = ks; walk = subst (λ z. Walk f z ks t) (sym e) w.1; once = subst (λ z. NoReturn (z ∷ []) ks) (sym e) (once_fewer ks (v ∷ seen) (v ∷ []) (only_last seen v) n.1); reads = refl }))
      (λ ne. ⊎_elim
      (λ r. inl r)
      (λ m. inr (not_behind seen s v n.0 ne, m))
      (by_s s ks (v ∷ seen) v t w.1 n.1))
      (same s v)

  not_start : (s u : S) → (s ≡ u → ⊥) → IsAmong (s ∷ []) u → ⊥
  not_start s u ne i = ⊎_elim ne (λ j. j) i

  pub shorten : (ks : List (Step S)) (s t : S) → Walk f s ks t → Short s t (bytes_of (code_of ks))
  shorten [] s t w = record { steps = []; walk = w; once = tt; reads = refl }
  shorten (took b u ∷ ks) s t w = let r = shorten ks u t w.1 in record { steps = took b u ∷ r.steps; walk = (w.0, r.walk); once = r.once; reads = ap (λ z. b ∷ z) r.reads }
  shorten (chose x u ∷ ks) s t w =
      let r = shorten ks u t w.1 in
      let reads : bytes_of (code_of r.steps) ≡ bytes_of (symbol_of x ∷ code_of ks) = r.reads ∙ sym (side_bytes x (code_of ks)) in
      ⊎_elim
      (λ e. record { steps = r.steps; walk = subst (λ z. Walk f z r.steps t) (sym e) r.walk; once = subst (λ z. NoReturn (z ∷ []) r.steps) (sym e) r.once; reads = reads })
      (λ ne. ⊎_elim
      (λ q. record { steps = q.steps; walk = q.walk; once = q.once; reads = q.reads ∙ reads })
      (λ m. record { steps = chose x u ∷ r.steps; walk = (w.0, r.walk); once = (not_start s u ne, m); reads = side_bytes x (code_of r.steps) ∙ reads })
      (by_s s r.steps (u ∷ []) u t r.walk r.once))
      (same s u)
  shorten (went x u ∷ ks) s t w =
      let r = shorten ks u t w.1 in
      ⊎_elim
      (λ e. record { steps = r.steps; walk = subst (λ z. Walk f z r.steps t) (sym e) r.walk; once = subst (λ z. NoReturn (z ∷ []) r.steps) (sym e) r.once; reads = r.reads })
      (λ ne. ⊎_elim
      (λ q. record { steps = q.steps; walk = q.walk; once = q.once; reads = q.reads ∙ r.reads })
      (λ m. record { steps = went x u ∷ r.steps; walk = (w.0, r.walk); once = (not_start s u ne, m); reads = r.reads })
      (by_s s r.steps (u ∷ []) u t r.walk r.once))
      (same s u)
