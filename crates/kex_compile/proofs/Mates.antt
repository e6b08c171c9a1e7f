-- Steps that are paired by their symbols and by where they lead come back together.
use Rattle.std.proofs.Common.{◌≡◌, ℕ, List, [], ◌∷◌, inl, inr, ⊎_elim, refl, sym, subst}
use Rattle.kex_code.specs.declared.symbol.Symbol.TheVariants.{Byte}
use Rattle.kex_code.specs.Codes.{IsAmong}
use Rattle.kex_model.specs.Moves.{Step, Side, to_left, to_right, symbol_of, took, chose, went, target_of, symbols_of}
use Rattle.kex_model.specs.Survivors.{NoReturn}

not_a_side : {X : Type 0} (b : ℕ) (x : Side) → Byte b ∷ [] ≡ symbol_of x ∷ [] → X
not_a_side b to_left e = cc
not_a_side b to_right e = cc

module _ {S T : Type 0} (R : S → T → Type 0) where
  abbrev pub Mates : List (Step S) → List (Step T) → Type 0
  Mates [] [] = Unit {0}
  Mates (k ∷ ks) (j ∷ js) = (symbols_of k ≡ symbols_of j) × R (target_of k) (target_of j) × Mates ks js
  Mates [] (j ∷ js) = ⊥
  Mates (k ∷ ks) [] = ⊥

  -- each place of one list has a partner in the other
  abbrev pub Covers : List S → List T → Type 0
  Covers seen seen' = (t : T) → IsAmong seen' t → (s : S) × IsAmong seen s × R s t

  pub cover_more : (seen : List S) (seen' : List T) (s : S) (t : T) → R s t → Covers seen seen' → Covers (s ∷ seen) (t ∷ seen')
  cover_more seen seen' s t r c u i = ⊎_elim (λ e. (s, inl refl, subst (λ z. R s z) e r)) (λ j. let x = c u j in (x.0, inr x.1, x.2)) i

  pub cover_none : Covers [] []
  cover_none u i = absurd i

  module _ (one : (s s' : S) (t : T) → R s t → R s' t → s ≡ s') where
    entered : (seen : List S) (seen' : List T) (s : S) (t : T) → R s t → Covers seen seen' → (IsAmong seen s → ⊥) → IsAmong seen' t → ⊥
    entered seen seen' s t r c n i = let z = c t i in n (subst (λ u. IsAmong seen u) (one z.0 s t z.2 r) z.1)

    pub once_on : (ks : List (Step S)) (js : List (Step T)) (seen : List S) (seen' : List T) → Mates ks js → Covers seen seen' → NoReturn seen ks → NoReturn seen' js
    once_on [] [] seen seen' p c n = tt
    once_on [] (j ∷ js) seen seen' p c n = absurd p
    once_on (took x s ∷ ks) [] seen seen' p c n = absurd p
    once_on (chose x s ∷ ks) [] seen seen' p c n = absurd p
    once_on (went x s ∷ ks) [] seen seen' p c n = absurd p
    once_on (took x s ∷ ks) (took y t ∷ js) seen seen' p c n = once_on ks js (s ∷ []) (t ∷ []) p.2 (cover_more [] [] s t p.1 cover_none) n
    once_on (took x s ∷ ks) (chose y t ∷ js) seen seen' p c n = not_a_side x y p.0
    once_on (took x s ∷ ks) (went y t ∷ js) seen seen' p c n = absurd (let e : Byte x ∷ [] ≡ [] = p.0 in cc)
    once_on (chose x s ∷ ks) (took y t ∷ js) seen seen' p c n = not_a_side y x (sym p.0)
    once_on (went x s ∷ ks) (took y t ∷ js) seen seen' p c n = absurd (let e : [] ≡ Byte y ∷ [] = p.0 in cc)
    once_on (chose x s ∷ ks) (chose y t ∷ js) seen seen' p c n = (entered seen seen' s t p.1 c n.0, once_on ks js (s ∷ seen) (t ∷ seen') p.2 (cover_more seen seen' s t p.1 c) n.1)
    once_on (chose x s ∷ ks) (went y t ∷ js) seen seen' p c n = (entered seen seen' s t p.1 c n.0, once_on ks js (s ∷ seen) (t ∷ seen') p.2 (cover_more seen seen' s t p.1 c) n.1)
    once_on (went x s ∷ ks) (chose y t ∷ js) seen seen' p c n = (entered seen seen' s t p.1 c n.0, once_on ks js (s ∷ seen) (t ∷ seen') p.2 (cover_more seen seen' s t p.1 c) n.1)
    once_on (went x s ∷ ks) (went y t ∷ js) seen seen' p c n = (entered seen seen' s t p.1 c n.0, once_on ks js (s ∷ seen) (t ∷ seen') p.2 (cover_more seen seen' s t p.1 c) n.1)

pub turned : {S T : Type 0} (R : S → T → Type 0) (ks : List (Step S)) (js : List (Step T)) → Mates R ks js → Mates (λ t s. R s t) js ks
turned R [] [] p = tt
turned R (k ∷ ks) (j ∷ js) p = (sym p.0, p.1, turned R ks js p.2)
turned R [] (j ∷ js) p = absurd p
turned R (k ∷ ks) [] p = absurd p
