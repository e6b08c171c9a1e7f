-- Where the end is reached from everywhere, no loop goes without a symbol: from its places no other step leads on.
use Rattle.std.proofs.Common.{◌≡◌, ℕ, List, [], ◌∷◌, ◌++◌, refl, sym, ap, ap₂, subst, ◌∙◌}
use Rattle.kex_code.specs.declared.symbol.Symbol.{Symbol}
use Rattle.kex_model.specs.Moves.{Move, accept, Step, Allows, reads, goes_left, goes_right, goes_forced, goes, target_of, symbols_of, code_of, Walk}
use Rattle.kex_model.specs.Survivors.{LeadsToEnd}
use Rattle.kex_model.proofs.Derivations.{walk-append, code_of-append, from_accept}

-- a step without a symbol is the only one
one_step : {m : Move ℕ} {k j : Step ℕ} → Allows m k → symbols_of k ≡ [] → Allows m j → j ≡ k
one_step (reads h) e a = cc
one_step goes_left e a = cc
one_step goes_right e a = cc
one_step goes_forced e a = cc
one_step goes e goes = refl

parts_none : (x y : List Symbol) → x ++ y ≡ [] → (x ≡ []) × (y ≡ [])
parts_none [] y e = (refl, e)
parts_none (a ∷ x) y e = cc

module _ (moves : ℕ → Move ℕ) where
  -- a loop from a place
  pub record Loop (n : ℕ) : Type 0 where
    pub first : Step ℕ
    pub others : List (Step ℕ)
    pub walk : Walk moves n (first ∷ others) n
    pub mute : code_of (first ∷ others) ≡ []

  -- the same loop from where it leads first
  turned : (n : ℕ) (k : Step ℕ) (ks : List (Step ℕ)) → Allows (moves n) k → symbols_of k ≡ [] → Walk moves (target_of k) ks n → code_of ks ≡ [] → Loop (target_of k)
  turned n k [] a q w e = record { first = k; others = []; walk = (subst (λ z. Allows (moves z) k) (sym w) a, refl); mute = ap (λ z. z ++ []) q }
  turned n k (i ∷ is) a q w e = record {
    first = i;
    others = is ++ k ∷ [];
    walk = walk-append moves (i ∷ is) (k ∷ []) (target_of k) n (target_of k) w (a, refl);
    mute = code_of-append (i ∷ is) (k ∷ []) ∙ ap₂ (λ x y. x ++ (y ++ [])) e q;
  }

  -- from a place of such a loop no walk comes to the end
  stuck : (js : List (Step ℕ)) (n e : ℕ) → Loop n → Walk moves n js e → moves e ≡ accept → ⊥
  stuck [] n e l w acc = from_accept (subst (λ z. Allows z l.first) (ap moves w ∙ acc) l.walk.0)
  stuck (j ∷ js) n e l w acc =
      let p = parts_none (symbols_of l.first) (code_of l.others) l.mute in
      let same : j ≡ l.first = one_step l.walk.0 p.0 w.0 in
      stuck js (target_of l.first) e (turned n l.first l.others l.walk.0 p.0 l.walk.1 p.1) (subst (λ z. Walk moves (target_of z) js e) same w.1) acc

  pub no_mute_loop : ((p : ℕ) → LeadsToEnd moves p) → (n : ℕ) (k : Step ℕ) (ks : List (Step ℕ)) → Walk moves n (k ∷ ks) n → code_of (k ∷ ks) ≡ [] → ⊥
  no_mute_loop ends n k ks loop mute = let r = ends n in stuck r.0 n r.1 (record { first = k; others = ks; walk = loop; mute = mute }) r.2 r.3
