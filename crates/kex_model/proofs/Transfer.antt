-- What survives in one of two systems that are alike survives in the other.
use Rattle.std.proofs.Common.{◌≡◌, ℕ, List, [], ◌∷◌, ◌++◌, inl, inr, ⊎_elim, refl, sym, ap, ap₂, subst, ◌∙◌}
use Rattle.kex_code.specs.declared.symbol.Symbol.{Symbol}
use Rattle.kex_code.specs.declared.symbol.Symbol.TheVariants.{Byte}
use Rattle.kex_code.specs.Codes.{bytes_of, IsAmong}
use Rattle.kex_model.specs.Moves.{Move, Step, symbol_of, took, chose, went, target_of, symbols_of, code_of, Walk}
use Rattle.kex_model.specs.Survivors.{NoReturn, Reaches, LeadsToEnd, Survives, IsViable, Agreed}
use Rattle.kex_model.specs.Alike.{SameLabel, Alike}
use Rattle.kex_model.proofs.Derivations.{walk-append}

pub same_symbols : {S T : Type 0} (k : Step S) (j : Step T) → SameLabel k j → symbols_of k ≡ symbols_of j
same_symbols (took a s) (took b t) e = ap (λ z. Byte z ∷ []) e
same_symbols (chose x s) (chose y t) e = ap (λ z. symbol_of z ∷ []) e
same_symbols (went e s) (went f t) h = refl
same_symbols (took a s) (chose y t) e = absurd e
same_symbols (took a s) (went f t) e = absurd e
same_symbols (chose x s) (took b t) e = absurd e
same_symbols (chose x s) (went f t) e = absurd e
same_symbols (went e s) (took b t) h = absurd h
same_symbols (went e s) (chose y t) h = absurd h

module _ {S T : Type 0} (f : S → Move S) (g : T → Move T) (R : S → T → Type 0) where
  abbrev pub Paired : List (Step S) → List (Step T) → Type 0
  Paired [] [] = Unit {0}
  Paired (k ∷ ks) (j ∷ js) = SameLabel k j × R (target_of k) (target_of j) × Paired ks js
  Paired [] (j ∷ js) = ⊥
  Paired (k ∷ ks) [] = ⊥

  pub paired_code : (ks : List (Step S)) (js : List (Step T)) → Paired ks js → code_of ks ≡ code_of js
  paired_code [] [] p = refl
  paired_code (k ∷ ks) (j ∷ js) p = ap₂ (λ x y. x ++ y) (same_symbols k j p.0) (paired_code ks js p.2)
  paired_code [] (j ∷ js) p = absurd p
  paired_code (k ∷ ks) [] p = absurd p

  module _ (a : Alike f g R) where
    pub walk_ahead : (ks : List (Step S)) (s p : S) (t : T) → Walk f s ks p → LeadsToEnd f p → R s t → (js : List (Step T)) × (q : T) × Walk g t js q × R p q × Paired ks js
    walk_ahead [] s p t w end r = ([], t, refl, subst (λ z. R z t) w r, tt)
    walk_ahead (k ∷ ks) s p t w end r =
        let after : LeadsToEnd f (target_of k) = (ks ++ end.0, end.1, walk-append f ks end.0 (target_of k) p end.1 w.1 end.2, end.3) in
        let x = a.ahead s t k r w.0 after in
        let y = walk_ahead ks (target_of k) p (target_of x.0) w.1 end x.3 in
        (x.0 ∷ y.0, y.1, (x.1, y.2), y.3, (x.2, x.3, y.4))

    pub walk_back : (js : List (Step T)) (s : S) (t q : T) → Walk g t js q → R s t → (ks : List (Step S)) × (p : S) × Walk f s ks p × R p q × Paired ks js
    walk_back [] s t q w r = ([], s, refl, subst (λ z. R s z) w r, tt)
    walk_back (j ∷ js) s t q w r =
        let x = a.back s t j r w.0 in
        let y = walk_back js (target_of x.0) (target_of j) q w.1 x.3 in
        (x.0 ∷ y.0, y.1, (x.1, y.2), y.3, (x.2, x.3, y.4))

    -- one list of places is as the other
    abbrev pub Covers : List S → List T → Type 0
    Covers seen seen' = (t : T) → IsAmong seen' t → (s : S) × IsAmong seen s × R s t

    abbrev pub CoversBack : List S → List T → Type 0
    CoversBack seen seen' = (s : S) → IsAmong seen s → (t : T) × IsAmong seen' t × R s t

    more : (seen : List S) (seen' : List T) (s : S) (t : T) → R s t → Covers seen seen' → Covers (s ∷ seen) (t ∷ seen')
    more seen seen' s t r c u i = ⊎_elim (λ e. (s, inl refl, subst (λ z. R s z) e r)) (λ j. let x = c u j in (x.0, inr x.1, x.2)) i

    more_back : (seen : List S) (seen' : List T) (s : S) (t : T) → R s t → CoversBack seen seen' → CoversBack (s ∷ seen) (t ∷ seen')
    more_back seen seen' s t r c u i = ⊎_elim (λ e. (t, inl refl, subst (λ z. R z t) e r)) (λ j. let x = c u j in (x.0, inr x.1, x.2)) i

    nothing : Covers [] []
    nothing u i = absurd i

    nothing_back : CoversBack [] []
    nothing_back u i = absurd i

    once_ahead : (ks : List (Step S)) (js : List (Step T)) (seen : List S) (seen' : List T) → Paired ks js → Covers seen seen' → NoReturn seen ks → NoReturn seen' js
    once_ahead [] [] seen seen' p c n = tt
    once_ahead (took x s ∷ ks) (took y t ∷ js) seen seen' p c n = once_ahead ks js (s ∷ []) (t ∷ []) p.2 (more [] [] s t p.1 nothing) n
    once_ahead (chose x s ∷ ks) (chose y t ∷ js) seen seen' p c n = ((λ i. let z = c t i in n.0 (subst (λ u. IsAmong seen u) (a.one_back z.0 s t z.2 p.1) z.1)), once_ahead ks js (s ∷ seen) (t ∷ seen') p.2 (more seen seen' s t p.1 c) n.1)
    once_ahead (went x s ∷ ks) (went y t ∷ js) seen seen' p c n = ((λ i. let z = c t i in n.0 (subst (λ u. IsAmong seen u) (a.one_back z.0 s t z.2 p.1) z.1)), once_ahead ks js (s ∷ seen) (t ∷ seen') p.2 (more seen seen' s t p.1 c) n.1)
    once_ahead [] (j ∷ js) seen seen' p c n = absurd p
    once_ahead (took x s ∷ ks) [] seen seen' p c n = absurd p
    once_ahead (chose x s ∷ ks) [] seen seen' p c n = absurd p
    once_ahead (went x s ∷ ks) [] seen seen' p c n = absurd p
    once_ahead (took x s ∷ ks) (chose y t ∷ js) seen seen' p c n = absurd p.0
    once_ahead (took x s ∷ ks) (went y t ∷ js) seen seen' p c n = absurd p.0
    once_ahead (chose x s ∷ ks) (took y t ∷ js) seen seen' p c n = absurd p.0
    once_ahead (chose x s ∷ ks) (went y t ∷ js) seen seen' p c n = absurd p.0
    once_ahead (went x s ∷ ks) (took y t ∷ js) seen seen' p c n = absurd p.0
    once_ahead (went x s ∷ ks) (chose y t ∷ js) seen seen' p c n = absurd p.0

    once_back : (ks : List (Step S)) (js : List (Step T)) (seen : List S) (seen' : List T) → Paired ks js → CoversBack seen seen' → NoReturn seen' js → NoReturn seen ks
    once_back [] [] seen seen' p c n = tt
    once_back (took x s ∷ ks) (took y t ∷ js) seen seen' p c n = once_back ks js (s ∷ []) (t ∷ []) p.2 (more_back [] [] s t p.1 nothing_back) n
    once_back (chose x s ∷ ks) (chose y t ∷ js) seen seen' p c n = ((λ i. let z = c s i in n.0 (subst (λ u. IsAmong seen' u) (a.one s z.0 t z.2 p.1) z.1)), once_back ks js (s ∷ seen) (t ∷ seen') p.2 (more_back seen seen' s t p.1 c) n.1)
    once_back (went x s ∷ ks) (went y t ∷ js) seen seen' p c n = ((λ i. let z = c s i in n.0 (subst (λ u. IsAmong seen' u) (a.one s z.0 t z.2 p.1) z.1)), once_back ks js (s ∷ seen) (t ∷ seen') p.2 (more_back seen seen' s t p.1 c) n.1)
    once_back [] (j ∷ js) seen seen' p c n = absurd p
    once_back (took x s ∷ ks) [] seen seen' p c n = absurd p
    once_back (chose x s ∷ ks) [] seen seen' p c n = absurd p
    once_back (went x s ∷ ks) [] seen seen' p c n = absurd p
    once_back (took x s ∷ ks) (chose y t ∷ js) seen seen' p c n = absurd p.0
    once_back (took x s ∷ ks) (went y t ∷ js) seen seen' p c n = absurd p.0
    once_back (chose x s ∷ ks) (took y t ∷ js) seen seen' p c n = absurd p.0
    once_back (chose x s ∷ ks) (went y t ∷ js) seen seen' p c n = absurd p.0
    once_back (went x s ∷ ks) (took y t ∷ js) seen seen' p c n = absurd p.0
    once_back (went x s ∷ ks) (chose y t ∷ js) seen seen' p c n = absurd p.0

    module _ (start : S) (start' : T) (r : R start start') where
      pub reach_ahead : (w : List ℕ) (p : S) (c : List Symbol) → LeadsToEnd f p → Reaches f start w p c → (q : T) × R p q × Reaches g start' w q c
      reach_ahead w p c end (ks, h, e) =
          let x = walk_ahead ks start p start' h.walk end r in
          let same : code_of ks ≡ code_of x.0 = paired_code ks x.0 x.4 in
          (x.1, x.3, (x.0, record { walk = x.2; waits = a.waits p x.1 x.3 h.waits; once = once_ahead ks x.0 (start ∷ []) (start' ∷ []) x.4 (more [] [] start start' r nothing) h.once; reads = ap bytes_of (sym same) ∙ h.reads }, sym same ∙ e))

      pub reach_back : (w : List ℕ) (q : T) (c : List Symbol) → Reaches g start' w q c → (p : S) × R p q × Reaches f start w p c
      reach_back w q c (js, h, e) =
          let x = walk_back js start start' q h.walk r in
          let same : code_of x.0 ≡ code_of js = paired_code x.0 js x.4 in
          (x.1, x.3, (x.0, record { walk = x.2; waits = a.waits_back x.1 q x.3 h.waits; once = once_back x.0 js (start ∷ []) (start' ∷ []) x.4 (more_back [] [] start start' r nothing_back) h.once; reads = ap bytes_of same ∙ h.reads }, same ∙ e))

      pub end_ahead : (p : S) (q : T) → R p q → LeadsToEnd f p → LeadsToEnd g q
      end_ahead p q rel (ks, e, w, acc) =
          let x = walk_ahead ks p e q w ([], e, refl, acc) rel in
          (x.0, x.1, x.2, a.ends e x.1 x.3 acc)

      pub end_back : (p : S) (q : T) → R p q → LeadsToEnd g q → LeadsToEnd f p
      end_back p q rel (js, e, w, acc) =
          let x = walk_back js p q e w rel in
          (x.0, x.1, x.2, a.ends_back x.1 e x.3 acc)

      pub survives_ahead : (w : List ℕ) (p : S) (c : List Symbol) → Survives f start w p c → (q : T) × R p q × Survives g start' w q c
      survives_ahead w p c h =
          let x = reach_ahead w p c h.alive h.reached in (
            x.0,
            x.1,
            record {
              reached = x.2;
              alive = end_ahead p x.0 x.1 h.alive;
              least = λ d rd. let y = reach_back w x.0 d rd in h.least d (subst (λ z. Reaches f start w z d) (a.one_back y.0 p x.0 y.1 x.1) y.2);
            },
          )

      pub survives_back : (w : List ℕ) (q : T) (c : List Symbol) → Survives g start' w q c → (p : S) × R p q × Survives f start w p c
      survives_back w q c h =
          let x = reach_back w q c h.reached in
          let end : LeadsToEnd f x.0 = end_back x.0 q x.1 h.alive in (
            x.0,
            x.1,
            record {
              reached = x.2;
              alive = end;
              least = λ d rd. let y = reach_ahead w x.0 d end rd in h.least d (subst (λ z. Reaches g start' w z d) (a.one x.0 y.0 q y.1 x.1) y.2);
            },
          )

      pub viable_ahead : (w : List ℕ) → IsViable f start w → IsViable g start' w
      viable_ahead w (p, (c, reached, end)) = let x = reach_ahead w p c end reached in (x.0, (c, x.2, end_ahead p x.0 x.1 end))

      pub agreed_ahead : (w : List ℕ) (c : List Symbol) → Agreed f start w c → Agreed g start' w c
      agreed_ahead w c h = record {
        viable = viable_ahead w h.viable;
        common = λ q d s. let x = survives_back w q d s in h.common x.0 d x.2;
        longest = λ c' all. h.longest c' (λ p d s. let x = survives_ahead w p d s in all x.0 d x.2);
      }
