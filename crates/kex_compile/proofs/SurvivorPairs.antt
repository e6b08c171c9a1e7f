-- The survivors of a stage in two alike programs: they correspond one to one, with the same codes.
use Rattle.std.proofs.Common.{◌≡◌, ℕ, List, [], ◌∷◌, sym, ap, ◌∙◌, subst}
use Rattle.kex_code.specs.declared.symbol.Symbol.{Symbol}
use Rattle.kex_code.specs.Codes.{bytes_of}
use Rattle.kex_model.specs.Programs.{Grammar}
use Rattle.kex_model.specs.Places.{Place, moves, start_of}
use Rattle.kex_model.specs.Survivors.{LeadsToEnd, Reaches, IsAlive, Survives, Agreed}
use Rattle.kex_model.specs.Answers.{Viable}
use Rattle.kex_compile.proofs.Alike.{Alike}
use Rattle.kex_compile.proofs.PlacePairs.{SamePlace, empty, Partners, enter_on, moves_on, walk_on, walk_back, waits_on, waits_back, end_on, end_back, place_back, place_forth, one_partner, one_partner_back}
use Rattle.kex_compile.proofs.StagePairs.{Known}
use Rattle.kex_compile.proofs.Mates.{once_on, cover_more, cover_none, turned}

module _ (P Q : Grammar) (a : Alike P Q) (known : Known P) (root root' : ℕ) (same : Partners P Q a known root root') where
  abbrev from : Place
  from = start_of P root

  abbrev from' : Place
  from' = start_of Q root'

  abbrev SameHere : Place → Place → Type 0
  SameHere = SamePlace (Partners P Q a known)

  begin : SameHere from from'
  begin = enter_on P Q a known root root' same empty

  abbrev SameThere : Place → Place → Type 0
  SameThere q p = SameHere p q

  one_back : (p p' q : Place) → SameHere p q → SameHere p' q → p ≡ p'
  one_back p p' q h k = place_back (Partners P Q a known) (one_partner_back P Q a known root root' same) h k

  one_forth : (q q' p : Place) → SameThere q p → SameThere q' p → q ≡ q'
  one_forth q q' p h k = place_forth (Partners P Q a known) (one_partner P Q a known root root' same) h k

  pub reach_on : (w : List ℕ) (p : Place) (c : List Symbol) → Reaches (moves P) from w p c → (q : Place) × SameHere p q × Reaches (moves Q) from' w q c
  reach_on w p c (ks, h, e) =
      let x = walk_on P Q a known ks from p from' h.walk begin in
      (x.1, x.3, (x.0, record { walk = x.2; waits = waits_on (Partners P Q a known) (moves_on P Q a known x.3) h.waits; once = once_on SameHere one_back ks x.0 (from ∷ []) (from' ∷ []) x.5 (cover_more SameHere [] [] from from' begin (cover_none SameHere)) h.once; reads = ap bytes_of (sym x.4) ∙ h.reads }, sym x.4 ∙ e))

  pub reach_back : (w : List ℕ) (q : Place) (c : List Symbol) → Reaches (moves Q) from' w q c → (p : Place) × SameHere p q × Reaches (moves P) from w p c
  reach_back w q c (js, h, e) =
      let x = walk_back P Q a known js from from' q h.walk begin in
      (x.1, x.3, (x.0, record { walk = x.2; waits = waits_back (Partners P Q a known) (moves_on P Q a known x.3) h.waits; once = once_on SameThere one_forth js x.0 (from' ∷ []) (from ∷ []) (turned SameHere x.0 js x.5) (cover_more SameThere [] [] from' from begin (cover_none SameThere)) h.once; reads = ap bytes_of x.4 ∙ h.reads }, x.4 ∙ e))

  pub alive_on : (p q : Place) → SameHere p q → LeadsToEnd (moves P) p → LeadsToEnd (moves Q) q
  alive_on p q s (ks, e, w, acc) =
      let x = walk_on P Q a known ks p e q w s in
      (x.0, x.1, x.2, end_on (Partners P Q a known) (moves_on P Q a known x.3) acc)

  pub alive_back : (p q : Place) → SameHere p q → LeadsToEnd (moves Q) q → LeadsToEnd (moves P) p
  alive_back p q s (js, e, w, acc) =
      let x = walk_back P Q a known js p q e w s in
      (x.0, x.1, x.2, end_back (Partners P Q a known) (moves_on P Q a known x.3) acc)

  pub survives_on : (w : List ℕ) (p : Place) (c : List Symbol) → Survives (moves P) from w p c → (q : Place) × SameHere p q × Survives (moves Q) from' w q c
  survives_on w p c h =
      let x = reach_on w p c h.reached in (
        x.0,
        x.1,
        record {
          reached = x.2;
          alive = alive_on p x.0 x.1 h.alive;
          least = λ d r. let y = reach_back w x.0 d r in h.least d (subst (λ z. Reaches (moves P) from w z d) (place_back (Partners P Q a known) (one_partner_back P Q a known root root' same) y.1 x.1) y.2);
        },
      )

  pub survives_back : (w : List ℕ) (q : Place) (c : List Symbol) → Survives (moves Q) from' w q c → (p : Place) × SameHere p q × Survives (moves P) from w p c
  survives_back w q c h =
      let x = reach_back w q c h.reached in (
        x.0,
        x.1,
        record {
          reached = x.2;
          alive = alive_back x.0 q x.1 h.alive;
          least = λ d r. let y = reach_on w x.0 d r in h.least d (subst (λ z. Reaches (moves Q) from' w z d) (place_forth (Partners P Q a known) (one_partner P Q a known root root' same) y.1 x.1) y.2);
        },
      )

  pub viable_on : (w : List ℕ) → Viable P root w → Viable Q root' w
  viable_on w (p, (c, reached, end)) = let x = reach_on w p c reached in (x.0, (c, x.2, alive_on p x.0 x.1 end))

  pub viable_back : (w : List ℕ) → Viable Q root' w → Viable P root w
  viable_back w (q, (c, reached, end)) = let x = reach_back w q c reached in (x.0, (c, x.2, alive_back x.0 q x.1 end))

  pub agreed_on : (w : List ℕ) (c : List Symbol) → Agreed (moves P) from w c → Agreed (moves Q) from' w c
  agreed_on w c h = record {
    viable = viable_on w h.viable;
    common = λ q d s. let x = survives_back w q d s in h.common x.0 d x.2;
    longest = λ c' all. h.longest c' (λ p d s. let x = survives_on w p d s in all x.0 d x.2);
  }

  -- what is alive on one side has a partner on the other
  pub alive_there : (w : List ℕ) (q : Place) → IsAlive (moves Q) from' w q → (p : Place) × SameHere p q × IsAlive (moves P) from w p
  alive_there w q (c, r, end) = let x = reach_back w q c r in (x.0, x.1, (c, x.2, alive_back x.0 q x.1 end))
