-- The table and the nodes while they are made, and what they are at the end.
use Rattle.std.proofs.Common.{◌≡◌, ℕ, zero, suc, ◌<◌, ◌≤◌, List, [], ◌∷◌, ◌++◌, ⊎_elim, Some, length, get_or, refl, sym, ap, subst, ◌∙◌, length-append, arith}
use Rattle.std.specs.Prelude.{slice_get}
use Rattle.std.proofs.lemmas.Option.{slice_get_within, slice_get-get_or, slice_get_cases}
use Rattle.std.proofs.lemmas.List.Elements.{All-from_get_or}
use Rattle.kex_code.specs.Codes.{HasNumber, Begins}
use Rattle.kex_model.specs.Programs.{Grammar, IsGrammar}
use Rattle.kex_model.specs.Moves.{Move, target_of}
use Rattle.kex_model.specs.Places.{Place, IsPlace, at_start, by_step, by_rest, enter, moves, start_of}
use Rattle.kex_model.specs.Alike.{Goes, reads_on, chooses, forces, goes_on}
use Rattle.kex_model.proofs.Likeness.{goes_more, step_ahead}
use Rattle.kex_machine.specs.Nodes.{IsBelow, IsMachineInRange, move_of, node_moves}
use Rattle.kex_machine.specs.declared.MNode.{MNode}
use Rattle.kex_machine.specs.declared.MNode.TheVariants.{Accept, Read, Choice, Forced, Do, Skip}
use Rattle.kex_desugar.specs.declared.spot.Spot.{Spot}
use Rattle.kex_desugar.specs.declared.spot.Spot.TheVariants.{Empty, On}
use Rattle.kex_desugar.specs.Machines.{HasMore, IsMachineOf}
use Rattle.kex_desugar.specs.Spots.{SpotIsPlace, IsAt, IsReal, NodeOf, Real}
use Rattle.kex_model.proofs.Tables.{some_same, get_more, get_pushed}
use Rattle.kex_desugar.proofs.PlaceNumbers.{names_more, one_place, one_at, one_number}
use Rattle.kex_desugar.proofs.SpotWays.{at_later}
use Rattle.kex_desugar.proofs.Registers.{IsWithin, moves_within}
use Rattle.kex_model.proofs.DistinctItems.{among_get, different_fits}

pub get_later : {A : Type 0} (xs ys : List A) → Begins ys xs → (i : ℕ) (x : A) → slice_get xs i ≡ Some x → slice_get ys i ≡ Some x
get_later xs ys (more, e) i x g = subst (λ z. slice_get z i ≡ Some x) (sym e) (get_more xs more i x g)

at_within : (spots : List Spot) (p : Place) (i : ℕ) → IsAt spots p i → i < length spots
at_within spots p i (s, at, h) = slice_get_within spots i s at

module _ (P : Grammar) (root : ℕ) where
  node_later : (xs ys : List Spot) (s : Spot) (m : MNode) → IsReal P root xs s → Begins ys xs → NodeOf P xs s m → NodeOf P ys s m
  node_later xs ys s m (p0, h0, is) (more, e) node p h =
      let new : SpotIsPlace ys s p0 = subst (λ z. SpotIsPlace z s p0) (sym e) (names_more xs more s p0 h0) in
      goes_more (IsAt xs) (IsAt ys) (λ q i at. at_later xs ys (more, e) q i at) (node p (subst (λ z. SpotIsPlace xs s z) (one_place ys s p0 p new h) h0))

  -- the first nodes are those of the first spots
  pub record Made (max : ℕ) (spots : List Spot) (nodes : List MNode) (start bottom : ℕ) : Type 0 where
    pub real : Real P root spots
    pub within : length spots ≤ max
    pub few : length nodes ≤ length spots
    pub done : (i : ℕ) (s : Spot) (m : MNode) → slice_get spots i ≡ Some s → slice_get nodes i ≡ Some m → NodeOf P spots s m
    pub first : slice_get spots start ≡ Some (On (enter P root) bottom)
    pub last : slice_get spots bottom ≡ Some Empty

  pub made_none : (max : ℕ) (spots : List Spot) (start bottom : ℕ) → Real P root spots → length spots ≤ max → slice_get spots start ≡ Some (On (enter P root) bottom) → slice_get spots bottom ≡ Some Empty → Made max spots [] start bottom
  made_none max spots start bottom r w f l = record { real = r; within = w; few = omega arith; done = λ i s m g h. let lt : i < 0 = slice_get_within [] i m h in absurd (omega arith); first = f; last = l }

  pub made_more : (max : ℕ) (xs ys : List Spot) (nodes : List MNode) (start bottom : ℕ) (s : Spot) (m : MNode) → Made max xs nodes start bottom → slice_get xs (length nodes) ≡ Some s → Begins ys xs → Real P root ys → length ys ≤ max → NodeOf P ys s m → Made max ys (nodes ++ m ∷ []) start bottom
  made_more max xs ys nodes start bottom s m made at b r w node = record {
    real = r;
    within = w;
    few = omega (arith, slice_get_within xs (length nodes) s at, length-append nodes (m ∷ []), grown b);
    done = λ i u n g h. ⊎_elim
        (λ old.
        let here : slice_get xs i ≡ Some u = back i u g (omega (arith, slice_get_within nodes i n old, made.few)) in
        node_later xs ys u n (made.real.each i u here) b (made.done i u n here old))
        (λ new.
        let is : s ≡ u = some_same s u (sym (get_later xs ys b (length nodes) s at) ∙ ap (λ z. slice_get ys z) (sym new.0) ∙ g) in
        subst (λ z. NodeOf P ys z n) is (subst (λ z. NodeOf P ys s z) new.1 node))
        (get_pushed nodes m i n h);
    first = get_later xs ys b start _ made.first;
    last = get_later xs ys b bottom _ made.last;
  }
    where
      grown : Begins ys xs → length xs ≤ length ys
      grown (more, e) = omega (arith, ap length e, length-append xs more)

      back : (i : ℕ) (u : Spot) → slice_get ys i ≡ Some u → i < length xs → slice_get xs i ≡ Some u
      back i u g lt =
          let here : slice_get xs i ≡ Some (get_or xs i u) = slice_get-get_or xs i u lt in
          here ∙ sym (get_later xs ys b i (get_or xs i u) here) ∙ g

  -- all spots have their nodes
  module _ (max : ℕ) (spots : List Spot) (nodes : List MNode) (start bottom : ℕ) (made : Made max spots nodes start bottom) (full : length spots ≤ length nodes) where
    goes_at : (p : Place) (i : ℕ) → IsAt spots p i → Goes (IsAt spots) (moves P p) (node_moves nodes i)
    goes_at p i (s, at, h) =
        ⊎_elim
        (λ n. subst (λ z. Goes (IsAt spots) (moves P p) (move_of z)) (sym n.2) (made.done i s n.0 at n.2 p h))
        (λ n. let lt : i < length spots = slice_get_within spots i s at in let past : length nodes ≤ i = n.0 in absurd (omega arith))
        (slice_get_cases nodes i).1

    starts : IsAt spots (start_of P root) start
    starts = (On (enter P root) bottom, made.first, (bottom, Empty, refl, made.last, refl))

    has_number : (p : Place) → IsPlace P root p → (i : ℕ) × IsAt spots p i
    has_number p at_start = (start, starts)
    has_number p (by_step {p = before} k is a) =
        let i = has_number before is in
        let j = step_ahead (IsAt spots) (goes_at before i.0 i.1) a in
        (target_of j.0, j.3)
    has_number p (by_rest {f = f} is) =
        let i = has_number (f ∷ p) is in
        let under = i.1.2 in
        (under.0, (under.1, under.3, under.4))

    -- the places of the first n numbers, in order
    record Listed (n : ℕ) : Type 0 where
      places : List Place
      long : length places ≡ n
      each : (p : Place) (i : ℕ) → slice_get places i ≡ Some p → IsAt spots p i

    one_more : (n : ℕ) (s : Spot) → slice_get spots n ≡ Some s → IsReal P root spots s → Listed n → Listed (suc n)
    one_more n s at (p, h, is) before = record {
      places = before.places ++ p ∷ [];
      long = let l : length before.places ≡ n = before.long in omega (arith, length-append before.places (p ∷ []));
      each = λ q i g. ⊎_elim
          (λ old. before.each q i old)
          (λ new. subst (λ z. IsAt spots z i) new.1 (subst (λ z. IsAt spots p z) (sym (new.0 ∙ before.long)) (s, at, h)))
          (get_pushed before.places p i q g);
    }

    listed : (n : ℕ) → n ≤ length spots → Listed n
    listed zero le = record { places = []; long = refl; each = λ p i g. let lt : i < 0 = slice_get_within [] i p g in absurd (omega arith) }
    listed (suc n) le =
        let before = listed n (omega arith) in
        ⊎_elim
        (λ h. one_more n h.0 h.2 (made.real.each n h.0 h.2) before)
        (λ h. let past : length spots ≤ n = h.0 in absurd (omega arith))
        (slice_get_cases spots n).1

    all_places : Listed (length spots)
    all_places = listed (length spots) (omega arith)

    numbered : (p : Place) (i : ℕ) → IsAt spots p i → HasNumber all_places.places p i
    numbered p i at =
        ⊎_elim
        (λ h. h.2 ∙ ap (λ z. Some z) (one_at spots i h.0 p (all_places.each h.0 i h.2) at))
        (λ h. let lt : i < length spots = at_within spots p i at in let past : length all_places.places ≤ i = h.0 in let l : length all_places.places ≡ length spots = all_places.long in absurd (omega arith))
        (slice_get_cases all_places.places i).1

    real_at : (p : Place) (i : ℕ) → IsAt spots p i → IsPlace P root p
    real_at p i (s, at, h) = let r = made.real.each i s at in subst (λ z. IsPlace P root z) (one_place spots s r.0 p r.1 h) r.2

    same_length : length nodes ≡ length spots
    same_length = let f : length nodes ≤ length spots = made.few in omega arith

    pub is_machine : (stage registers : ℕ) → registers ≡ P.registers → IsMachineOf P root (record { start = start; nodes = nodes; stage = stage; registers = registers })
    is_machine stage registers same = record {
      places = all_places.places;
      count = all_places.long ∙ sym same_length;
      each = λ p i h. real_at p i (all_places.each p i h);
      all = λ p is. let i = has_number p is in (i.0, numbered p i.0 i.1);
      once = λ p i j h k. one_number spots made.real.once p i j (all_places.each p i h) (all_places.each p j k);
      start = numbered (start_of P root) start starts;
      registers = same;
      goes = λ p i h. goes_more (IsAt spots) (HasNumber all_places.places) numbered (goes_at p i (all_places.each p i h));
    }

    pub fits : HasMore P root max → ⊥
    fits h =
        let n : length h.places ≤ length all_places.places = different_fits h.places all_places.places h.different (λ p i. let j = has_number p (h.each p i) in among_get all_places.places j.0 p (numbered p j.0 j.1)) in
        let m : length h.places ≡ suc max = h.more in
        let l : length all_places.places ≡ length spots = all_places.long in
        let w : length spots ≤ max = made.within in
        omega arith

    below_by : (m : MNode) {v : Move Place} → IsWithin P.registers v → Goes (IsAt spots) v (move_of (Some m)) → IsBelow (length spots) P.registers m
    below_by Accept w g = tt
    below_by (Read set n) w (reads_on r) = at_within spots _ n r
    below_by (Choice l r) w (chooses a b) = (at_within spots _ l a, at_within spots _ r b)
    below_by (Forced x n) w (forces r) = at_within spots _ n r
    below_by (Do e n) w (goes_on r) = (at_within spots _ n r, w)
    below_by (Skip n) w (goes_on r) = at_within spots _ n r

    below_at : IsGrammar P → (i : ℕ) → i < length nodes → IsBelow (length nodes) P.registers (get_or nodes i Accept)
    below_at ok i lt =
        ⊎_elim
        (λ h.
        let r = made.real.each i h.0 h.2 in
        subst (λ z. IsBelow z P.registers (get_or nodes i Accept)) (sym same_length) (below_by (get_or nodes i Accept) (moves_within P ok r.0) (made.done i h.0 (get_or nodes i Accept) h.2 (slice_get-get_or nodes i Accept lt) r.0 r.1)))
        (λ h. let past : length spots ≤ i = h.0 in let l : length nodes ≡ length spots = same_length in absurd (omega arith))
        (slice_get_cases spots i).1

    pub in_range : IsGrammar P → max < 4294967296 → IsMachineInRange start nodes P.registers
    in_range ok small = record {
      count = let w : length spots ≤ max = made.within in let l : length nodes ≡ length spots = same_length in omega arith;
      start_in = subst (λ z. start < z) (sym same_length) (at_within spots (start_of P root) start starts);
      below = All-from_get_or (IsBelow (length nodes) P.registers) nodes Accept (below_at ok);
    }
