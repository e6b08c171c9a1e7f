-- One stage more: which stages are refused first, and what the plans are.
use Rattle.std.proofs.Common.{◌≡◌, ◌+◌, ℕ, zero, suc, List, [], ◌∷◌, ◌++◌, ◌⊎◌, inl, inr, ⊎_elim, length, refl, sym, ap, subst, ◌∙◌, append_assoc, arith}
use Rattle.std.specs.Prelude.{Option, Some, None, is_some, true, false}
use Rattle.kex_code.specs.Codes.{HasNumber, IsAmong}
use Rattle.kex_model.proofs.Tables.{some_same}
use Rattle.kex_model.specs.Programs.{Grammar}
use Rattle.kex_machine.specs.Nodes.{Graph}
use Rattle.kex_lowering.specs.Stages.{HasPlaces, IsWhy}
use Rattle.kex_lowering.specs.declared.refusal.StageRefusal.{StageRefusal}
use Rattle.kex_lowering.specs.declared.refusal.StageRefusal.TheVariants.{TooManyPlaces, NoText, Memory}
use Rattle.kex_compile.specs.declared.firsts.Firsts.{Firsts}
use Rattle.kex_compile.specs.declared.limits.Limits.{Limits}
use Rattle.kex_compile.specs.Stages.{AreFirsts, AreLowered, AreStages, CanRun, HaveEach, HaveInAll, IsFirst, IsFirstIn, IsStageRefused, IsStage, IsUnplanned, Machines, first_of, least, least_of, most_places, with_first, roots_of}
use Rattle.kex_compile.specs.declared.refusal.PlanRefusal.{PlanRefusal}
use Rattle.kex_compile.specs.declared.refusal.PlanRefusal.TheVariants as plan

pub among-push : {A : Type 0} (xs : List A) (x y : A) → IsAmong (xs ++ x ∷ []) y → IsAmong xs y ⊎ (x ≡ y)
among-push [] x y (inl e) = inr e
among-push [] x y (inr h) = absurd h
among-push (z ∷ xs) x y (inl e) = inl (inl e)
among-push (z ∷ xs) x y (inr h) = ⊎_elim (λ i. inl (inr i)) (λ e. inr e) (among-push xs x y h)

module _ {A : Type 0} (Q : A → Type 0) where
  pub first-stays : (xs : List A) (n : ℕ) (x : A) → IsFirst Q xs n → IsFirst Q (xs ++ x ∷ []) n
  first-stays xs n x h = record {
    before = h.before;
    at = h.at;
    behind = h.behind ++ x ∷ [];
    split = ap (λ ys. ys ++ x ∷ []) h.split ∙ append_assoc h.before (h.at ∷ h.behind) (x ∷ []);
    number_is = h.number_is;
    is_so = h.is_so;
    none_before = h.none_before;
  }

  pub first-then : (xs : List A) (o : Option ℕ) (x : A) → (Q x → ⊥) → IsFirstIn Q xs o → IsFirstIn Q (xs ++ x ∷ []) o
  first-then xs None x not h = λ y i q. ⊎_elim (λ j. h y j q) (λ e. not (subst Q (sym e) q)) (among-push xs x y i)
  first-then xs (Some n) x not h = first-stays xs n x h

  pub first-now : (xs : List A) (o : Option ℕ) (x : A) (n : ℕ) → n ≡ suc (length xs) → Q x → IsFirstIn Q xs o → IsFirstIn Q (xs ++ x ∷ []) (first_of o n)
  first-now xs None x n number q h = record { before = xs; at = x; behind = []; split = refl; number_is = number; is_so = q; none_before = h }
  first-now xs (Some m) x n number q h = record {
    before = h.before;
    at = h.at;
    behind = h.behind ++ x ∷ [];
    split = ap (λ z. z ++ x ∷ []) h.split ∙ append_assoc h.before (h.at ∷ h.behind) (x ∷ []);
    number_is = h.number_is;
    is_so = h.is_so;
    none_before = h.none_before;
  }

  -- an item that is there already
  pub first-again : (xs : List A) (o : Option ℕ) (x : A) → IsAmong xs x → IsFirstIn Q xs o → IsFirstIn Q (xs ++ x ∷ []) o
  first-again xs None x i h = λ y j q. ⊎_elim (λ k. h y k q) (λ e. h x i (subst Q (sym e) q)) (among-push xs x y j)
  first-again xs (Some n) x i h = first-stays xs n x h

-- two lists whose items go together, one by one
module _ {A B : Type 0} (Q : A → B → Type 0) where
  abbrev Pairwise : List A → List B → Type 0
  Pairwise [] [] = Unit {0}
  Pairwise (x ∷ xs) (y ∷ ys) = Q x y × Pairwise xs ys
  Pairwise xs ys = ⊥

  pair-at : (xs : List A) (ys : List B) (i : ℕ) (x : A) → HasNumber xs x i → Pairwise xs ys → (y : B) × HasNumber ys y i × Q x y
  pair-at [] ys i x k h = cc
  pair-at (z ∷ xs) [] i x k h = absurd h
  pair-at (z ∷ xs) (y ∷ ys) zero x k h = (y, refl, subst (λ a. Q a y) (some_same z x k) h.0)
  pair-at (z ∷ xs) (y ∷ ys) (suc i) x k h = pair-at xs ys i x k h.1

module _ (P : Grammar) where
  -- a stage that begins where one before it does
  pub again-more : (xs : List ℕ) (f : Firsts) (x : ℕ) → IsAmong xs x → AreFirsts P xs f → AreFirsts P (xs ++ x ∷ []) f
  again-more xs f x i h = record {
    too_many_places = first-again (IsStageRefused P TooManyPlaces) xs f.too_many_places x i h.too_many_places;
    no_text = first-again (IsStageRefused P NoText) xs f.no_text x i h.no_text;
  }

  -- a stage that is refused
  pub refused-more : (xs : List ℕ) (f : Firsts) (x n : ℕ) (e : StageRefusal) → n ≡ suc (length xs) → (e ≡ Memory → ⊥) → IsWhy P x most_places e → AreFirsts P xs f → AreFirsts P (xs ++ x ∷ []) (with_first e n f)
  refused-more xs f x n TooManyPlaces number some q h = record {
    too_many_places = first-now (IsStageRefused P TooManyPlaces) xs f.too_many_places x n number q h.too_many_places;
    no_text = first-then (IsStageRefused P NoText) xs f.no_text x (λ k. k.0 q) h.no_text;
  }
  refused-more xs f x n NoText number some q h = record {
    too_many_places = first-then (IsStageRefused P TooManyPlaces) xs f.too_many_places x q.0 h.too_many_places;
    no_text = first-now (IsStageRefused P NoText) xs f.no_text x n number q h.no_text;
  }
  refused-more xs f x n Memory number some q h = absurd (some refl)

  -- a stage that can run
  pub planned-more : (xs : List ℕ) (f : Firsts) (x : ℕ) → CanRun P x → AreFirsts P xs f → AreFirsts P (xs ++ x ∷ []) f
  planned-more xs f x q h = record {
    too_many_places = first-then (IsStageRefused P TooManyPlaces) xs f.too_many_places x q.few h.too_many_places;
    no_text = first-then (IsStageRefused P NoText) xs f.no_text x (λ k. k.1 q.some_text) h.no_text;
  }

  pub stages-more : (xs : List ℕ) (ms : List Graph) (x : ℕ) (m : Graph) → IsStage P x m → AreStages P xs ms → AreStages P (xs ++ x ∷ []) (ms ++ m ∷ [])
  stages-more [] [] x m q h = (q, tt)
  stages-more (y ∷ xs) (k ∷ ms) x m q h = (h.0, stages-more xs ms x m q h.1)
  stages-more [] (k ∷ ms) x m q h = absurd h
  stages-more (y ∷ xs) [] x m q h = absurd h

  pub counts-more : (xs ns : List ℕ) (x own : ℕ) → HasPlaces P x own → HaveEach P xs ns → HaveEach P (xs ++ x ∷ []) (ns ++ own ∷ [])
  counts-more [] [] x own q h = (q, tt)
  counts-more (y ∷ xs) (n ∷ ns) x own q h = (h.0, counts-more xs ns x own q h.1)
  counts-more [] (n ∷ ns) x own q h = absurd h
  counts-more (y ∷ xs) [] x own q h = absurd h

  pub as-many : (xs : List ℕ) (ms : List Graph) → AreStages P xs ms → length ms ≡ length xs
  as-many [] [] h = refl
  as-many (y ∷ xs) (m ∷ ms) h = ap suc (as-many xs ms h.1)
  as-many [] (m ∷ ms) h = absurd h
  as-many (y ∷ xs) [] h = absurd h

  paired : (xs : List ℕ) (ms : List Graph) → AreStages P xs ms → Pairwise (λ r m. IsStage P r m) xs ms
  paired [] [] h = tt
  paired (y ∷ xs) (m ∷ ms) h = (h.0, paired xs ms h.1)
  paired [] (m ∷ ms) h = absurd h
  paired (y ∷ xs) [] h = absurd h

  -- the machine of a stage, and its count of places
  pub machine-at : (xs : List ℕ) (ms : List Graph) (i x : ℕ) → HasNumber xs x i → AreStages P xs ms → (m : Graph) × HasNumber ms m i × IsStage P x m
  machine-at xs ms i x k h = pair-at (λ r m. IsStage P r m) xs ms i x k (paired xs ms h)

  pub count-at : (xs ns : List ℕ) (i x : ℕ) → HasNumber xs x i → HaveEach P xs ns → (n : ℕ) × HasNumber ns n i × HasPlaces P x n
  count-at [] ns i x k h = cc
  count-at (y ∷ xs) [] i x k h = absurd h
  count-at (y ∷ xs) (n ∷ ns) zero x k h = (n, refl, subst (λ z. HasPlaces P z n) (some_same y x k) h.0)
  count-at (y ∷ xs) (n ∷ ns) (suc i) x k h = count-at xs ns i x k h.1

  pub places-more : (xs : List ℕ) (total x own : ℕ) → HasPlaces P x own → HaveInAll P xs total → HaveInAll P (xs ++ x ∷ []) (total + own)
  places-more [] total x own q h = (own, 0, q, refl, let e : total ≡ 0 = h in omega arith)
  places-more (y ∷ xs) total x own q (k, rest, a, b, e) = (k, rest + own, a, places-more xs rest x own q b, let f : total ≡ k + rest = e in omega arith)

  pub all-run : (xs : List ℕ) (ms : List Graph) → AreStages P xs ms → (x : ℕ) → IsAmong xs x → CanRun P x
  all-run [] [] h x a = absurd a
  all-run (y ∷ xs) (m ∷ ms) h x (inl e) = subst (λ z. CanRun P z) e h.0.can_run
  all-run (y ∷ xs) (m ∷ ms) h x (inr a) = all-run xs ms h.1 x a
  all-run [] (m ∷ ms) h x a = absurd h
  all-run (y ∷ xs) [] h x a = absurd h

too-many-noted : (a c : Option ℕ) (n : ℕ) → least_of (first_of a n) c ≡ None → ⊥
too-many-noted None c n e = cc
too-many-noted (Some m) c n e = cc

text-noted : (a c : Option ℕ) (n : ℕ) → least_of a (first_of c n) ≡ None → ⊥
text-noted None None n e = cc
text-noted None (Some m) n e = cc
text-noted (Some k) c n e = cc

some-noted : (e : StageRefusal) (n : ℕ) (f : Firsts) → (e ≡ Memory → ⊥) → least (with_first e n f) ≡ None → ⊥
some-noted TooManyPlaces n f some none = too-many-noted f.too_many_places f.no_text n none
some-noted NoText n f some none = text-noted f.too_many_places f.no_text n none
some-noted Memory n f some none = absurd (some refl)

pub among-at : {A : Type 0} (xs : List A) (i : ℕ) (x : A) → HasNumber xs x i → IsAmong xs x
among-at [] i x k = cc
among-at (y ∷ xs) zero x k = inl (some_same y x k)
among-at (y ∷ xs) (suc i) x k = inr (among-at xs i x k)

-- one stage more
module _ (P : Grammar) (roots : List ℕ) (f : Firsts) (c : Machines) (root : ℕ) (so_far : AreLowered P roots f c) where
  pub one-refused : (e : StageRefusal) (n : ℕ) (g : Firsts) → n ≡ suc (length roots) → (e ≡ Memory → ⊥) → g ≡ with_first e n f → IsWhy P root most_places e → AreLowered P (roots ++ root ∷ []) g c
  one-refused e n g number some is why =
      let none : least g ≡ None → ⊥ = λ k. some-noted e n f some (ap least (sym is) ∙ k) in
      record {
        firsts = subst (λ z. AreFirsts P (roots ++ root ∷ []) z) (sym is) (refused-more P roots f root n e number some why so_far.firsts);
        stages = λ k. absurd (none k);
        counts = λ k. absurd (none k);
        places = λ k. absurd (none k);
      }

  -- where some are refused already
  pub one-behind : AreFirsts P (roots ++ root ∷ []) f → (least f ≡ None → ⊥) → AreLowered P (roots ++ root ∷ []) f c
  one-behind firsts some = record {
    firsts = firsts;
    stages = λ k. absurd (some k);
    counts = λ k. absurd (some k);
    places = λ k. absurd (some k);
  }

  one-more : (m : Graph) (own : ℕ) (d : Machines) → AreFirsts P (roots ++ root ∷ []) f → IsStage P root m → HasPlaces P root own → d ≡ record { machines = c.machines ++ m ∷ []; counts = c.counts ++ own ∷ []; places = c.places + own } → AreLowered P (roots ++ root ∷ []) f d
  one-more m own d firsts is has same = subst (λ z. AreLowered P (roots ++ root ∷ []) f z) (sym same) (record {
    firsts = firsts;
    stages = λ k. stages-more P roots c.machines root m is (so_far.stages k);
    counts = λ k. counts-more P roots c.counts root own has (so_far.counts k);
    places = λ k. places-more P roots c.places root own has (so_far.places k);
  })

  pub one-planned : (m : Graph) (own : ℕ) (d : Machines) → IsStage P root m → HasPlaces P root own → d ≡ record { machines = c.machines ++ m ∷ []; counts = c.counts ++ own ∷ []; places = c.places + own } → AreLowered P (roots ++ root ∷ []) f d
  one-planned m own d is has same = one-more m own d (planned-more P roots f root is.can_run so_far.firsts) is has same

  -- a stage that begins where an earlier one does
  pub one-shared : (i : ℕ) (d : Machines) → HasNumber roots root i → least f ≡ None → ((m : Graph) (own : ℕ) → HasNumber c.machines m i → HasNumber c.counts own i → d ≡ record { machines = c.machines ++ m ∷ []; counts = c.counts ++ own ∷ []; places = c.places + own }) → AreLowered P (roots ++ root ∷ []) f d
  one-shared i d at none pushed =
      let m = machine-at P roots c.machines i root at (so_far.stages none) in
      let n = count-at P roots c.counts i root at (so_far.counts none) in
      one-more m.0 n.0 d (again-more P roots f root (among-at roots i root at) so_far.firsts) m.2 n.2 (pushed m.0 n.0 m.1 n.1)

pub not-some : {A : Type 0} (o : Option A) → is_some o ≡ false → o ≡ None
not-some None e = refl
not-some (Some x) e = cc

pub not-none : {A : Type 0} (o : Option A) → is_some o ≡ true → o ≡ None → ⊥
not-none None e k = cc
not-none (Some x) e k = cc

some-same : (a b : PlanRefusal) → Some a ≡ Some b → a ≡ b
some-same a b e = cc

unplanned : (limits : Limits) (P : Grammar) (a c : Option ℕ) (e : PlanRefusal) → IsFirstIn (IsStageRefused P TooManyPlaces) (roots_of P) a → IsFirstIn (IsStageRefused P NoText) (roots_of P) c → least_of a c ≡ Some e → IsUnplanned limits P e
unplanned limits P (Some n) c e h l is = subst (λ z. IsUnplanned limits P z) (some-same (plan.TooManyPlaces n) e is) h
unplanned limits P None (Some n) e h l is = subst (λ z. IsUnplanned limits P z) (some-same (plan.NoText n) e is) (h, l)
unplanned limits P None None e h l is = cc

-- with all stages
pub all-refused : (limits : Limits) (P : Grammar) (f : Firsts) (e : PlanRefusal) → AreFirsts P (roots_of P) f → least f ≡ Some e → IsUnplanned limits P e
all-refused limits P f e firsts is = unplanned limits P f.too_many_places f.no_text e firsts.too_many_places firsts.no_text is
