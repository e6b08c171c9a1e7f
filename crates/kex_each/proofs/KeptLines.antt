-- The answer to a line rests on no byte past the one after the limit.
use Rattle.std.proofs.Common.{◌≡◌, ◌≤◌, ◌<◌, ◌+◌, ℕ, zero, suc, Bool, true, List, [], ◌∷◌, length, take, refl, ap, subst, ◌∙◌, arith}
use Rattle.kex_model.specs.Answers.{Answer, Answers, LongestGood, bad_byte, too_long, cut_off, whole, still_open}
use Rattle.kex_machine.specs.Answers.{HasRun, IsViableFor, MeansByRun}
use Rattle.kex_plan.specs.Plans.{Planned, SaysAs}
use Rattle.kex_each.specs.Answers.{plans_within}
use Rattle.kex_each.specs.Laws.{IsKeptEnough}
use Rattle.kex_each.specs.Pieces.{IsEnough}

take_less : (n m : ℕ) (w : List ℕ) → n ≤ m → take n (take m w) ≡ take n w
take_less zero m w le = refl
take_less (suc n) zero w le = let bad : ⊥ = omega (arith, le) in absurd bad
take_less (suc n) (suc m) [] le = refl
take_less (suc n) (suc m) (b ∷ w) le = ap (λ z. b ∷ z) (take_less n m w (omega (arith, le)))

take_short : (m : ℕ) (w : List ℕ) → length (take m w) < m → take m w ≡ w
take_short zero w lt = let bad : ⊥ = omega (arith, lt) in absurd bad
take_short (suc m) [] lt = refl
take_short (suc m) (b ∷ w) lt = ap (λ z. b ∷ z) (take_short m w (omega (arith, lt)))

take_long : (n m : ℕ) (w : List ℕ) → n < length (take m w) → n < length w
take_long n zero w lt = let bad : ⊥ = omega (arith, lt) in absurd bad
take_long n (suc m) [] lt = lt
take_long zero (suc m) (b ∷ w) lt = omega arith
take_long (suc n) (suc m) (b ∷ w) lt = let h = take_long n m w (omega (arith, lt)) in omega (arith, h)

module _ (Good : List ℕ → Type 0) (Said : List ℕ → List ℕ → Type 0) (Parsed : List ℕ → Type 0) (Meant : List ℕ → List ℕ → Type 0) (limit keep : ℕ) (enough : keep ≡ limit + 1) where
  front : (w : List ℕ) → take limit (take keep w) ≡ take limit w
  front w = take_less limit keep w (omega (arith, enough))

  same : (w : List ℕ) → length (take keep w) ≤ limit → take keep w ≡ w
  same w le = take_short keep w (omega (arith, le, enough))

  pub kept_answer : (w v : List ℕ) (e : Bool) (a : Answer) → v ≡ take keep w → Answers Good Said Parsed Meant limit v e a → Answers Good Said Parsed Meant limit w e a
  kept_answer w v e a is (bad_byte {text = s} u bad l h) =
      let at : take limit v ≡ take limit w = ap (λ z. take limit z) is ∙ front w in
      bad_byte u (subst (λ z. Good z → ⊥) at bad) (subst (λ z. LongestGood Good Said Parsed Meant z u) at l) h
  kept_answer w v e a is (too_long {text = s} lt good h) =
      let at : take limit v ≡ take limit w = ap (λ z. take limit z) is ∙ front w in
      too_long (take_long limit keep w (subst (λ z. limit < length z) is lt)) (subst Good at good) (subst (λ z. Said z s) at h)
  kept_answer w v e a is (cut_off {text = s} le good none h) =
      let at : v ≡ w = is ∙ same w (subst (λ z. length z ≤ limit) is le) in
      subst (λ z. Answers Good Said Parsed Meant limit z e a) at (cut_off le good none h)
  kept_answer w v e a is (whole {text = s} le m) =
      let at : v ≡ w = is ∙ same w (subst (λ z. length z ≤ limit) is le) in
      subst (λ z. Answers Good Said Parsed Meant limit z e a) at (whole le m)
  kept_answer w v e a is (still_open {text = s} le good h) =
      let at : v ≡ w = is ∙ same w (subst (λ z. length z ≤ limit) is le) in
      subst (λ z. Answers Good Said Parsed Meant limit z e a) at (still_open le good h)

pub kept_enough : IsKeptEnough
kept_enough keep [] enough lines texts h = absurd enough
kept_enough keep (p ∷ ps) enough [] [] h = tt
kept_enough keep (p ∷ ps) enough [] (t ∷ ts) h = absurd h
kept_enough keep (p ∷ ps) enough (l ∷ ls) [] h = absurd h
kept_enough keep (p ∷ ps) enough (l ∷ ls) (t ∷ ts) h =
    let x = h.0 in
    let (a, rest, gives, others, is) = x.says in (
      record {
        said = x.said;
        report = x.report;
        says = (a, rest, kept_answer (IsViableFor p.machine.machine) (SaysAs p.machine.telling p.machine.machine) (HasRun p.machine.machine) (MeansByRun p.machine.machine) p.limit keep enough l (take keep l) true a refl gives, others, is);
        answer = x.answer;
      },
      kept_enough keep (p ∷ ps) enough ls ts h.1,
    )

pub enough_kept : (keep limit : ℕ) (plans : List Planned) → 0 < length plans → keep ≡ limit + 1 → IsEnough keep (plans_within limit plans)
enough_kept keep limit [] some e = let bad : ⊥ = omega (arith, some) in absurd bad
enough_kept keep limit (p ∷ ps) some e = e
