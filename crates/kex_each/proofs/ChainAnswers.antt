-- Stages that answer one after another.
use Rattle.std.proofs.Common.{◌≡◌, ◌≤◌, ◌<◌, ◌&&◌, ℕ, zero, suc, Bool, true, List, [], ◌∷◌, Option, Some, None, length, map, drop, get_or, refl, sym, ap, subst, ◌∙◌, arith}
use Rattle.std.specs.Prelude.{is_none}
use Rattle.std.proofs.Math.ListN.{set}
use Rattle.kex_model.specs.Answers.{Report, Stop, Pipeline, later_report}
use Rattle.kex_pipe.specs.Histories.{stop_as}
use Rattle.kex_pipe.specs.Reports.{latest_report}
use Rattle.kex_pipe.specs.declared.turn.Stop.{Stop as TurnStop}
use Rattle.kex_stage.specs.StageLaws.{answering}
use Rattle.kex_stage.specs.Stages.{StagePlan, Gives}
use Rattle.kex_each.specs.Chains.{IsStageAnswer}

abbrev pub Piped : ℕ → List StagePlan → List ℕ → Bool → List ℕ → Option Report → Type 0
Piped i ps w e text report = Pipeline (λ p v d a. Gives p v d a) i ps w e text report

abbrev pub or_report : Option Report → Option Report → Option Report
or_report (Some r) before = Some r
or_report None before = before

-- the first i stages have answered on a line: this text, open or ended, and this report
pub record AnsweredSoFar (i : ℕ) (ps : List StagePlan) (line text : List ℕ) (ended : Bool) (report : Option Report) : Type 0 where
  pub goes : (said : List ℕ) (rest : Option Report) → Piped (suc i) (drop i ps) text ended said rest → Piped 1 ps line true said (or_report rest report)

pub so_far_none : (ps : List StagePlan) (line : List ℕ) → AnsweredSoFar 0 ps line line true None
so_far_none ps line = record { goes = λ said rest h. subst (λ z. Piped 1 ps line true said z) (same rest) h }
  where
    same : (rest : Option Report) → rest ≡ or_report rest None
    same None = refl
    same (Some r) = refl

merged : (i : ℕ) (own : Option Stop) (rest before : Option Report) → or_report (later_report i own rest) before ≡ or_report rest (latest_report i own before)
merged i None None before = refl
merged i (Some s) None before = refl
merged i None (Some r) before = refl
merged i (Some s) (Some r) before = refl

same_end : (stop : Option TurnStop) → is_none (stop_as stop) ≡ is_none stop
same_end None = refl
same_end (Some s) = refl

pub so_far_more : (i : ℕ) (ps : List StagePlan) (p : StagePlan) (line text next : List ℕ) (ended : Bool) (report : Option Report) (stop : Option TurnStop) → drop i ps ≡ p ∷ drop (suc i) ps → IsStageAnswer p text ended next stop → AnsweredSoFar i ps line text ended report → AnsweredSoFar (suc i) ps line next (ended && is_none stop) (latest_report (suc i) (stop_as stop) report)
so_far_more i ps p line text next ended report stop at k f =
    let a = k.answer in
    let open_end : a.ended ≡ (ended && is_none stop) = (answering p.machine).ends p.limit text ended a k.gives ∙ ap (λ z. ended && z) (ap is_none (sym k.same_stop) ∙ same_end stop) in
    record {
      goes = λ said rest h.
          let here : Piped (suc (suc i)) (drop (suc i) ps) a.text a.ended said rest =
          subst (λ z. Piped (suc (suc i)) (drop (suc i) ps) z a.ended said rest) k.same_text
          (subst (λ z. Piped (suc (suc i)) (drop (suc i) ps) next z said rest) (sym open_end) h) in
          let stage : Piped (suc i) (p ∷ drop (suc i) ps) text ended said (later_report (suc i) a.stop rest) = (a, rest, k.gives, here, refl) in
          let all = f.goes said (later_report (suc i) a.stop rest) (subst (λ z. Piped (suc i) z text ended said (later_report (suc i) a.stop rest)) (sym at) stage) in
          subst (λ z. Piped 1 ps line true said z) (merged (suc i) a.stop rest report ∙ ap (λ z. or_report rest (latest_report (suc i) z report)) (sym k.same_stop)) all;
    }

pub so_far_all : (i : ℕ) (ps : List StagePlan) (line text : List ℕ) (ended : Bool) (report : Option Report) → drop i ps ≡ [] → AnsweredSoFar i ps line text ended report → Piped 1 ps line true text report
so_far_all i ps line text ended report none f =
    f.goes text None (subst (λ z. Piped (suc i) z text ended text None) (sym none) (refl, refl))

pub drop_at : {A : Type 0} (i : ℕ) (xs : List A) (d : A) → i < length xs → drop i xs ≡ get_or xs i d ∷ drop (suc i) xs
drop_at zero [] d lt = let bad : ⊥ = omega (arith, lt) in absurd bad
drop_at zero (x ∷ xs) d lt = refl
drop_at (suc i) [] d lt = let bad : ⊥ = omega (arith, lt) in absurd bad
drop_at (suc i) (x ∷ xs) d lt = drop_at i xs d (omega (arith, lt))

-- a stage in the place of one with its plan
pub map_set : {A B : Type 0} (f : A → B) (xs : List A) (i : ℕ) (x d : A) → i < length xs → f x ≡ f (get_or xs i d) → map f (set xs i x) ≡ map f xs
map_set f [] i x d lt e = let bad : ⊥ = omega (arith, lt) in absurd bad
map_set f (y ∷ ys) zero x d lt e = ap (λ z. z ∷ map f ys) e
map_set f (y ∷ ys) (suc i) x d lt e = ap (λ z. f y ∷ z) (map_set f ys i x d (omega (arith, lt)) e)

pub map_at : {A B : Type 0} (f : A → B) (xs : List A) (i : ℕ) (d : A) → i < length xs → get_or (map f xs) i (f d) ≡ f (get_or xs i d)
map_at f [] i d lt = let bad : ⊥ = omega (arith, lt) in absurd bad
map_at f (y ∷ ys) zero d lt = refl
map_at f (y ∷ ys) (suc i) d lt = map_at f ys i d (omega (arith, lt))

-- the same, by what the loop has
pub so_far_next : (i n : ℕ) (ps : List StagePlan) (p : StagePlan) (line text input next : List ℕ) (ended ended' : Bool) (report report' : Option Report) (stop : Option TurnStop) → n ≡ suc i → drop i ps ≡ p ∷ drop (suc i) ps → input ≡ text → IsStageAnswer p input ended next stop → ended' ≡ (ended && is_none stop) → report' ≡ latest_report n (stop_as stop) report → AnsweredSoFar i ps line text ended report → AnsweredSoFar n ps line next ended' report'
so_far_next i n ps p line text input next ended ended' report report' stop count at same k is_open is_report f =
    let k' : IsStageAnswer p text ended next stop = subst (λ z. IsStageAnswer p z ended next stop) same k in
    let more = so_far_more i ps p line text next ended report stop at k' f in
    let one = subst (λ z. AnsweredSoFar z ps line next (ended && is_none stop) (latest_report z (stop_as stop) report)) (sym count) more in
    subst (λ z. AnsweredSoFar n ps line next z report') (sym is_open)
    (subst (λ z. AnsweredSoFar n ps line next (ended && is_none stop) z) (sym is_report) one)

pub none_behind : {A : Type 0} (i : ℕ) (xs : List A) → length xs ≤ i → drop i xs ≡ []
none_behind zero [] le = refl
none_behind (suc i) [] le = refl
none_behind zero (x ∷ xs) le = let bad : ⊥ = omega (arith, le) in absurd bad
none_behind (suc i) (x ∷ xs) le = none_behind i xs (omega (arith, le))

pub map_long : {A B : Type 0} (f : A → B) (xs : List A) → length (map f xs) ≡ length xs
map_long f [] = refl
map_long f (x ∷ xs) = ap suc (map_long f xs)
