-- Stages that are made of plans, one after another.
use Rattle.std.proofs.Common.{◌≡◌, ◌<◌, ◌+◌, ◌∙◌, ℕ, zero, suc, Bool, true, false, List, [], ◌∷◌, ◌++◌, Option, Some, None, length, map, take, get_or, sym, ap, arith}
use Rattle.std.specs.Prelude.{All}
use Rattle.std.proofs.lemmas.Bool.{false≢true}
use Rattle.std.proofs.lemmas.List.{map-append, map_more}
use Rattle.kex_sst.specs.Tables.{Transducer}
use Rattle.kex_machine.specs.Nodes.{Graph}
use Rattle.kex_plan.specs.Plans.{Planned, Teller, teller_of}
use Rattle.kex_stage.specs.Stages.{StagePlan}
use Rattle.kex_plan.specs.declared.plan.Telling.{Telling}
use Rattle.kex_compile.specs.Stages.{AreTabled, HasTableIf, asked_telling, table_of}
use Rattle.kex_compile.specs.declared.limits.Limits.{Limits}
use Rattle.kex_top.specs.Pipelines.{stage_plans}

abbrev pub plan_at : ℕ → Teller → StagePlan
plan_at limit t = record { machine = t; limit = limit }

-- one more of which the same holds
pub all-more : {A : Type 0} (P : A → Type 0) (xs : List A) (x : A) → All P xs → P x → All P (xs ++ x ∷ [])
all-more P [] x h p zero d lt = p
all-more P [] x h p (suc k) d lt = absurd (omega arith)
all-more P (y ∷ xs) x h p zero d lt = h zero d (omega arith)
all-more P (y ∷ xs) x h p (suc k) d lt = all-more P xs x (λ n c less. h (suc n) c (omega arith)) p k d (omega arith)

-- one stage more, of the next plan
module _ {S : Type 0} (plan : S → StagePlan) (max : ℕ) where
  pub one-planned : (i : ℕ) (all : List Planned) (item : Planned) (old new : List S) (stage : S) → i < length all → item ≡ get_or all i item → plan stage ≡ plan_at max (teller_of item) → new ≡ old ++ stage ∷ [] → map plan old ≡ stage_plans max (map teller_of (take i all)) → map plan new ≡ stage_plans max (map teller_of (take (i + 1) all))
  one-planned i all item old new stage within is of more before =
      ap (λ z. map plan z) more ∙ map-append plan old (stage ∷ []) ∙ ap (λ z. z ++ plan stage ∷ []) before
      ∙ ap (λ z. stage_plans max (map teller_of (take i all)) ++ z ∷ []) (of ∙ ap (λ z. plan_at max (teller_of z)) is)
      ∙ sym (ap (λ z. stage_plans max z) (map_more teller_of all i item within) ∙ map-append (plan_at max) (map teller_of (take i all)) (teller_of (get_or all i item) ∷ []))

-- where tables are asked for, each stage has one
one-table : (asked : Bool) (k : Telling) (m : Graph) (o : Option Transducer) → asked ≡ true → HasTableIf asked k m o → o ≡ None → ⊥
one-table true k m None e h none = h
one-table true k m (Some t) e h none = cc
one-table false k m o e h none = absurd (false≢true e)

pub all-tabled : (limits : Limits) (ms : List Graph) (os : List (Option Transducer)) → limits.tables ≡ true → AreTabled limits ms os → All (λ o. o ≡ None → ⊥) os
all-tabled limits [] [] asked h k d lt = absurd (omega arith)
all-tabled limits (m ∷ ms) (o ∷ os) asked h zero d lt = one-table limits.tables (asked_telling limits) m o asked h.0
all-tabled limits (m ∷ ms) (o ∷ os) asked h (suc k) d lt = all-tabled limits ms os asked h.1 k d (omega arith)
all-tabled limits [] (o ∷ os) asked h k d lt = absurd h
all-tabled limits (m ∷ ms) [] asked h k d lt = absurd h

-- so has each plan
pub plans-tabled : (plans : List Planned) → All (λ o. o ≡ None → ⊥) (map table_of plans) → All (λ p. p.table ≡ None → ⊥) plans
plans-tabled [] h k d lt = absurd (omega arith)
plans-tabled (p ∷ ps) h zero d lt = h zero d.table (omega arith)
plans-tabled (p ∷ ps) h (suc k) d lt = plans-tabled ps (λ n c less. h (suc n) c (omega arith)) k d (omega arith)
