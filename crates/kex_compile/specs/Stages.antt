-- The stages of a program: what their plans are, and which is refused first.
use Rattle.std.specs.Prelude.{◌≡◌, ◌+◌, ◌<◌, ◌≤◌, ◌∷◌, ◌++◌, [], ℕ, suc, Bool, true, false, List}
use Rattle.std.specs.Prelude.{Option, Some, None, if◌then◌else◌, length, map}
use Rattle.kex_code.specs.Codes.{HasNumber, IsAmong}
use Rattle.kex_model.specs.Programs.{Grammar}
use Rattle.kex_model.specs.Trees.{root_of}
use Rattle.kex_model.specs.Places.{moves, start_of}
use Rattle.kex_model.specs.Survivors.{LeadsToEnd}
use Rattle.kex_model.specs.States.{HasMoreStates, HasStates}
use Rattle.kex_machine.specs.Nodes.{Graph, node_moves}
use Rattle.kex_sst.specs.Tables.{Transducer}
use Rattle.kex_sst.specs.Machines.{IsBestTableOf, IsTableOf}
use Rattle.kex_determine.specs.Determined.{IsDetermined}
use Rattle.kex_cover.specs.Optimal.{IsOptimal, SomeAsksMore}
use Rattle.kex_cover.specs.declared.refusal.CoverRefusal.{CoverRefusal}
use Rattle.kex_cover.specs.declared.refusal.CoverRefusal.TheVariants as cover
use Rattle.kex_alike.specs.StageTests.{HasTooManyPairs}
use Rattle.kex_plan.specs.Plans.{Planned}
use Rattle.kex_plan.specs.declared.plan.Telling.{Telling}
use Rattle.kex_plan.specs.declared.plan.Telling.TheVariants as telling
use Rattle.kex_desugar.specs.Machines.{HasMore}
use Rattle.kex_lowering.specs.Stages.{Carries, HasPlaces, IsKeptOf, IsWhy}
use Rattle.kex_lowering.specs.declared.refusal.StageRefusal.{StageRefusal}
use Rattle.kex_lowering.specs.declared.refusal.StageRefusal.TheVariants as why
use Rattle.kex_compile.specs.declared.firsts.Firsts.{Firsts}
use Rattle.kex_compile.specs.declared.limits.Limits.{Limits}
use Rattle.kex_compile.specs.declared.refusal.PlanRefusal.{PlanRefusal}
use Rattle.kex_compile.specs.declared.refusal.PlanRefusal.TheVariants.{TooManyPlaces, NoText}
use Rattle.kex_compile.specs.declared.refusal.PlanRefusal.TheVariants.{OneStage, TooManyStates}
use Rattle.kex_compile.specs.declared.refusal.PlanRefusal.TheVariants.{TooManyPairs, Memory}

-- how many places a stage may have
abbrev pub most_places : ℕ
most_places = 1048576

-- how many pairs the test of a leaf may have
abbrev pub most_pairs : ℕ
most_pairs = 4096

-- where the stages begin, in their order
abbrev pub roots_of : Grammar → List ℕ
roots_of P = map (λ s. root_of P s.name) P.stages

-- the stage has no more places than are allowed, and some text
pub record CanRun (P : Grammar) (root : ℕ) : Type 0 where
  pub few : HasMore P root most_places → ⊥
  pub some_text : LeadsToEnd (moves P) (start_of P root)

-- each stage can run
abbrev pub AllRun : Grammar → Type 0
AllRun P = (root : ℕ) → IsAmong (roots_of P) root → CanRun P root

-- where one stage is asked for, the program has no more
abbrev pub KeepsToOneStage : Limits → Grammar → Type 0
KeepsToOneStage limits P = limits.one_stage ≡ true → length P.stages ≤ 1

-- the stage has more states than are allowed
abbrev pub HasTooManyStates : Limits → Grammar → ℕ → Type 0
HasTooManyStates limits P root = HasMoreStates (moves P) (start_of P root) limits.states

-- where tables are asked for, no stage has
abbrev pub KeepsToStates : Limits → Grammar → Type 0
KeepsToStates limits P = limits.tables ≡ true → (root : ℕ) → IsAmong (roots_of P) root
    → HasTooManyStates limits P root → ⊥

-- where what is best is asked for, no stage has too many pairs
abbrev pub KeepsToPairs : Limits → Grammar → Type 0
KeepsToPairs limits P = limits.optimal ≡ true → (root : ℕ) → IsAmong (roots_of P) root
    → HasTooManyPairs P root most_pairs → ⊥

-- what is first so in the list has this number, counted from 1
pub record IsFirst {A : Type 0} (Q : A → Type 0) (xs : List A) (number : ℕ) : Type 0 where
  pub before : List A
  pub at : A
  pub behind : List A
  pub split : xs ≡ before ++ at ∷ behind
  pub number_is : number ≡ suc (length before)
  pub is_so : Q at
  pub none_before : (x : A) → IsAmong before x → Q x → ⊥

-- the stage can run, and the machine answers as it does, has its paths to the places that it keeps,
-- and bears the number of the first stage that begins there
pub record IsStage (P : Grammar) (root : ℕ) (m : Graph) : Type 0 where
  pub can_run : CanRun P root
  pub carries : Carries P root m
  pub kept : IsKeptOf P root m
  pub numbered : IsFirst (λ r. r ≡ root) (roots_of P) m.stage

-- the machines are those of the stages, in their order
abbrev pub AreStages : Grammar → List ℕ → List Graph → Type 0
AreStages P [] [] = Unit {0}
AreStages P (r ∷ rs) (m ∷ ms) = IsStage P r m × AreStages P rs ms
AreStages P rs ms = ⊥

-- the stages have this many places in all
abbrev pub HaveInAll : Grammar → List ℕ → ℕ → Type 0
HaveInAll P [] total = total ≡ 0
HaveInAll P (r ∷ rs) total = (own rest : ℕ) × HasPlaces P r own × HaveInAll P rs rest
    × (total ≡ own + rest)

-- these numbers of places, stage by stage
abbrev pub HaveEach : Grammar → List ℕ → List ℕ → Type 0
HaveEach P [] [] = Unit {0}
HaveEach P (r ∷ rs) (n ∷ ns) = HasPlaces P r n × HaveEach P rs ns
HaveEach P rs ns = ⊥

-- and this many states in all
abbrev pub HaveStatesInAll : Grammar → List ℕ → ℕ → Type 0
HaveStatesInAll P [] total = total ≡ 0
HaveStatesInAll P (r ∷ rs) total = (own rest : ℕ) × HasStates (moves P) (start_of P r) own
    × HaveStatesInAll P rs rest × (total ≡ own + rest)

-- machines, with counts of their stages' places, each and in all
pub record Machines : Type 0 where
  pub machines : List Graph
  pub counts : List ℕ
  pub places : ℕ

-- the machines of the program's stages, and how many places these have in all
pub record AreMachines (P : Grammar) (lowered : Machines) : Type 0 where
  pub stages : AreStages P (roots_of P) lowered.machines
  pub places : HaveInAll P (roots_of P) lowered.places

-- plans, by their machines and tables, what they tell, and counts of places and states
pub record Plans : Type 0 where
  pub stages : List Graph
  pub tables : List (Option Transducer)
  pub telling : Telling
  pub places : ℕ
  pub states : ℕ

-- each item bears a number, counted from 1, and is there too: at its own place or before it
abbrev pub StandAtNumbers : {A : Type 0} → (A → ℕ) → List A → Type 0
StandAtNumbers {A} number xs = (i : ℕ) (x : A) → HasNumber xs x i → (n : ℕ)
    × (number x ≡ suc n) × (n ≤ i) × HasNumber xs x n

abbrev pub stage_of : Graph → ℕ
stage_of m = m.stage

abbrev pub stage_in : Planned → ℕ
stage_in p = p.machine.stage

-- what stages are to tell
abbrev pub asked_telling : Limits → Telling
asked_telling limits = if limits.optimal then telling.Best else telling.Agreed

-- the table tells what is agreed, and its states are numbered as they are met; or it tells what is
-- best, and is the same table with the covered leaves left out
abbrev pub IsTableTelling : Telling → Graph → Transducer → Type 0
IsTableTelling telling.Agreed m t = IsTableOf m t × IsDetermined m t
IsTableTelling telling.Best m t = IsBestTableOf m t × IsOptimal m t

abbrev pub HasTableIf : Bool → Telling → Graph → Option Transducer → Type 0
HasTableIf true k m None = ⊥
HasTableIf true k m (Some t) = IsTableTelling k m t
HasTableIf false k m o = o ≡ None

-- where tables are asked for, a machine has a table that is its own and tells what it is to, else
-- none
abbrev pub HasTable : Limits → Graph → Option Transducer → Type 0
HasTable limits m o = HasTableIf limits.tables (asked_telling limits) m o

abbrev pub AreTabled : Limits → List Graph → List (Option Transducer) → Type 0
AreTabled limits [] [] = Unit {0}
AreTabled limits (m ∷ ms) (o ∷ os) = HasTable limits m o × AreTabled limits ms os
AreTabled limits ms os = ⊥

-- the plans of the program's stages, with their tables, which tell what they are to, and how many
-- places and states these have in all
pub record ArePlans (limits : Limits) (P : Grammar) (plans : Plans) : Type 0 where
  pub stages : AreStages P (roots_of P) plans.stages
  pub places : HaveInAll P (roots_of P) plans.places
  pub tables : AreTabled limits plans.stages plans.tables
  pub told : plans.telling ≡ asked_telling limits
  pub states : limits.tables ≡ true → HaveStatesInAll P (roots_of P) plans.states

abbrev pub NoneIs : {A : Type 0} → (A → Type 0) → List A → Type 0
NoneIs {A} Q xs = (x : A) → IsAmong xs x → Q x → ⊥

-- the stage that begins there is refused for this
abbrev pub IsStageRefused : Grammar → StageRefusal → ℕ → Type 0
IsStageRefused P e root = IsWhy P root most_places e

-- no stage is refused by a rule that comes before, and this stage is the first that is by this one,
-- or there is more than one
abbrev pub IsUnplanned : Limits → Grammar → PlanRefusal → Type 0
IsUnplanned limits P (TooManyPlaces n) = IsFirst (IsStageRefused P why.TooManyPlaces) (roots_of P) n
IsUnplanned limits P (NoText n) = NoneIs (IsStageRefused P why.TooManyPlaces) (roots_of P)
    × IsFirst (IsStageRefused P why.NoText) (roots_of P) n
IsUnplanned limits P OneStage = AllRun P × (limits.one_stage ≡ true) × (1 < length P.stages)
IsUnplanned limits P (TooManyStates n) = AllRun P × KeepsToOneStage limits P
    × (limits.tables ≡ true) × IsFirst (HasTooManyStates limits P) (roots_of P) n
IsUnplanned limits P (TooManyPairs n) = AllRun P × KeepsToOneStage limits P
    × KeepsToStates limits P × (limits.optimal ≡ true)
    × IsFirst (λ r. HasTooManyPairs P r most_pairs) (roots_of P) n
IsUnplanned limits P Memory = Unit {0}

-- ---- the first stages so far

-- the number, if there is any, of what is first so
abbrev pub IsFirstIn : {A : Type 0} → (A → Type 0) → List A → Option ℕ → Type 0
IsFirstIn Q xs None = NoneIs Q xs
IsFirstIn Q xs (Some n) = IsFirst Q xs n

-- of these stages the firsts that are refused
pub record AreFirsts (P : Grammar) (roots : List ℕ) (f : Firsts) : Type 0 where
  pub too_many_places : IsFirstIn (IsStageRefused P why.TooManyPlaces) roots f.too_many_places
  pub no_text : IsFirstIn (IsStageRefused P why.NoText) roots f.no_text

abbrev pub first_of : Option ℕ → ℕ → Option ℕ
first_of None n = Some n
first_of (Some m) n = Some m

abbrev pub with_first : StageRefusal → ℕ → Firsts → Firsts
with_first why.TooManyPlaces n f = record f { too_many_places = first_of f.too_many_places n }
with_first why.NoText n f = record f { no_text = first_of f.no_text n }
with_first why.Memory n f = f

-- the rule of the lowest number of which there is a first
abbrev pub least_of : Option ℕ → Option ℕ → Option PlanRefusal
least_of (Some n) c = Some (TooManyPlaces n)
least_of None (Some n) = Some (NoText n)
least_of None None = None

abbrev pub least : Firsts → Option PlanRefusal
least f = least_of f.too_many_places f.no_text

-- what is known of stages so far: the firsts that are refused, and where none is the machines, with
-- their places
pub record AreLowered (P : Grammar) (roots : List ℕ) (f : Firsts)
    (lowered : Machines) : Type 0 where
  pub firsts : AreFirsts P roots f
  pub stages : least f ≡ None → AreStages P roots lowered.machines
  pub counts : least f ≡ None → HaveEach P roots lowered.counts
  pub places : least f ≡ None → HaveInAll P roots lowered.places

-- where none is refused, each stage has its machine
abbrev pub HasEachMachine : List ℕ → Firsts → Machines → Type 0
HasEachMachine roots f lowered = least f ≡ None → length lowered.machines ≡ length roots

-- ---- states of machines

-- the machine has more states than are allowed
abbrev pub HasMoreNodes : Limits → Graph → Type 0
HasMoreNodes limits m = HasMoreStates (node_moves m.nodes) m.start limits.states

-- where tables are asked for, the machine has this many states, and no more than are allowed
abbrev pub HasStatesIf : Limits → Graph → ℕ → Type 0
HasStatesIf limits m n = limits.tables ≡ true → HasStates (node_moves m.nodes) m.start n
    × (HasMoreNodes limits m → ⊥)

-- and this many the machines in all
abbrev pub NodeStates : Limits → List Graph → ℕ → Type 0
NodeStates limits [] total = total ≡ 0
NodeStates limits (m ∷ ms) total = (own rest : ℕ) × HasStates (node_moves m.nodes) m.start own
    × (HasMoreNodes limits m → ⊥) × NodeStates limits ms rest × (total ≡ own + rest)

abbrev pub HaveNodeStates : Limits → List Graph → ℕ → Type 0
HaveNodeStates limits ms total = limits.tables ≡ true → NodeStates limits ms total

-- ---- pairs of machines

-- what is best is asked for, and in some state of the machine the test of a leaf has more pairs
-- than are allowed
abbrev pub HasMoreNodePairs : Limits → Graph → Type 0
HasMoreNodePairs limits m = (limits.optimal ≡ true) × SomeAsksMore m most_pairs

-- why a machine has no plan
abbrev pub IsUntabledBy : Limits → Graph → CoverRefusal → Type 0
IsUntabledBy limits m (cover.TooManyStates seen) = (limits.tables ≡ true) × HasMoreNodes limits m
IsUntabledBy limits m (cover.TooManyPairs seen) = (HasMoreNodes limits m → ⊥)
    × HasMoreNodePairs limits m
IsUntabledBy limits m cover.Memory = Unit {0}

-- why plans end at the machine of a stage
abbrev pub IsUntabledAs : Limits → Graph → ℕ → PlanRefusal → Type 0
IsUntabledAs limits m stage (TooManyStates n) = (limits.tables ≡ true) × (n ≡ stage)
    × HasMoreNodes limits m
IsUntabledAs limits m stage Memory = Unit {0}
IsUntabledAs limits m stage _ = ⊥

-- why machines have no plans
abbrev pub IsUntabled : Limits → List Graph → PlanRefusal → Type 0
IsUntabled limits ms (TooManyStates n) = (limits.tables ≡ true) × IsFirst (HasMoreNodes limits) ms n
IsUntabled limits ms (TooManyPairs n) = NoneIs (HasMoreNodes limits) ms
    × IsFirst (HasMoreNodePairs limits) ms n
IsUntabled limits ms Memory = Unit {0}
IsUntabled limits ms _ = ⊥

-- the machines have plans, with their tables, and their states in all; none has too many pairs
pub record HaveTheirPlans (limits : Limits) (ms : List Graph) (plans : Plans) : Type 0 where
  pub machines : plans.stages ≡ ms
  pub tables : AreTabled limits ms plans.tables
  pub states : HaveNodeStates limits ms plans.states
  pub pairs : NoneIs (HasMoreNodePairs limits) ms

-- or the first is known that has too many pairs, and none has too many states
abbrev pub HavePlansOrFirst : Limits → List Graph → Option ℕ → Plans → Type 0
HavePlansOrFirst limits ms None plans = HaveTheirPlans limits ms plans
HavePlansOrFirst limits ms (Some n) plans = NoneIs (HasMoreNodes limits) ms
    × IsFirst (HasMoreNodePairs limits) ms n

-- before this stage each has its plan, where none has too many pairs
abbrev pub HasEachPlan : ℕ → Option ℕ → Plans → Type 0
HasEachPlan stage first plans = first ≡ None → length plans.stages + 1 ≡ stage

abbrev pub table_of : Planned → Option Transducer
table_of p = p.table

-- how many states a table has, if there is one
abbrev pub states_if : Option Transducer → ℕ
states_if None = 0
states_if (Some t) = length t.states
