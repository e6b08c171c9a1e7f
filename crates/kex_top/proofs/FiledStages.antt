-- The plans that a table file is made of, and the stages that it holds.
use Rattle.std.proofs.Common.{◌≡◌, ◌≤◌, ◌∷◌, [], ℕ, suc, List, true, false, ap, arith, inl, inr, length, map, refl, subst, sym}
use Rattle.std.proofs.Math.Nat.{lt_of_not-le}
use Rattle.std.proofs.lemmas.Bool.{false≢true}
use Rattle.std.specs.Prelude.{Option, Some, None, if◌then◌else◌}
use Rattle.kex_code.specs.Codes.{IsAmong}
use Rattle.kex_model.specs.Places.{moves, start_of}
use Rattle.kex_model.specs.Programs.{Grammar}
use Rattle.kex_model.specs.States.{HasMoreStates}
use Rattle.kex_machine.specs.Nodes.{Graph}
use Rattle.kex_sst.specs.Machines.{IsTableOf}
use Rattle.kex_sst.specs.Tables.{Transducer}
use Rattle.kex_determine.specs.Determined.{IsDetermined}
use Rattle.kex_lowering.proofs.States.{same_states}
use Rattle.kex_plan.specs.Plans.{Planned, machine_of}
use Rattle.kex_plan.specs.declared.plan.Telling.{Telling}
use Rattle.kex_plan.specs.declared.plan.Telling.TheVariants as telling
use Rattle.kex_compile.specs.Compiled.{HasMachines, IsCompiled}
use Rattle.kex_compile.specs.Stages.{AreStages, AreTabled, CanRun, HasTableIf, HasTooManyStates, IsStage, Plans, asked_telling, roots_of, table_of}
use Rattle.kex_compile.specs.declared.limits.Limits.{Limits}
use Rattle.kex_tabfile.specs.Readers.{most_bytes}
use Rattle.kex_tabfile.specs.TableFiles.{ArePlansOf, IsGood, IsTableFile, goes_in}
use Rattle.kex_tabfile.specs.Walks.{most_table_states}
use Rattle.kex_top.specs.Commands.{Filed}
use Rattle.kex_top.specs.Refusals.{HoldsProgram}

-- a stage has no more states in its table than it has
few-states : (P : Grammar) (root n : ℕ) (m : Graph) (t : Transducer) → IsStage P root m → IsDetermined m t → (HasMoreStates (moves P) (start_of P root) n → ⊥) → length t.states ≤ n
few-states P root n m t s d few =
    let count = d.rows.count in
    let more : suc n ≤ length t.states → ⊥ = λ lt. few ((same_states P root m s.kept n).more.1 (d.shapes, omega (arith, lt, count), d.different, d.each)) in
    let below = lt_of_not-le more in omega (arith, below)

-- the plan has a table that is its machine's, of at most this many states
pub record HasOwnTable (n : ℕ) (p : Planned) : Type 0 where
  pub table : Transducer
  pub is : p.table ≡ Some table
  pub of_machine : IsTableOf p.machine table
  pub determined : IsDetermined p.machine table
  pub few : length table.states ≤ n

-- what isn't asked to be optimal tells what is agreed
told-agreed : (limits : Limits) → limits.optimal ≡ false → asked_telling limits ≡ telling.Agreed
told-agreed limits agreed = ap (λ b. if b then telling.Best else telling.Agreed) agreed

module _ (limits : Limits) (P : Grammar) (asked : limits.tables ≡ true) (agreed : limits.optimal ≡ false) where
  own-table : (root : ℕ) (m : Graph) (o : Option Transducer) (k : Telling) → IsStage P root m → (HasTooManyStates limits P root → ⊥) → HasTableIf true telling.Agreed m o → HasOwnTable limits.states (record { machine = m; table = o; telling = k })
  own-table root m None k s few h = absurd h
  own-table root m (Some t) k s few h = record { table = t; is = refl; of_machine = h.0; determined = h.1; few = few-states P root limits.states m t s h.1 few }

  pub own-tables : (rs : List ℕ) (ps : List Planned) → ((r : ℕ) → IsAmong rs r → HasTooManyStates limits P r → ⊥) → AreStages P rs (map machine_of ps) → AreTabled limits (map machine_of ps) (map table_of ps) → (p : Planned) → IsAmong ps p → HasOwnTable limits.states p
  own-tables rs [] few s h p a = absurd a
  own-tables [] (q ∷ ps) few s h p a = absurd s
  own-tables (r ∷ rs) (q ∷ ps) few s h p (inl same) = subst (λ z. HasOwnTable limits.states z) same (own-table r q.machine q.table q.telling s.0 (few r (inl refl)) (subst (λ k. HasTableIf true k q.machine q.table) (told-agreed limits agreed) (subst (λ b. HasTableIf b (asked_telling limits) q.machine q.table) asked h.0)))
  own-tables (r ∷ rs) (q ∷ ps) few s h p (inr more) = own-tables rs ps (λ z among. few z (inr among)) s.1 h.1 p more

-- the plans of a text, with their tables
module _ (limits : Limits) (text : List ℕ) (plans : Plans) (ps : List Planned) (asked : limits.tables ≡ true) (agreed : limits.optimal ≡ false) (c : IsCompiled limits text plans) (machines : map machine_of ps ≡ plans.stages) (tables : map table_of ps ≡ plans.tables) where
  are-stages : AreStages c.program (roots_of c.program) (map machine_of ps)
  are-stages = subst (λ z. AreStages c.program (roots_of c.program) z) (sym machines) c.plans_of.stages

  pub has-machines : HasMachines text (map machine_of ps)
  has-machines = record { program = c.program; spells = c.accepts.spells; ruled = c.accepts.ruled; stages = are-stages }

  pub has-tables : (p : Planned) → IsAmong ps p → HasOwnTable limits.states p
  has-tables = own-tables limits c.program asked agreed (roots_of c.program) ps (c.accepts.states asked) are-stages
      (subst (λ z. AreTabled limits (map machine_of ps) z) (sym tables) (subst (λ z. AreTabled limits z plans.tables) (sym machines) c.plans_of.tables))

  pub are-plans : limits.states ≤ most_table_states → ArePlansOf text ps
  are-plans le = record {
    machines = has-machines;
    tables = λ p a. let t = has-tables p a in let few = t.few in (t.table, t.is, t.determined, omega (arith, few, le));
  }

-- each stage of a program in a file can run
all-run : (P : Grammar) (rs : List ℕ) (ms : List Graph) → AreStages P rs ms → (root : ℕ) → IsAmong rs root → CanRun P root
all-run P [] ms s root a = absurd a
all-run P (r ∷ rs) [] s root a = absurd s
all-run P (r ∷ rs) (m ∷ ms) s root (inl same) = subst (λ z. CanRun P z) same s.0.can_run
all-run P (r ∷ rs) (m ∷ ms) s root (inr more) = all-run P rs ms s.1 root more

-- a good file holds a program of its text
pub holds-program : (file : List ℕ) (ps : List Planned) → length file ≤ most_bytes → (good : IsGood file ps) → HoldsProgram file good.machines.program
holds-program file ps short good =
    let m = good.machines in
    record {
      short = short;
      plans = ps;
      good = good;
      accepts = record {
        spells = m.spells;
        ruled = m.ruled;
        stages = all-run m.program (roots_of m.program) (map machine_of ps) m.stages;
        one_stage = λ one. absurd (false≢true one);
        states = λ tabled. absurd (false≢true tabled);
        pairs = λ best. absurd (false≢true best);
      };
    }

-- the file that is made of the plans of a text is good
pub filed-text : (text file : List ℕ) (ps : List Planned) (limits : Limits) (plans : Plans) (asked : limits.tables ≡ true) (agreed : limits.optimal ≡ false) (c : IsCompiled limits text plans) (machines : map machine_of ps ≡ plans.stages) (tables : map table_of ps ≡ plans.tables) → limits.states ≤ most_table_states → IsTableFile file text (map machine_of ps) (map goes_in ps) → (Told : List ℕ → Type 0) → Told file → Filed text Told
filed-text text file ps limits plans asked agreed c machines tables le spells Told told =
    let all = are-plans limits text plans ps asked agreed c machines tables le in
    record {
      plans = ps;
      plans_of = all;
      file = file;
      good = record {
        text = text;
        machines = has-machines limits text plans ps asked agreed c machines tables;
        spells = spells;
        tables = λ p a. let t = has-tables limits text plans ps asked agreed c machines tables p a in (t.table, t.is, t.of_machine);
      };
      of_text = refl;
      told = told;
    }
