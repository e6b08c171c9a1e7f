-- What a good table file is, and at which line another breaks.
use Rattle.std.specs.Prelude.{◌≡◌, ℕ, suc, ◌<◌, ◌≤◌, List, [], ◌∷◌, ◌++◌, Option, Some, None}
use Rattle.std.specs.Prelude.{length, map}
use Rattle.kex_code.specs.Codes.{Begins, IsAmong}
use Rattle.kex_machine.specs.Nodes.{Graph}
use Rattle.kex_sst.specs.declared.table.Transition.{Transition}
use Rattle.kex_sst.specs.Tables.{Row, Transducer}
use Rattle.kex_sst.specs.Machines.{IsTableOf}
use Rattle.kex_plan.specs.Plans.{Planned, machine_of}
use Rattle.kex_determine.specs.Determined.{IsDetermined}
use Rattle.kex_compile.specs.Compiled.{HasMachines, IsRefused}
use Rattle.kex_compile.specs.declared.limits.Limits.{Limits}
use Rattle.kex_compile.specs.declared.refusal.CompileRefusal.{CompileRefusal}
use Rattle.kex_compile.specs.declared.refusal.CompileRefusal.TheVariants as compile
use Rattle.kex_tabfile.specs.Lines.{name_line, head_text, end_line, line_behind}
use Rattle.kex_tabfile.specs.Readers.{most_bytes}
use Rattle.kex_tabfile.specs.Walks.{IsStageText, BreaksInStage, most_table_states}
use Rattle.kex_tabfile.specs.declared.refusal.TableRefusal.{TableRefusal}
use Rattle.kex_tabfile.specs.declared.refusal.TableRefusal.TheVariants.{TableTooLong, BadTable}
use Rattle.kex_tabfile.specs.declared.refusal.TableRefusal.TheVariants.{Text, Memory}

-- the lines of stages, one after the other, numbered from this number on
abbrev pub AreStageTexts : ℕ → List Graph → List (List (List (Option Transition))) → List ℕ
    → Type 0
AreStageTexts stage [] [] bytes = bytes ≡ []
AreStageTexts stage (g ∷ gs) (rows ∷ tables) bytes = (front back : List ℕ)
    × IsStageText stage g rows front × AreStageTexts (suc stage) gs tables back
    × (bytes ≡ front ++ back)
AreStageTexts stage gs tables bytes = ⊥

-- the file has the text, and the lines of these machines' tables
pub record IsTableFile (file text : List ℕ) (ms : List Graph)
    (tables : List (List (List (Option Transition)))) : Type 0 where
  pub lines : List ℕ
  pub stages : AreStageTexts 1 ms tables lines
  pub whole : file ≡ head_text text ++ (lines ++ end_line)

-- where the states of a table go, by class
abbrev pub goes_of : List Row → List (List (Option Transition))
goes_of rows = map (λ r. r.go) rows

abbrev pub goes_if : Option Transducer → List (List (Option Transition))
goes_if None = []
goes_if (Some t) = goes_of t.states

abbrev pub goes_in : Planned → List (List (Option Transition))
goes_in p = goes_if p.table

-- each plan has a table, which is that of its machine
abbrev pub EachHasTable : List Planned → Type 0
EachHasTable plans = (p : Planned) → IsAmong plans p → (t : Transducer) × (p.table ≡ Some t)
    × IsTableOf p.machine t

-- the file is good: its text has machines, whose tables are those that its lines spell
pub record IsGood (file : List ℕ) (plans : List Planned) : Type 0 where
  pub text : List ℕ
  pub machines : HasMachines text (map machine_of plans)
  pub spells : IsTableFile file text (map machine_of plans) (map goes_in plans)
  pub tables : EachHasTable plans

-- after the lines before, which are right, none that would be right comes next
pub data BreaksLines (ms : List Graph) : List ℕ → List ℕ → Type 0 where
  in_stage : (done left : List Graph) {g : Graph} (tables : List (List (List (Option Transition))))
      (front : List ℕ) {before rest : List ℕ} → ms ≡ done ++ g ∷ left
      → AreStageTexts 1 done tables front → BreaksInStage (suc (length done)) g before rest
      → BreaksLines ms (front ++ before) rest
  at_end : (tables : List (List (List (Option Transition)))) {before rest : List ℕ}
      → AreStageTexts 1 ms tables before → (Begins rest end_line → ⊥) → BreaksLines ms before rest
  past_end : (tables : List (List (List (Option Transition)))) (before : List ℕ) {rest : List ℕ}
      → AreStageTexts 1 ms tables before → (rest ≡ [] → ⊥)
      → BreaksLines ms (before ++ end_line) rest

-- the line of this number, before the text, is the first that is not right
pub data IsBadFront (file : List ℕ) : ℕ → Type 0 where
  bad_name : (Begins file name_line → ⊥) → IsBadFront file 1
  bad_text : Begins file name_line → ((text : List ℕ) → Begins file (head_text text) → ⊥)
      → IsBadFront file 2

-- the line of this number is the first that is not right: before the text, or after it where the
-- text has machines
pub data IsBadLine (file : List ℕ) : ℕ → Type 0 where
  bad_front : {line : ℕ} → IsBadFront file line → IsBadLine file line
  bad_line : {text before rest : List ℕ} {ms : List Graph} → HasMachines text ms
      → file ≡ head_text text ++ (before ++ rest) → BreaksLines ms before rest
      → IsBadLine file (line_behind (head_text text ++ before))

-- the first or second line is not right
abbrev pub IsBadHead : List ℕ → TableRefusal → Type 0
IsBadHead file (BadTable line) = IsBadFront file line
IsBadHead file Memory = Unit {0}
IsBadHead file _ = ⊥

-- a refusal of the text, of the file that has it
abbrev pub of_text : CompileRefusal → TableRefusal
of_text compile.Memory = Memory
of_text why = Text why

-- why a file is refused
abbrev pub IsTableRefused : List ℕ → TableRefusal → Type 0
IsTableRefused file TableTooLong = most_bytes < length file
IsTableRefused file (BadTable line) = (length file ≤ most_bytes) × IsBadLine file line
IsTableRefused file (Text compile.Memory) = ⊥
IsTableRefused file (Text why) = (length file ≤ most_bytes) × (text : List ℕ)
    × Begins file (head_text text) × ((limits : Limits) → IsRefused limits text why)
IsTableRefused file Memory = Unit {0}

-- the plans are a text's, each with the table that determinisation makes, of no more states than a
-- file may have
pub record ArePlansOf (text : List ℕ) (plans : List Planned) : Type 0 where
  pub machines : HasMachines text (map machine_of plans)
  pub tables : (p : Planned) → IsAmong plans p → (t : Transducer) × (p.table ≡ Some t)
      × IsDetermined p.machine t × (length t.states ≤ most_table_states)
