-- How the code checks the lines of a stage.
use Rattle.std.specs.Prelude.{◌≡◌, ℕ, suc, List, [], ◌∷◌, ◌++◌, ◌⊎◌, Option, Some, None, length}
use Rattle.std.specs.Prelude.{slice_get}
use Rattle.kex_code.specs.Codes.{Begins, IsAmong}
use Rattle.kex_model.specs.Labelled.{Shape, shape_of, size_of, Grown}
use Rattle.kex_machine.specs.Nodes.{Graph, node_moves}
use Rattle.kex_machine.specs.Advancing.{first_accepting}
use Rattle.kex_sst.specs.declared.parts.Part.{Part}
use Rattle.kex_sst.specs.declared.table.Transition.{Transition}
use Rattle.kex_sst.specs.Parts.{Change, numbered_tree}
use Rattle.kex_paths.specs.Nexts.{Outline, IsOfShape, IsFirstTree, IsChange}
use Rattle.kex_determine.specs.Rows.{way_to}
use Rattle.kex_tabfile.specs.Lines.{end_line, line_behind}
use Rattle.kex_tabfile.specs.Readers.{ReadSoFar, ReadsBytes}
use Rattle.kex_tabfile.specs.Walks.{Target, Told, Spot, GoesByClass, WalksLines}
use Rattle.kex_tabfile.specs.Walks.{BreaksFrom, BreaksInStage, IsStageText}
use Rattle.kex_tabfile.specs.TableFiles.{BreaksLines}
use Rattle.kex_sst.specs.Tables.{Row}
use Rattle.kex_tabfile.specs.declared.refusal.TableRefusal.{TableRefusal}
use Rattle.kex_tabfile.specs.declared.refusal.TableRefusal.TheVariants.{BadTable, Memory}

-- the path trees are those of the targets
abbrev pub TreesOf : Graph → List (ℕ × Outline) → List Target → Type 0
TreesOf g [] [] = Unit {0}
TreesOf g (e ∷ es) (x ∷ xs) = (e.0 ≡ x.state) × (e.1.machine ≡ g) × IsOfShape e.1 x.tree
    × TreesOf g es xs
TreesOf g es xs = ⊥

-- and no state has two trees
pub record AreTargets (g : Graph) (entries : List (ℕ × Outline))
    (targets : List Target) : Type 0 where
  pub trees : TreesOf g entries targets
  pub one : (k : ℕ) (s t : Shape ℕ) → IsAmong targets (record { state = k; tree = s })
      → IsAmong targets (record { state = k; tree = t }) → s ≡ t

-- what comes of a tree of shape s with a class
abbrev pub NextBy : Graph → ℕ → Shape ℕ → Option (Outline × Change) → Type 0
NextBy g class s None = GoesByClass g class s None
NextBy g class s (Some n) = (n.0.machine ≡ g) × (a : Grown Part ℕ)
    × GoesByClass g class s (Some a) × IsOfShape n.0 (shape_of a.tree) × IsChange n.1 a

-- from one spot to another the lines were right, and were read
pub record Checks (g : Graph) (numbers classes : List ℕ) (old : ReadSoFar) (from to : Spot)
    (new : ReadSoFar) : Type 0 where
  pub bytes : List ℕ
  pub reads : ReadsBytes old bytes new
  pub walked : WalksLines g numbers classes from bytes to

-- why the lines from a spot on are refused
abbrev pub BreaksReading : Graph → List ℕ → List ℕ → ReadSoFar → Spot → TableRefusal → Type 0
BreaksReading g numbers classes old from (BadTable line) = (before rest : List ℕ)
    × (old.rest ≡ before ++ rest) × BreaksFrom g numbers classes from before rest
    × (line ≡ line_behind (old.before ++ before))
BreaksReading g numbers classes old from Memory = Unit {0}
BreaksReading g numbers classes old from _ = ⊥

-- what the lines before a state's tell, and the trees that are kept
pub record ChecksAt (g : Graph) (entries : List (ℕ × Outline)) (states state : ℕ)
    (told : Told) : Type 0 where
  pub known : AreTargets g entries told.targets
  pub states_are : told.states ≡ states
  pub of_state : length told.rows ≡ state

-- the update is that of the start
abbrev pub BeginsWith : Graph → Change → Type 0
BeginsWith g u = (a : Grown Part ℕ) × IsFirstTree g (Some a) × IsChange u a

-- a state of this shape has this many registers, and this way to its end
pub record HasEnds (g : Graph) (s : Shape ℕ) (registers : ℕ)
    (accepting : Option (List Part)) : Type 0 where
  pub count : suc registers ≡ size_of s
  pub way : accepting ≡ way_to (first_accepting (node_moves g.nodes) (numbered_tree 0 s))

-- each row has the ends of its state's tree
abbrev pub EachHasEnds : Graph → List Target → List Row → Type 0
EachHasEnds g targets rows = (i : ℕ) (r : Row) → slice_get rows i ≡ Some r → (s : Shape ℕ)
    × IsAmong targets (record { state = i; tree = s }) × HasEnds g s r.registers r.accepting

-- the lines of the stage with this number were read
abbrev pub ReadsStage : ℕ → Graph → List (List (Option Transition)) → ReadSoFar → ReadSoFar → Type 0
ReadsStage stage g rows old new = (bytes : List ℕ) × IsStageText stage g rows bytes
    × ReadsBytes old bytes new

-- why the lines of the stage with this number are refused
abbrev pub BreaksStage : ℕ → Graph → ReadSoFar → TableRefusal → Type 0
BreaksStage stage g old (BadTable line) = (before rest : List ℕ) × (old.rest ≡ before ++ rest)
    × BreaksInStage stage g before rest × (line ≡ line_behind (old.before ++ before))
BreaksStage stage g old Memory = Unit {0}
BreaksStage stage g old _ = ⊥

-- the same of several stages
abbrev pub BreaksStages : List Graph → ReadSoFar → TableRefusal → Type 0
BreaksStages gs old (BadTable line) = (before rest : List ℕ) × (old.rest ≡ before ++ rest)
    × BreaksLines gs before rest × (line ≡ line_behind (old.before ++ before))
BreaksStages gs old Memory = Unit {0}
BreaksStages gs old _ = ⊥

-- why what comes after all stages is refused: it isn't the last line, or goes on after it
abbrev pub BreaksEnd : ReadSoFar → TableRefusal → Type 0
BreaksEnd old (BadTable line) = ((Begins old.rest end_line → ⊥) × (line ≡ line_behind old.before))
    ⊎ ((more : List ℕ) × (old.rest ≡ end_line ++ more) × (more ≡ [] → ⊥)
    × (line ≡ line_behind (old.before ++ end_line)))
BreaksEnd old _ = ⊥
