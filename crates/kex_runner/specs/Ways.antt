-- Ways: old registers one after another, and what they were before an update.
use Rattle.std.specs.Prelude.{◌≡◌, ℕ, ◌+◌, ◌<◌, ◌≤◌, List, [], ◌∷◌, ◌++◌, Option, Some, None, All}
use Rattle.std.specs.Prelude.{IfSome, get_or, slice_get, length, take}
use Rattle.kex_code.specs.declared.symbol.Symbol.{Symbol}
use Rattle.kex_sst.specs.declared.parts.Part.{Part}
use Rattle.kex_sst.specs.declared.parts.Part.TheVariants.{Put, Old, Input}
use Rattle.kex_sst.specs.Parts.{Change, parts_code, olds}
use Rattle.kex_script.specs.declared.piece.ByteWord.{ByteWord}
use Rattle.kex_script.specs.Scripts.{Sheet, IsWord, change_at, list_at}
use Rattle.kex_script.specs.Pieces.{code_over}
use Rattle.kex_runner.specs.Noting.{ByteUpdate, registers_after}
use Rattle.kex_runner.specs.declared.ways.Split.{Split}
use Rattle.kex_runner.specs.declared.ways.WayStart.{WayStart}
use Rattle.kex_runner.specs.declared.ways.WayStep.{WayStep}
use Rattle.kex_runner.specs.declared.ways.Form.{Form}
use Rattle.kex_runner.specs.declared.ways.Form.TheVariants.{Said, Silent, Other}
use Rattle.kex_runner.specs.declared.ways.Ways.{Ways}
use Rattle.kex_runner.specs.declared.history.walking.WalkPoint.{WalkPoint}

abbrev pub IsOld : Part → Type 0
IsOld (Put s) = ⊥
IsOld (Old i) = Unit {0}
IsOld Input = ⊥

-- each part is an old register
abbrev pub AreOlds : List Part → Type 0
AreOlds [] = Unit {0}
AreOlds (x ∷ xs) = IsOld x × AreOlds xs

-- the parts, where an old register is what the update gives it
abbrev pub composition : Change → List Part → List Part
composition u [] = []
composition u (Put s ∷ xs) = Put s ∷ composition u xs
composition u (Old i ∷ xs) = get_or u.regs i [] ++ composition u xs
composition u (Input ∷ xs) = Input ∷ composition u xs

-- the way of this number
pub record IsNumberedWay (ways : List (List Part)) (number : ℕ) (way : List Part) : Type 0 where
  pub at : slice_get ways number ≡ Some way
  pub each : AreOlds way

-- a list is a way, and then a word or none
pub record IsSplit (words ways : List (List Part)) (x : Split) (list : List Part) : Type 0 where
  pub front : List Part
  pub way : IsNumberedWay ways x.way front
  pub parts : List Part
  pub word : IsWord words x.word parts
  pub plain : olds parts ≡ []
  pub joined : list ≡ front ++ parts

-- what a list is, if that is said
abbrev pub IsStart : Sheet → List (List Part) → WayStart → Type 0
IsStart s ways x = 0 < x.list → IfSome x.split (λ y. IsSplit s.words ways y (list_at s x.list))

abbrev pub split_by : WayStep → Form → Option Split
split_by x Said = Some (record { way = x.way; last = x.last; word = Some x.word })
split_by x Silent = Some (record { way = x.way; last = x.last; word = None })
split_by x Other = None

-- the way and the word of a step, if it has them
abbrev pub split_in : WayStep → Option Split
split_in x = split_by x x.form

-- what a way was before an update
pub record IsWayStep (s : Sheet) (ways : List (List Part)) (number update : ℕ)
    (x : Split) : Type 0 where
  pub from : List Part
  pub way : IsNumberedWay ways number from
  pub split : IsSplit s.words ways x (composition (change_at s update) from)

-- the same, if it is said
abbrev pub IsStepIf : Sheet → List (List Part) → WayStep → Type 0
IsStepIf s ways x = IfSome (split_in x) (λ y. IsWayStep s ways x.from x.update y)

-- this is kept of a list, where it has a place
abbrev pub HasStart : List WayStart → ℕ → Option Split → Type 0
HasStart starts list x = list < length starts
    → slice_get starts list ≡ Some (record { list = list; split = x })

-- this is kept of a way with that last register before an update, where it has a place
abbrev pub HasStep : List WayStep → ℕ → ℕ → ℕ → Option Split → Type 0
HasStep steps way last update x = update + last < length steps → (step : WayStep)
    × (slice_get steps (update + last) ≡ Some step) × (step.from ≡ way) × (step.update ≡ update)
    × (split_in step ≡ x)

-- what is known of ways is so, over a script
pub record AreKnown (s : Sheet) (w : Ways) : Type 0 where
  pub none : slice_get w.lists 0 ≡ Some []
  pub starts : All (IsStart s w.lists) w.starts.items
  pub steps : All (IsStepIf s w.lists) w.steps.items

-- a way over all notes, and what comes after it, are another one over some of them, and pieces
pub record HasWalked (s : Sheet) (ways : List (List Part)) (notes : List ByteUpdate)
    (from : List Part) (place : WalkPoint) (old new : List ByteWord) : Type 0 where
  pub after : place.after ≤ length notes
  pub to : List Part
  pub way : IsNumberedWay ways place.way to
  pub text : (base : List (List Symbol))
      → parts_code (registers_after base (take place.after notes)) 0 to ++ code_over s.words new
      ≡ parts_code (registers_after base notes) 0 from ++ code_over s.words old
