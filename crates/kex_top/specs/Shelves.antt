-- What a call leaves of the shelf, by its answer.
use Rattle.std.specs.Prelude.{◌≡◌, ◌≤◌, ℕ, List, Option, Some, None, Result, Err}
use Rattle.kex_ports.specs.Causes.{Rose}
use Rattle.kex_ports.specs.Named.{Texts}
use Rattle.kex_ports.specs.Shelf.{ShelfText, untold, absent, present, told_of}
use Rattle.kex_top.specs.declared.start.StartError.{StartError}
use Rattle.kex_top.specs.declared.start.StartError.TheVariants as start
use Rattle.kex_top.specs.declared.status.Status.{Status}
use Rattle.kex_top.specs.declared.status.Status.TheVariants.{ShelfFault}

-- The counts of a shelf before and after a call.
pub record ShelfChange : Type 0 where
  pub faults_before : ℕ
  pub faults_now : ℕ
  pub breaks_before : ℕ
  pub breaks_now : ℕ

abbrev pub shelf_change : ℕ → ℕ → ℕ → ℕ → ShelfChange
shelf_change a b c d =
    record { faults_before = a; faults_now = b; breaks_before = c; breaks_now = d }

-- the counts of a shelf in one state and in another
abbrev pub shelf_change_of : {H : Type 0} → (H → ℕ) → (H → ℕ) → H → H → ShelfChange
shelf_change_of faults breaks old new =
    shelf_change (faults old) (faults new) (breaks old) (breaks new)

abbrev pub ShelfIsLeft : ShelfChange → Type 0
ShelfIsLeft s = (s.faults_now ≡ s.faults_before) × (s.breaks_now ≡ s.breaks_before)

-- Breaks rose where the name is known to have a text.
abbrev pub Broke : ShelfText → ShelfChange → Type 0
Broke untold s = s.breaks_before ≤ s.breaks_now
Broke absent s = s.breaks_now ≡ s.breaks_before
Broke (present text) s = (s.breaks_before ≤ s.breaks_now) × Rose s.breaks_before s.breaks_now

abbrev pub ShelfFailed : ShelfText → ShelfChange → Type 0
ShelfFailed told s =
    (s.faults_before ≤ s.faults_now) × Rose s.faults_before s.faults_now × Broke told s

-- The shelf failed exactly where the answer says so.
abbrev pub ShelfAnswers : ShelfText → ShelfChange → Status → Type 0
ShelfAnswers told s ShelfFault = ShelfFailed told s
ShelfAnswers told s _ = ShelfIsLeft s

-- The same of a command that takes the text of this name, or none.
abbrev pub ShelfServes : Option (List ℕ) → Option Texts → ShelfChange → Status → Type 0
ShelfServes None texts s status = ShelfIsLeft s
ShelfServes (Some name) texts s status = ShelfAnswers (told_of texts name) s status

-- The same of a text that is taken.
abbrev pub TakesFromShelf : {T : Type 0} → ShelfText → ShelfChange → Result T StartError → Type 0
TakesFromShelf told s (Err start.Shelf) = ShelfFailed told s
TakesFromShelf told s _ = ShelfIsLeft s
