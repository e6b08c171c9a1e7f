-- What a script is written on: its lists and rows as far as they are, which only grow.
use Rattle.std.specs.Prelude.{◌≡◌, ℕ, ◌+◌, ◌<◌, ◌≤◌, true, false, List, [], ◌++◌, Option, Some}
use Rattle.std.specs.Prelude.{None, ◌↔◌, get_or, slice_get, length, take, drop}
use Rattle.kex_sst.specs.declared.parts.Part.{Part}
use Rattle.kex_sst.specs.declared.table.Transition.{Transition}
use Rattle.kex_sst.specs.Parts.{Change, olds, olds_in}
use Rattle.kex_sst.specs.Tables.{Row}
use Rattle.kex_script.specs.declared.script.Tail.{Tail}
use Rattle.kex_script.specs.declared.script.Entry.{Entry}
use Rattle.kex_script.specs.declared.entries.EntryPlace.{EntryPlace}
use Rattle.kex_script.specs.declared.entries.StateEntries.{StateEntries}
use Rattle.kex_script.specs.declared.writer.Segment.{Segment}
use Rattle.kex_script.specs.Scripts.{AreTails, if_old}

pub record Pages : Type 0 where
  pub words : List (List Part)
  pub lists : List (List Part)
  pub tails : List Tail
  pub rows : List ℕ

-- each item of the first list is at its place in the second
abbrev pub KeepsItems : {A : Type 0} → List A → List A → Type 0
KeepsItems {A} xs ys = (k : ℕ) (x : A) → slice_get xs k ≡ Some x → slice_get ys k ≡ Some x

-- lists and rows stay where they are
pub record PagesGrow (old new : Pages) : Type 0 where
  pub lists : KeepsItems old.lists new.lists
  pub rows : KeepsItems old.rows new.rows

abbrev pub AreSound : Pages → Type 0
AreSound p = AreTails p.words p.lists p.tails

-- an old register or none, and parts up to the next old register
pub record IsSegment (s : Segment) (parts : List Part) : Type 0 where
  pub within : s.end ≤ length parts
  pub some : 0 < s.end
  pub start : s.start ≤ s.end
  pub old : take s.start parts ≡ if_old s.old
  pub plain : olds (drop s.start (take s.end parts)) ≡ []

-- a list of this number, then an old register or none, then a word, are these parts
pub record IsJoined (lists : List (List Part)) (number : ℕ) (old : Option ℕ)
    (word whole : List Part) : Type 0 where
  pub front : List Part
  pub before : slice_get lists number ≡ Some front
  pub shorter : length front < length whole
  pub plain : olds word ≡ []
  pub joined : whole ≡ front ++ (if_old old ++ word)

-- the number of a list is in the rows at a place
pub record IsListAt (p : Pages) (k : ℕ) (parts : List Part) : Type 0 where
  pub number : ℕ
  pub row : slice_get p.rows k ≡ Some number
  pub list : slice_get p.lists number ≡ Some parts

-- the numbers of n lists are in the rows from a place on
abbrev pub AreListsAt : Pages → ℕ → ℕ → List (List Part) → Type 0
AreListsAt p k n lists = (i : ℕ) → i < n → IsListAt p (k + i) (get_or lists i [])

-- the row of an update begins at a place
pub record IsRow (p : Pages) (at : ℕ) (u : Change) : Type 0 where
  pub count : slice_get p.rows at ≡ Some (length u.regs)
  pub out : IsListAt p (at + 1) u.out
  pub regs : AreListsAt p (at + 2) (length u.regs) u.regs

pub record HasRow (p : Pages) (e : Entry) (to : ℕ) (u : Change) : Type 0 where
  pub goes : e.goes ≡ true
  pub target : e.target ≡ to
  pub row : IsRow p e.update u
  pub registers : e.registers ≡ length u.regs
  pub silent : (e.silent ≡ true) ↔ (u.out ≡ [])
  pub fresh : e.fresh ≡ true → olds_in u.regs ≡ []

abbrev pub HasRowIf : Pages → Entry → Option Transition → Type 0
HasRowIf p e None = e.goes ≡ false
HasRowIf p e (Some r) = HasRow p e r.target r.update

-- there is an entry at a place, of this transition or of none
pub record IsEntryAt (p : Pages) (entries : List Entry) (at : ℕ)
    (r : Option Transition) : Type 0 where
  pub entry : Entry
  pub there : slice_get entries at ≡ Some entry
  pub has : HasRowIf p entry r

-- a class of a state has a number, and by that its entry
pub record IsClassAt (p : Pages) (numbers : List ℕ) (entries : List Entry) (x : EntryPlace)
    (class : ℕ) (r : Option Transition) : Type 0 where
  pub number : ℕ
  pub told : slice_get numbers (x.numbers + class) ≡ Some number
  pub entry : IsEntryAt p entries (x.first + number) r

abbrev pub BeginsWithZeros : List ℕ → Type 0
BeginsWithZeros numbers = (k : ℕ) → k < 256 → slice_get numbers k ≡ Some 0

-- these states have their places, and the entries of their transitions
pub record AreStatesWritten (p : Pages) (all : StateEntries) (states : List Row) : Type 0 where
  pub as_many : length all.places.items ≡ length states
  pub zeros : BeginsWithZeros all.numbers.items
  pub each : (i : ℕ) (s : Row) (x : EntryPlace) → slice_get states i ≡ Some s
      → slice_get all.places.items i ≡ Some x → (class : ℕ) → class < length s.go
      → IsClassAt p all.numbers.items all.entries.items x class (get_or s.go class None)
