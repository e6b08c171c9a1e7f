-- Scripts: lists of parts by number, each also from its end; updates in rows of such numbers; and
-- what each state does on each class.
use Rattle.std.specs.Prelude.{◌≡◌, ℕ, zero, suc, ◌+◌, ◌<◌, true, false, List, [], ◌∷◌, ◌++◌}
use Rattle.std.specs.Prelude.{Option, Some, None, ◌↔◌, get_or, slice_get, length}
use Rattle.kex_byteset.specs.Classes.{class_count}
use Rattle.kex_sst.specs.declared.parts.Part.{Part}
use Rattle.kex_code.specs.declared.symbol.Symbol.TheVariants.{L, R}
use Rattle.kex_sst.specs.declared.parts.Part.TheVariants.{Put, Old, Input}
use Rattle.kex_sst.specs.declared.table.Transition.{Transition}
use Rattle.kex_sst.specs.Parts.{Change, olds, olds_in}
use Rattle.kex_sst.specs.Tables.{Transducer, IsTable, transition_of}
use Rattle.kex_script.specs.declared.entries.EntryPlace.{EntryPlace}
use Rattle.kex_script.specs.declared.letters.Letters.{Letters}
use Rattle.kex_script.specs.declared.script.Tail.{Tail}
use Rattle.kex_script.specs.declared.script.Entry.{Entry}

pub record Sheet : Type 0 where
  pub words : List (List Part)
  pub lists : List (List Part)
  pub tails : List Tail
  pub rows : List ℕ
  pub initial : Entry
  pub places : List EntryPlace
  pub numbers : List ℕ
  pub entries : List Entry

abbrev pub list_at : Sheet → ℕ → List Part
list_at s n = get_or s.lists n []

-- n lists, whose numbers are in the rows from k on
abbrev pub lists_from : Sheet → ℕ → ℕ → List (List Part)
lists_from s k zero = []
lists_from s k (suc n) = list_at s (get_or s.rows k 0) ∷ lists_from s (suc k) n

-- the update whose row begins at a place: how many registers it gives, what it passes on, and what
-- it gives them
abbrev pub change_at : Sheet → ℕ → Change
change_at s at = record {
  out = list_at s (get_or s.rows (suc at) 0);
  regs = lists_from s (suc (suc at)) (get_or s.rows at 0);
}

abbrev pub no_entry : Entry
no_entry =
    record { goes = false; silent = false; fresh = false; target = 0; update = 0; registers = 0 }

-- the entry of a class's number, among those of the state whose place this is
abbrev pub entry_in : Sheet → Option EntryPlace → ℕ → Entry
entry_in s None class = no_entry
entry_in s (Some x) class =
    get_or s.entries (x.first + get_or s.numbers (x.numbers + class) 0) no_entry

-- what a state does on a class
abbrev pub entry_at : Sheet → ℕ → ℕ → Entry
entry_at s state class = entry_in s (slice_get s.places state) class

abbrev pub if_old : Option ℕ → List Part
if_old None = []
if_old (Some i) = Old i ∷ []

-- these are the parts of the word with that number, or none
abbrev pub IsWord : List (List Part) → Option ℕ → List Part → Type 0
IsWord words None w = w ≡ []
IsWord words (Some n) w = slice_get words n ≡ Some w

-- a list is a shorter one, then an old register or none, then a word or none, in which no old
-- register is read
pub record IsTail (words lists : List (List Part)) (x : Tail) (whole : List Part) : Type 0 where
  pub front : List Part
  pub before : slice_get lists x.before ≡ Some front
  pub shorter : length front < length whole
  pub parts : List Part
  pub word : IsWord words x.word parts
  pub plain : olds parts ≡ []
  pub joined : whole ≡ front ++ (if_old x.old ++ parts)

-- each list but the first, which is empty, has its tail
pub record AreTails (words lists : List (List Part)) (tails : List Tail) : Type 0 where
  pub empty : slice_get lists 0 ≡ Some []
  pub as_many : length tails ≡ length lists
  pub each : (k : ℕ) (x : Tail) → 0 < k → slice_get tails k ≡ Some x
      → IsTail words lists x (get_or lists k [])

-- the words of these numbers are L, R, and the byte that is read
pub record AreLetters (words : List (List Part)) (letters : Letters) : Type 0 where
  pub left : slice_get words letters.left ≡ Some (Put L ∷ [])
  pub right : slice_get words letters.right ≡ Some (Put R ∷ [])
  pub byte : slice_get words letters.byte ≡ Some (Input ∷ [])

-- the entry has a target and an update
pub record HasUpdate (s : Sheet) (e : Entry) (to : ℕ) (u : Change) : Type 0 where
  pub goes : e.goes ≡ true
  pub target : e.target ≡ to
  pub update : change_at s e.update ≡ u
  pub registers : e.registers ≡ length u.regs
  pub silent : (e.silent ≡ true) ↔ (u.out ≡ [])
  pub fresh : e.fresh ≡ true → olds_in u.regs ≡ []

-- the entry of a transition, or of none
abbrev pub IsEntryOf : Sheet → Entry → Option Transition → Type 0
IsEntryOf s e None = e.goes ≡ false
IsEntryOf s e (Some r) = HasUpdate s e r.target r.update

-- each state does on each class what the table does: nothing where that has no transition, and else
-- it goes to the same target with lists that are those of the update, part for part
pub record IsScriptOf (s : Sheet) (t : Transducer) : Type 0 where
  pub table : IsTable t
  pub initial : HasUpdate s s.initial 0 t.initial
  pub entries : (state class : ℕ) → class < class_count t.classes
      → IsEntryOf s (entry_at s state class) (transition_of t state class)
