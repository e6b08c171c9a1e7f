-- Looking up backwards: the lists that are still to be read, what they stand for, and how much
-- there is to be read.
use Rattle.std.specs.Prelude.{◌≡◌, ℕ, zero, suc, ◌+◌, ◌<◌, ◌≤◌, List, [], ◌∷◌, ◌++◌, Option, Some}
use Rattle.std.specs.Prelude.{None, map, length, get_or, take}
use Rattle.kex_code.specs.declared.symbol.Symbol.{Symbol}
use Rattle.kex_sst.specs.declared.parts.Part.{Part}
use Rattle.kex_sst.specs.declared.parts.Part.TheVariants.{Put, Old, Input}
use Rattle.kex_sst.specs.Parts.{parts_code}
use Rattle.kex_script.specs.declared.piece.ByteWord.{ByteWord}
use Rattle.kex_script.specs.Scripts.{Sheet, list_at}
use Rattle.kex_runner.specs.Noting.{ByteUpdate, registers_after, spelled_back}
use Rattle.kex_runner.specs.declared.history.reading.Reading.{Reading}
use Rattle.kex_runner.specs.declared.history.reading.Unread.{Unread}

-- what an unread list stands for
abbrev pub unread_code : Sheet → List (List Symbol) → List ByteUpdate → Unread → List Symbol
unread_code s base notes u =
    parts_code (registers_after base (take u.after notes)) u.byte (list_at s u.list)

-- the same of some, joined
abbrev pub codes_of : Sheet → List (List Symbol) → List ByteUpdate → List Unread → List Symbol
codes_of s base notes [] = []
codes_of s base notes (u ∷ us) = unread_code s base notes u ++ codes_of s base notes us

-- each comes after at most `count` notes
abbrev pub AreNoted : ℕ → List Unread → Type 0
AreNoted count [] = Unit {0}
AreNoted count (u ∷ us) = (u.after ≤ count) × AreNoted count us

abbrev pub if_some : Option Unread → List Unread
if_some None = []
if_some (Some u) = u ∷ []

-- a list that is put on a stack, if it isn't the empty one
abbrev pub unless_empty : ℕ → Unread → List Unread
unless_empty zero u = []
unless_empty (suc n) u = u ∷ []

-- how many parts are read further for this one, by how many each register takes
abbrev pub further_work : List ℕ → Part → ℕ
further_work ws (Put s) = 0
further_work ws (Old i) = get_or ws i 0
further_work ws Input = 0

-- how many parts are read for these
abbrev pub part_work : List ℕ → List Part → ℕ
part_work ws [] = 0
part_work ws (x ∷ xs) = suc (further_work ws x + part_work ws xs)

-- how many parts are read for each register after the updates, by how many each took before
abbrev pub register_work : List ℕ → List ByteUpdate → List ℕ
register_work ws [] = ws
register_work ws (n ∷ ns) = register_work (map (λ xs. part_work ws xs) n.update.regs) ns

-- how many parts are read for an unread list; what a register was where the notes begin takes none
abbrev pub list_work : Sheet → List ByteUpdate → Unread → ℕ
list_work s notes u = part_work (register_work [] (take u.after notes)) (list_at s u.list)

-- a measure of all that are unread: twice their parts, and one for each list
abbrev pub weight_of : Sheet → List ByteUpdate → List Unread → ℕ
weight_of s notes [] = 0
weight_of s notes (u ∷ us) = suc (list_work s notes u + list_work s notes u) + weight_of s notes us

-- what an old register holds, if there is one
abbrev pub old_text : List (List Symbol) → Option ℕ → List Symbol
old_text regs None = []
old_text regs (Some i) = get_or regs i []

-- twice the parts that are read for it, and one
abbrev pub old_weight : List ℕ → Option ℕ → ℕ
old_weight ws None = 0
old_weight ws (Some i) = suc (get_or ws i 0 + get_or ws i 0)

-- what is said is to be read from the next list, or was read, before the pieces that were; and it
-- takes no more than `most`
pub record HasAskedNext (s : Sheet) (base : List (List Symbol)) (notes : List ByteUpdate)
    (old new : Reading) (next : Option Unread) (said : List Symbol) (most : ℕ) : Type 0 where
  pub text : codes_of s base notes (if_some next) ++ spelled_back s.words new.back.items
      ≡ said ++ spelled_back s.words old.back.items
  pub pending : new.pending.items ≡ old.pending.items
  pub noted : AreNoted (length notes) (if_some next)
  pub weight : weight_of s notes (if_some next) ≤ most

-- what an old register, if there is one, holds after a number of notes is to be read
abbrev pub HasAskedFor : Sheet → List (List Symbol) → List ByteUpdate → ℕ → Option ℕ → Reading
    → Reading → Option Unread → Type 0
HasAskedFor s base notes after old before now next =
    HasAskedNext s base notes before now next (old_text (registers_after base (take after notes))
    old) (old_weight (register_work [] (take after notes)) old)

-- of lists that were unread the last was read from its end, which leaves others, and less
pub record HasReadList (s : Sheet) (base : List (List Symbol)) (notes : List ByteUpdate)
    (before after : List Unread) (old new : List ByteWord) : Type 0 where
  pub text : codes_of s base notes after ++ spelled_back s.words new
      ≡ codes_of s base notes before ++ spelled_back s.words old
  pub noted : AreNoted (length notes) before → AreNoted (length notes) after
  pub weight : weight_of s notes after < weight_of s notes before
