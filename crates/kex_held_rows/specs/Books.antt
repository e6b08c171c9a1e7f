-- Rows by number, and when what is known of them is right.
use Rattle.std.specs.Prelude.{◌≡◌, ◌<◌, ◌+◌, ℕ, List, [], ◌∷◌, ◌++◌, Some, All, map, length}
use Rattle.std.specs.Prelude.{slice_get, get_or, IsTrue}
use Rattle.kex_byteset.specs.Classes.{class_count}
use Rattle.kex_machine.specs.declared.MNode.{MNode}
use Rattle.kex_machine.specs.Nodes.{Graph}
use Rattle.kex_sst.specs.Tables.{Transducer}
use Rattle.kex_held.specs.declared.item.HeldItem.TheVariants.{Slice}
use Rattle.kex_held.specs.HeldRows.{HeldRow}
use Rattle.kex_held.specs.LearntEdges.{IsLearnt, IsRowWithin}
use Rattle.kex_held_rows.specs.declared.note.RowNote.{RowNote}
use Rattle.kex_held_rows.specs.declared.note.RowNote.TheVariants.{Unknown, Plain, Stays, HandsOn}
use Rattle.kex_held_rows.specs.declared.note.RowNote.TheVariants.{Marks, Goes}
use Rattle.kex_held_rows.specs.NumberedEdges.{NumberedEdge}

-- a row, and what is known of it at each class
pub record RowNotes : Type 0 where
  pub row : HeldRow
  pub notes : List RowNote

-- a table and a machine, and rows by number
pub record RowBook : Type 0 where
  pub table : Transducer
  pub machine : Graph
  pub rows : List RowNotes

abbrev pub rows_in : List RowNotes → List HeldRow
rows_in xs = map (λ x. x.row) xs

-- the row of a state and a node where nothing is held
abbrev pub bare_row : ℕ → ℕ → HeldRow
bare_row q n = record { state = q; node = n; marks = 0; lists = [] }

-- these are the first points, in their order
abbrev pub AreFirst : List ℕ → Type 0
AreFirst keep = (i : ℕ) → i < length keep → get_or keep i 0 ≡ i

-- an edge is learnt that leads back to the row with nothing for the output, and all marks stay
abbrev pub StaysAtRow : Transducer → List MNode → HeldRow → ℕ → Type 0
StaysAtRow t nodes r class = (keep : List ℕ) × AreFirst keep
    × IsLearnt t nodes r class (record { to = r; outs = []; keep = keep })

-- an edge is learnt that leads back to the row, which has one mark: the bytes from there up to the
-- byte go to the output, and the byte is marked
abbrev pub HandsOnAtRow : Transducer → List MNode → HeldRow → ℕ → Type 0
HandsOnAtRow t nodes r class = (r.marks ≡ 1)
    × IsLearnt t nodes r class (record { to = r; outs = Slice 0 1 ∷ []; keep = 1 ∷ [] })

-- an edge is learnt that leads to a row with nothing for the output, and all marks stay, and the
-- place of the byte
abbrev pub MarksAtRow : Transducer → List MNode → HeldRow → ℕ → HeldRow → Type 0
MarksAtRow t nodes r class to = (keep : List ℕ) × AreFirst keep × (length keep ≡ r.marks + 1)
    × IsLearnt t nodes r class (record { to = to; outs = []; keep = keep })

-- what a note of an edge from the row of a number, with that many marks, says of it
abbrev pub IsNoteOf : ℕ → ℕ → NumberedEdge → RowNote → Type 0
IsNoteOf number marks e Unknown = ⊥
IsNoteOf number marks e Plain = ⊥
IsNoteOf number marks e Stays = (e.to ≡ number) × (e.outs ≡ []) × AreFirst e.keep
IsNoteOf number marks e HandsOn = (e.to ≡ number) × (marks ≡ 1) × (e.outs ≡ Slice 0 1 ∷ [])
    × (e.keep ≡ 1 ∷ [])
IsNoteOf number marks e (Marks n) = (n ≡ e.to) × (e.outs ≡ []) × AreFirst e.keep
    × (length e.keep ≡ marks + 1)
IsNoteOf number marks e (Goes d) = d ≡ e

-- where the row goes by an edge, that leads to a row of the list and is learnt, and is called bare
-- only if that row holds nothing
abbrev pub IsNoteRight : Transducer → List MNode → List HeldRow → HeldRow → ℕ → RowNote → Type 0
IsNoteRight t nodes rows r class Unknown = Unit {0}
IsNoteRight t nodes rows r class Plain = Unit {0}
IsNoteRight t nodes rows r class Stays = StaysAtRow t nodes r class
IsNoteRight t nodes rows r class HandsOn = HandsOnAtRow t nodes r class
IsNoteRight t nodes rows r class (Marks number) = (to : HeldRow)
    × (slice_get rows number ≡ Some to) × MarksAtRow t nodes r class to
IsNoteRight t nodes rows r class (Goes e) = (to : HeldRow) × (slice_get rows e.to ≡ Some to)
    × IsLearnt t nodes r class (record { to = to; outs = e.outs; keep = e.keep })
    × (IsTrue e.bare → to.lists ≡ [])

-- a row of the table and the machine, with a right note for each class
pub record IsEntryRight (t : Transducer) (g : Graph) (rows : List HeldRow)
    (x : RowNotes) : Type 0 where
  pub row : IsRowWithin t g x.row
  pub count : length x.notes ≡ class_count t.classes
  pub notes : (class : ℕ) (d : RowNote) → class < length x.notes
      → IsNoteRight t g.nodes rows x.row class (get_or x.notes class d)

abbrev pub IsBook : RowBook → Type 0
IsBook b = All (IsEntryRight b.table b.machine (rows_in b.rows)) b.rows

-- rows stay by their numbers, and others may come after them
pub record KeepsRows (old new : RowBook) : Type 0 where
  pub table : new.table ≡ old.table
  pub machine : new.machine ≡ old.machine
  pub more : List HeldRow
  pub rows : rows_in new.rows ≡ rows_in old.rows ++ more
