-- What the end of a text does at a row.
use Rattle.std.specs.Prelude.{◌≡◌, ◌+◌, ℕ, List, Some, slice_get}
use Rattle.kex_code.specs.declared.symbol.Symbol.{Symbol}
use Rattle.kex_machine.specs.declared.MNode.{MNode}
use Rattle.kex_sst.specs.declared.parts.Part.{Part}
use Rattle.kex_sst.specs.Parts.{parts_code}
use Rattle.kex_sst.specs.Tables.{Transducer}
use Rattle.kex_sst.specs.Passes.{way_of}
use Rattle.kex_held.specs.declared.item.HeldItem.{HeldItem}
use Rattle.kex_held.specs.TreeEdges.{DoesActs, AreHeld}
use Rattle.kex_held.specs.Slices.{acts_over, points_of, AreItemsWithin}
use Rattle.kex_held.specs.HeldRows.{HeldRow, state_over, FitsWindow}

-- the node to which the end of a text leads, and what it does
pub record RowEnd : Type 0 where
  pub node : ℕ
  pub outs : List HeldItem

-- a text may end at the row's state; and whatever the window and its marks, the parts that the
-- state has for that lead to the node and do what the items come to
pub record IsRightEnd (t : Transducer) (nodes : List MNode) (r : HeldRow)
    (e : RowEnd) : Type 0 where
  pub way : List Part
  pub ends : way_of (slice_get t.states r.state) ≡ Some way
  pub within : AreItemsWithin (r.marks + 1) e.outs
  pub does : (w marks : List ℕ) (registers : List (List Symbol)) → FitsWindow w marks r
      → AreHeld nodes (state_over w marks r).edges registers
      → DoesActs nodes r.node (parts_code registers 0 way) e.node
      (acts_over w (points_of w marks) e.outs)
