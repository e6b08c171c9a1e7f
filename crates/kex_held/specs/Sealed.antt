-- What an item does to the open buffers.
use Rattle.std.specs.Prelude.{◌≡◌, ◌<◌, ◌+◌, ℕ, List, [], ◌∷◌, get_or, length, drop}
use Rattle.kex_model.specs.Acting.{ActingState}
use Rattle.kex_machine.specs.declared.MNode.{MNode}
use Rattle.kex_action.specs.Holdings.{with_bytes}
use Rattle.kex_action.specs.Sheets.{with_buffer}
use Rattle.kex_held.specs.declared.item.HeldItem.{HeldItem}
use Rattle.kex_held.specs.declared.list.ItemTurn.{ItemTurn}
use Rattle.kex_held.specs.declared.list.ItemTurn.TheVariants.{Writes, Opens, Drops, Other}
use Rattle.kex_held.specs.Acts.{after_act}
use Rattle.kex_held.specs.Slices.{act_over}

-- over any window it only writes, opens a buffer, drops the innermost, or does anything else
abbrev pub DoesTurn : List MNode → HeldItem → ItemTurn → Type 0
DoesTurn nodes item Writes = (w points : List ℕ) (s : ActingState)
    → (more : List ℕ) × (after_act nodes (act_over w points item) s ≡ with_bytes more s)
DoesTurn nodes item Opens = (w points : List ℕ) (s : ActingState)
    → after_act nodes (act_over w points item) s ≡ with_buffer [] s
DoesTurn nodes item Drops = (w points top : List ℕ) (s : ActingState)
    → after_act nodes (act_over w points item) (with_buffer top s) ≡ s
DoesTurn nodes item Other = Unit {0}

-- all items only write
abbrev pub AreWriting : List MNode → List HeldItem → Type 0
AreWriting nodes [] = Unit {0}
AreWriting nodes (i ∷ items) = DoesTurn nodes i Writes × AreWriting nodes items

-- at this number a buffer is opened, into which all items after it write
pub record OpensAt (nodes : List MNode) (items : List HeldItem) (at : ℕ)
    (d : HeldItem) : Type 0 where
  pub within : at < length items
  pub opens : DoesTurn nodes (get_or items at d) Opens
  pub writes : AreWriting nodes (drop (at + 1) items)
