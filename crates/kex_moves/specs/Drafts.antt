-- A text that is put together from what is done.
use Rattle.std.specs.Prelude.{◌≡◌, ◌≤◌, ℕ, List, [], ◌∷◌, ◌++◌, Option, IfSome, length, take}
use Rattle.std.specs.Prelude.{slice_set}
use Rattle.kex_model.specs.Moves.{open_buffer, drop_buffer}
use Rattle.kex_model.specs.Acting.{ActingState, after_effect}
use Rattle.kex_machine.specs.declared.MNode.{MNode}
use Rattle.kex_action.specs.declared.action.Action.{Action}
use Rattle.kex_action.specs.Actions.{after_actions}
use Rattle.kex_action.specs.Holdings.{with_bytes}
use Rattle.kex_moves.specs.declared.settle.EdgeDraft.{EdgeDraft}
use Rattle.kex_moves.specs.declared.settle.NodeAct.{NodeAct}
use Rattle.kex_moves.specs.declared.settle.NodeAct.TheVariants.{Writes, Opens, Drops, Other}
use Rattle.kex_moves.specs.Known.{HasPlace}

-- with more open buffers, the innermost first
abbrev pub with_buffers : List (List ℕ) → ActingState → ActingState
with_buffers tops s = record { out = s.out; buffers = tops ++ s.buffers; registers = s.registers }

abbrev pub IsDraft : List ℕ → EdgeDraft → Type 0
IsDraft bytes d = HasPlace bytes d.place

-- z is what the text makes of s where the byte b is read, with as many more open buffers
pub record Drafts (bytes : List ℕ) (d : EdgeDraft) (b : ℕ) (s z : ActingState) : Type 0 where
  pub tops : List (List ℕ)
  pub count : length tops ≡ d.depth
  pub is : z ≡ with_buffers tops (with_bytes (slice_set bytes d.place b) s)

-- from z to z': bytes are written, a buffer is opened, the innermost is dropped, or anything else
abbrev pub IsTurn : NodeAct → ActingState → ActingState → Type 0
IsTurn Writes z z' = (more : List ℕ) × (z' ≡ with_bytes more z)
IsTurn Opens z z' = z' ≡ after_effect open_buffer z
IsTurn Drops z z' = z' ≡ after_effect drop_buffer z
IsTurn Other z z' = Unit {0}

-- the actions make z of s where the byte b is read; those before a place too, but for a buffer that
-- is opened then
pub record KeepsActions (nodes : List MNode) (kept : List Action) (place : Option ℕ) (b : ℕ)
    (s z : ActingState) : Type 0 where
  pub all : z ≡ after_actions nodes b kept s
  pub front : IfSome place (λ at. (at ≤ length kept) × (x : List ℕ)
      × (z ≡ with_buffers (x ∷ []) (after_actions nodes b (take at kept) s)))
