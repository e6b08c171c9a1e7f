-- What held text does once it is performed: bytes are written, and nodes have their effects.
use Rattle.std.specs.Prelude.{◌≡◌, ℕ, List, [], ◌∷◌}
use Rattle.kex_model.specs.Acting.{ActingState}
use Rattle.kex_machine.specs.declared.MNode.{MNode}
use Rattle.kex_machine.specs.Nodes.{node_moves}
use Rattle.kex_action.specs.Holdings.{with_bytes}
use Rattle.kex_action.specs.Actions.{after_move}
use Rattle.kex_action.specs.declared.action.Action.{Action}
use Rattle.kex_action.specs.declared.action.Action.TheVariants.{Byte, Node}

-- bytes, or what a node does
pub data Act : Type 0 where
  bytes : List ℕ → Act
  effect : ℕ → Act

abbrev pub after_act : List MNode → Act → ActingState → ActingState
after_act nodes (bytes xs) s = with_bytes xs s
after_act nodes (effect n) s = after_move (node_moves nodes n) s

-- one after another
abbrev pub after_acts : List MNode → List Act → ActingState → ActingState
after_acts nodes [] s = s
after_acts nodes (a ∷ acts) s = after_acts nodes acts (after_act nodes a s)

-- an action of a walk, where the byte b is read
abbrev pub act_of : ℕ → Action → Act
act_of b Byte = bytes (b ∷ [])
act_of b (Node n) = effect n

-- they make the same of every state
abbrev pub MakeSame : List MNode → List Act → List Act → Type 0
MakeSame nodes xs ys = (s : ActingState) → after_acts nodes xs s ≡ after_acts nodes ys s
