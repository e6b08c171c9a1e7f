-- What is done along a walk where a byte is read.
use Rattle.std.specs.Prelude.{ℕ, List, [], ◌∷◌}
use Rattle.kex_model.specs.Moves.{Move, accept, read, choose, forced, go}
use Rattle.kex_model.specs.Acting.{ActingState, after_effect}
use Rattle.kex_machine.specs.declared.MNode.{MNode}
use Rattle.kex_machine.specs.Nodes.{node_moves}
use Rattle.kex_action.specs.Holdings.{with_bytes}
use Rattle.kex_action.specs.declared.action.Action.{Action}
use Rattle.kex_action.specs.declared.action.Action.TheVariants.{Byte, Node}

-- what a step from a node without a symbol makes of a state, if there is one
abbrev pub after_move : Move ℕ → ActingState → ActingState
after_move accept s = s
after_move (read set t) s = s
after_move (choose l r) s = s
after_move (forced x t) s = s
after_move (go e t) s = after_effect e s

abbrev pub after_action : List MNode → ℕ → Action → ActingState → ActingState
after_action nodes b Byte s = with_bytes (b ∷ []) s
after_action nodes b (Node n) s = after_move (node_moves nodes n) s

-- one action after another, where the byte b is read
abbrev pub after_actions : List MNode → ℕ → List Action → ActingState → ActingState
after_actions nodes b [] s = s
after_actions nodes b (a ∷ actions) s = after_actions nodes b actions (after_action nodes b a s)
