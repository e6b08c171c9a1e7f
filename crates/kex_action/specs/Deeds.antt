-- What is done where an action was looked up beforehand.
use Rattle.std.specs.Prelude.{ℕ, List, [], ◌∷◌}
use Rattle.kex_model.specs.Moves.{open_buffer, drop_buffer, into, write}
use Rattle.kex_model.specs.Acting.{ActingState, after_effect}
use Rattle.kex_machine.specs.declared.MNode.{MNode}
use Rattle.kex_machine.specs.Nodes.{node_moves}
use Rattle.kex_action.specs.Holdings.{with_bytes}
use Rattle.kex_action.specs.Actions.{after_move}
use Rattle.kex_action.specs.declared.deed.Deed.{Deed}
use Rattle.kex_action.specs.declared.deed.Deed.TheVariants.{Byte, Put, Open, Drop, Into, Write}
use Rattle.kex_action.specs.declared.deed.Deed.TheVariants.{Node}

-- what a deed makes of a state, where the byte b is read
abbrev pub after_deed : List MNode → ℕ → Deed → ActingState → ActingState
after_deed nodes b Byte s = with_bytes (b ∷ []) s
after_deed nodes b (Put x) s = with_bytes (x ∷ []) s
after_deed nodes b Open s = after_effect open_buffer s
after_deed nodes b Drop s = after_effect drop_buffer s
after_deed nodes b (Into r) s = after_effect (into r) s
after_deed nodes b (Write r) s = after_effect (write r) s
after_deed nodes b (Node n) s = after_move (node_moves nodes n) s

-- one deed after another
abbrev pub after_deeds : List MNode → ℕ → List Deed → ActingState → ActingState
after_deeds nodes b [] s = s
after_deeds nodes b (d ∷ deeds) s = after_deeds nodes b deeds (after_deed nodes b d s)
