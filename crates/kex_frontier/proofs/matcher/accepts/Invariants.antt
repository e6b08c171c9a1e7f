use Rattle.std.proofs.Common.{◌≡◌, ℕ, ◌<◌, ◌≤◌, length, true}
use Rattle.kex_model.specs.Moves.{accept}
use Rattle.kex_machine.specs.Nodes.{node_moves}
use Rattle.kex_frontier.specs.Rows.{has_mark}
use Rattle.kex_frontier.proofs.matcher.accepts.Given as goal

abbrev pub invariant-places : goal.invariant-places
invariant-places l = record { within : l.left ≤ length l.nodes; none : (n : ℕ) → l.left ≤ n → n < length l.nodes → has_mark l.row n ≡ true → node_moves l.nodes n ≡ accept → ⊥ }

abbrev pub decreases-places : goal.decreases-places
decreases-places l = l.left
