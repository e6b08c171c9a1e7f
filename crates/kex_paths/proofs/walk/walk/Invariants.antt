use Rattle.std.proofs.Common.{◌≡◌, ◌+◌, ◌-◌, ◌*◌, ◌≤◌, [], ◌∷◌, length, vec_len}
use Rattle.kex_machine.specs.Nodes.{node_moves}
use Rattle.kex_machine.proofs.Sizes.{unseen}
use Rattle.kex_paths.specs.Tasks.{EachTask, ShapedTask, task_of, tokens_left}
use Rattle.kex_paths.proofs.WalkLoop.{Keeps}
use Rattle.kex_paths.proofs.walk.walk.Given as goal

abbrev pub invariant-loop-task : goal.invariant-loop-task
invariant-loop-task l = record {
  long : length l.marks ≡ length l.nodes;
  within : l.cursor ≤ length l.tokens;
  each_task : EachTask (length l.nodes) l.tasks.items;
  keeps : (j : ShapedTask) → task_of j ≡ l.fn.first → l.tokens ≡ tokens_left (j ∷ []) → Keeps (node_moves l.nodes) l.byte (length l.nodes) l.tokens (j ∷ []) l.cursor l.marks l.tasks.items l.forest;
}

-- each place is met once and then five tasks are put on the stack at most, and at most four for a node of the old tree
abbrev pub decreases-loop-task : goal.decreases-loop-task
decreases-loop-task l = 6 * unseen l.marks + 4 * (length l.tokens - l.cursor) + vec_len l.tasks
