use Rattle.std.proofs.Common.{◌≡◌, ◌+◌, ◌*◌, length, vec_len}
use Rattle.kex_machine.specs.Nodes.{node_moves}
use Rattle.kex_machine.proofs.Sizes.{unseen}
use Rattle.kex_frontier.proofs.VisitLoop.{Keeps, EachTask}
use Rattle.kex_frontier.proofs.visit.walk.Given as goal

abbrev pub invariant-loop-task : goal.invariant-loop-task
invariant-loop-task l = record {
  long : length l.marks ≡ length l.nodes;
  each_task : EachTask (length l.nodes) l.tasks.items;
  keeps : Keeps (node_moves l.nodes) l.first l.fn.tools.marks l.marks l.tasks.items l.fresh;
}

abbrev pub decreases-loop-task : goal.decreases-loop-task
decreases-loop-task l = 6 * unseen l.marks + vec_len l.tasks
