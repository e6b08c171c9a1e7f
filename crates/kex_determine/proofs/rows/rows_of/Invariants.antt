use Rattle.std.proofs.Common.{◌≡◌, ◌-◌, ◌≤◌, length}
use Rattle.kex_determine.specs.Filling.{IsFilled}
use Rattle.kex_determine.proofs.rows.rows_of.Given as goal

abbrev pub invariant-states : goal.invariant-states
invariant-states l = record {
  filled : IsFilled l.machine l.partition l.states.keys.keys l.states.trees.items l.rows.items;
  workspace : l.workspace ≡ l.machine;
  most : l.states.most ≡ l.initial.states.most;
  room : length l.states.trees.items ≤ l.states.most;
}

abbrev pub decreases-states : goal.decreases-states
decreases-states l = l.initial.states.most - length l.rows.items
