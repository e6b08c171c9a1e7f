use Rattle.std.proofs.Common.{ℕ, ◌≤◌, List, ◌∷◌, Option, drop, length}
use Rattle.kex_model.specs.Labelled.{Grown, with_prefix}
use Rattle.kex_sst.specs.declared.parts.Part.{Part}
use Rattle.kex_paths.specs.Forests.{HasTrees}
use Rattle.kex_paths.proofs.restrict.put_label.Given as goal

abbrev pub invariant-loop-left : goal.invariant-loop-left
invariant-loop-left l = record {
  within : l.left ≤ length l.label;
  put : (t : Option (Grown Part ℕ)) (rs : List (Option (Grown Part ℕ))) → HasTrees l.fn.forest (t ∷ rs) → HasTrees l.forest (with_prefix (drop l.left l.label) t ∷ rs);
}

abbrev pub decreases-loop-left : goal.decreases-loop-left
decreases-loop-left l = l.left
