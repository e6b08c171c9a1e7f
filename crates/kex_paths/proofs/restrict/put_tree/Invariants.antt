use Rattle.std.proofs.Common.{◌≡◌, ℕ, ◌≤◌, [], ◌∷◌, false, get_or, length}
use Rattle.kex_model.specs.Labelled.{Grown, shape_of}
use Rattle.kex_sst.specs.declared.parts.Part.{Part}
use Rattle.kex_paths.specs.Forests.{HasTrees}
use Rattle.kex_paths.specs.KeptLeaves.{restrict_each, trees_behind}
use Rattle.kex_paths.specs.Nexts.{IsChange}
use Rattle.kex_paths.specs.Tasks.{tokens}
use Rattle.kex_paths.proofs.restrict.put_tree.Given as goal

abbrev pub invariant-loop-left : goal.invariant-loop-left
invariant-loop-left l = record {
  within : l.left ≤ length l.tokens;
  grown : (a : Grown Part ℕ) → l.tokens ≡ tokens (shape_of a.tree) → IsChange l.update a → HasTrees l.forest (restrict_each (λ p. get_or l.keep p false) (trees_behind l.left (a ∷ [])));
}

abbrev pub decreases-loop-left : goal.decreases-loop-left
decreases-loop-left l = l.left
