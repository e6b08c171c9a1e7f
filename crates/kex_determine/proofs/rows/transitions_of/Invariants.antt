use Rattle.std.proofs.Common.{◌≡◌, ℕ, ◌<◌, ◌≤◌, List, Some, length}
use Rattle.std.specs.Prelude.{All, slice_get}
use Rattle.kex_model.specs.Labelled.{Shape}
use Rattle.kex_determine.specs.Numbering.{AreNumbered, AreTransitionsTo}
use Rattle.kex_determine.proofs.rows.transitions_of.Given as goal

abbrev pub invariant-loop-class : goal.invariant-loop-class
invariant-loop-class l = record {
  so_far : (xs : List (Shape ℕ)) (s : Shape ℕ) → AreNumbered l.initial.workspace l.initial.states.keys.keys l.initial.states.trees.items xs → slice_get xs l.at ≡ Some s → (ys : List (Shape ℕ)) × AreTransitionsTo l.class l.workspace l.partition l.states.keys.keys l.states.trees.items xs ys s l.go;
  long : length l.go ≡ l.class;
  workspace : l.workspace ≡ l.initial.workspace;
  most : l.states.most ≡ l.initial.states.most;
  within : length l.states.trees.items ≤ l.states.most;
  earlier : All (λ k. k < l.class) l.walked.items;
}
