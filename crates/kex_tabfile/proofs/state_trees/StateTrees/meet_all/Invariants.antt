use Rattle.std.proofs.Common.{◌≡◌, ℕ, ◌≤◌, List, Some, drop, length}
use Rattle.std.specs.Prelude.{slice_get}
use Rattle.kex_model.specs.Labelled.{Shape}
use Rattle.kex_determine.specs.Determined.{MeetsInOrder, targets_of}
use Rattle.kex_tabfile.specs.Writing.{AreFirstTrees, AreTreesOf, EachGoesOn}
use Rattle.kex_tabfile.proofs.state_trees.StateTrees.meet_all.Given as goal

abbrev pub invariant-loop-class : goal.invariant-loop-class
invariant-loop-class l = record {
  numbers : l.self.numbers ≡ l.fn.self.numbers;
  workspace : l.self.workspace ≡ l.fn.self.workspace;
  machine : AreTreesOf l.fn.self.workspace l.self.trees.items;
  longer : length l.fn.self.trees.items ≤ length l.self.trees.items;
  met : (shapes : List (Shape ℕ)) (s : Shape ℕ) (n : ℕ) → AreFirstTrees shapes l.fn.self.trees.items → slice_get shapes l.state ≡ Some s → EachGoesOn l.fn.self.workspace shapes s l.go → MeetsInOrder (length l.fn.self.trees.items) (targets_of l.go) n → AreFirstTrees shapes l.self.trees.items × MeetsInOrder (length l.self.trees.items) (targets_of (drop l.class l.go)) n;
}
