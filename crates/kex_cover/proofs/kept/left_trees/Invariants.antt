use Rattle.std.proofs.Common.{◌≡◌, ℕ, List, length, take}
use Rattle.kex_model.specs.Labelled.{Shape}
use Rattle.kex_determine.specs.Determined.{AreStateTrees}
use Rattle.kex_cover.specs.Keeping.{AreLeftTrees, AreQuestionsKept, EachAsksUpTo}
use Rattle.kex_cover.proofs.kept.left_trees.Given as goal

abbrev pub invariant-loop-tree : goal.invariant-loop-tree
invariant-loop-tree l = record {
  left : (shapes : List (Shape ℕ)) → AreStateTrees l.fn.machine shapes l.trees → AreLeftTrees l.fn.machine (take l.tree-index shapes) l.lefts.items;
  asked : (shapes : List (Shape ℕ)) → AreStateTrees l.fn.machine shapes l.trees → EachAsksUpTo l.fn.machine l.max_pairs (take l.tree-index shapes);
  kept : AreQuestionsKept l.fn.machine l.questions;
  most : l.questions.pairs.most ≡ l.max_pairs;
  long : length l.marks ≡ length l.fn.machine.nodes;
}
