use Rattle.std.proofs.Common.{◌≡◌, ℕ, ◌++◌, length}
use Rattle.kex_model.specs.Labelled.{Shape}
use Rattle.kex_machine.specs.Advancing.{EachPlace}
use Rattle.kex_paths.specs.Nexts.{inner_of, places_of}
use Rattle.kex_tabfile.specs.Lines.{tree_text}
use Rattle.kex_tabfile.specs.TreeMarks.{WritesTree}
use Rattle.kex_tabfile.proofs.trees.push_tree.Given as goal

abbrev pub invariant-loop-inner : goal.invariant-loop-inner
invariant-loop-inner l = (s : Shape ℕ) → l.shape ≡ inner_of s → l.leaves ≡ places_of s → EachPlace (length l.numbers) s → WritesTree l.numbers (length l.numbers) l.shape l.leaves (l.fn.line.items ++ tree_text l.numbers s) l.inner-index l.leaf l.pending.items l.line.items
