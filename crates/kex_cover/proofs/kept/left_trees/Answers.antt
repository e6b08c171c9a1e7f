use Rattle.std.proofs.Common.{◌≡◌, ℕ, ◌+◌, List, Some, take, sym, ap, subst, ◌∙◌, arith}
use Rattle.std.specs.Prelude.{slice_get}
use Rattle.std.proofs.lemmas.Option.{slice_get-get_or}
use Rattle.kex_model.specs.Labelled.{Shape}
use Rattle.kex_determine.specs.Determined.{AreStateTrees}
use Rattle.kex_cover.specs.declared.fault.CoverFault.TheVariants.{Memory}
use Rattle.kex_cover.specs.Keeping.{AreLeftTrees, OneAsksMore}
use Rattle.kex_cover.specs.Optimal.{AsksAtMost}
use Rattle.kex_cover.specs.Searches.{RefusesPairs}
use Rattle.kex_cover.proofs.LeftStates.{asks_more, asks_whole, left_more, left_whole, one_asks, tree_state}
use Rattle.kex_cover.proofs.PairSteps.{err_as, refuses_more}
use Rattle.kex_cover.proofs.kept.left_trees.Goals as goal
use Rattle.kex_cover.proofs.kept.left_trees.Goals.{After-tree-item}

at : (c : After-tree-item) → slice_get c.args.trees.now c.loop-tree.tree-index ≡ Some c.tree-item.result
at c = slice_get-get_or c.args.trees.now c.loop-tree.tree-index c.tree-item.result (omega arith) ∙ ap (λ z. Some z) (sym c.tree-item.is)

pub left_of-requires-clause-state : goal.left_of-requires-clause-state
left_of-requires-clause-state c =
    let top = (goal.at.left_of-requires-clause-state c).After-tree-item in
    let s = c.requires.states in
    tree_state c.args.machine.now s.0 c.args.trees.now s.1 s.2 c.loop-tree.tree-index c.tree-item.result (at top)

pub returns-in_err-left-clause-refused : goal.returns-in_err-left-clause-refused
returns-in_err-left-clause-refused c =
    let top = (goal.at.returns-in_err-left-clause-refused c).After-tree-item in
    let g = c.args.machine.now in
    let err = c.in_err-left.field-0.0 in
    let more : RefusesPairs c.loop-tree.questions.pairs.most ((shapes : List (Shape ℕ)) → AreStateTrees g shapes c.args.trees.now → OneAsksMore g c.loop-tree.questions.pairs.most shapes) err =
    refuses_more c.loop-tree.questions.pairs.most err (λ h shapes are. one_asks g shapes c.args.trees.now are c.loop-tree.questions.pairs.most c.loop-tree.tree-index c.tree-item.result (at top) h) c.in_err-left.ensures.refused in
    err_as _ c.from_residual-in_err-left.result err c.from_residual-in_err-left.ensures.1 (subst (λ m. RefusesPairs m ((shapes : List (Shape ℕ)) → AreStateTrees g shapes c.args.trees.now → OneAsksMore g m shapes) err) c.loop-tree.invariant.most more)

pub returns-in_err-push-clause-refused : goal.returns-in_err-push-clause-refused
returns-in_err-push-clause-refused c = err_as (RefusesPairs c.args.max_pairs ((shapes : List (Shape ℕ)) → AreStateTrees c.args.machine.now shapes c.args.trees.now → OneAsksMore c.args.machine.now c.args.max_pairs shapes)) c.from_residual-in_err-push.result Memory c.from_residual-in_err-push.ensures.1 tt

pub loop-tree-preserved : goal.loop-tree-preserved
loop-tree-preserved c =
    let top = (goal.at.loop-tree-preserved c).After-tree-item in
    let g = c.args.machine.now in
    let n = c.loop-tree.tree-index in
    let done = c.in_ok-left.ensures in
    record {
      left = λ shapes are. subst (λ z. AreLeftTrees g (take (n + 1) shapes) z) (sym c.in_ok-push.ensures.items) (left_more g shapes c.args.trees.now are n c.tree-item.result c.in_ok-left.left c.loop-tree.lefts.items (at top) (c.loop-tree.invariant.left shapes are) done.left);
      asked = λ shapes are. asks_more g shapes c.args.trees.now are c.args.max_pairs n c.tree-item.result (at top) (c.loop-tree.invariant.asked shapes are) (subst (λ m. AsksAtMost g m c.tree-item.result.leaves) c.loop-tree.invariant.most done.count);
      kept = done.kept;
      most = done.most ∙ c.loop-tree.invariant.most;
      long = done.long ∙ c.loop-tree.invariant.long;
    }

pub returns-clause-left : goal.returns-clause-left
returns-clause-left c = λ shapes are. left_whole c.args.machine.now shapes c.args.trees.now are c.loop-tree.tree-index c.loop-tree.lefts.items (omega arith) (c.loop-tree.invariant.left shapes are)

pub returns-clause-count : goal.returns-clause-count
returns-clause-count c = λ shapes are. asks_whole c.args.machine.now shapes c.args.trees.now are c.args.max_pairs c.loop-tree.tree-index (omega arith) (c.loop-tree.invariant.asked shapes are)
