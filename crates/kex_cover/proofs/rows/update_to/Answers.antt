use Rattle.std.proofs.Common.{false, get_or}
use Rattle.kex_cover.proofs.LeftLeaves.{some_is}
use Rattle.kex_cover.proofs.LeftWays.{ComesNext, comes_next, next_tree, some_next, some_rest, updated}
use Rattle.kex_cover.proofs.rows.update_to.Goals as goal
use Rattle.kex_cover.proofs.rows.update_to.Goals.{In_ok-next}

comes : (c : In_ok-next) → ComesNext c.args.tools.now.workspace c.args.from.now c.args.class c.in_ok-next.next
comes c = comes_next c.args.tools.now.workspace c.args.from.now c.args.class c.requires.from c.in_ok-next.next c.in_ok-next.ensures.machine c.in_ok-next.ensures.next

pub unwrap-tree-requires : goal.unwrap-tree-requires
unwrap-tree-requires c =
    let top = (goal.at.unwrap-tree-requires c).In_ok-next in
    some_is c.in_ok-next.next (some_next c.args.tools.now.workspace c.args.from.now c.args.class c.args.to.now.leaves (λ p. get_or c.mark_leaves.new.marks p false) c.mark_leaves.ensures.marked c.requires.keeps c.in_ok-next.next (comes top))

pub restricted-requires-clause-tree : goal.restricted-requires-clause-tree
restricted-requires-clause-tree c =
    let top = (goal.at.restricted-requires-clause-tree c).In_ok-next in
    next_tree c.args.tools.now.workspace c.args.from.now c.args.class c.args.to.now.leaves (λ p. get_or c.mark_leaves.new.marks p false) c.mark_leaves.ensures.marked c.requires.keeps c.in_ok-next.next c.unwrap-tree.result.0 c.unwrap-tree.result.1 (comes top) c.unwrap-tree.ensures

pub unwrap-tree-requires-2 : goal.unwrap-tree-requires-2
unwrap-tree-requires-2 c =
    let top = (goal.at.unwrap-tree-requires-2 c).In_ok-next in
    some_is c.in_ok-left.left (some_rest c.args.tools.now.workspace c.args.from.now c.args.class c.args.to.now.leaves (λ p. get_or c.mark_leaves.new.marks p false) c.mark_leaves.ensures.marked c.requires.keeps c.in_ok-next.next c.unwrap-tree.result.0 c.unwrap-tree.result.1 (comes top) c.unwrap-tree.ensures c.in_ok-left.left c.in_ok-left.ensures.left)

pub returns-clause-update : goal.returns-clause-update
returns-clause-update c =
    let top = (goal.at.returns-clause-update c).In_ok-next in
    updated c.args.tools.now.workspace c.args.from.now c.args.class c.args.to.now.leaves (λ p. get_or c.mark_leaves.new.marks p false) c.mark_leaves.ensures.marked c.requires.keeps c.in_ok-next.next c.unwrap-tree.result.0 c.unwrap-tree.result.1 (comes top) c.unwrap-tree.ensures c.in_ok-left.left c.unwrap-tree-2.result.0 c.unwrap-tree-2.result.1 c.in_ok-left.ensures.left c.unwrap-tree-2.ensures
