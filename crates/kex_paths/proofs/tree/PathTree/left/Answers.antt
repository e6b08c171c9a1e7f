use Rattle.std.proofs.Common.{◌≡◌, ◌-◌, ◌≤◌, false, get_or, length, ap, subst, arith}
use Rattle.kex_paths.specs.KeptLeaves.{IsRestricted}
use Rattle.kex_paths.proofs.LeftTrees.{IsTreeWith, some_node, bare_tree, left_none, left_some}
use Rattle.kex_paths.proofs.tree.PathTree.left.Goals as goal

pub overflow_sub-shape : goal.overflow_sub-shape
overflow_sub-shape c = some_node c.args.self.now c.shape.result.now c.shape.ensures.same c.shape.ensures.tree

pub restricted-requires-clause-tree : goal.restricted-requires-clause-tree
restricted-requires-clause-tree c =
    let some : 1 ≤ length c.shape.result.now = some_node c.args.self.now c.shape.result.now c.shape.ensures.same c.shape.ensures.tree in
    let long : length c.shape.result.now ≡ length c.args.self.now.shape = ap length c.shape.ensures.same in
    bare_tree c.args.self.now c.in_ok-update.update (length c.shape.result.now - 1) c.shape.ensures.tree (omega (arith, some, long)) c.in_ok-update.ensures

pub returns-in_default-clause-left : goal.returns-in_default-clause-left
returns-in_default-clause-left c =
    let some : 1 ≤ length c.shape.result.now = some_node c.args.self.now c.shape.result.now c.shape.ensures.same c.shape.ensures.tree in
    let long : length c.shape.result.now ≡ length c.args.self.now.shape = ap length c.shape.ensures.same in
    let tree : IsTreeWith c.args.self.now c.in_ok-update.update = bare_tree c.args.self.now c.in_ok-update.update (length c.shape.result.now - 1) c.shape.ensures.tree (omega (arith, some, long)) c.in_ok-update.ensures in
    left_none (λ p. get_or c.args.keep.now p false) c.args.self.now c.in_ok-update.update tree (subst (λ r. IsRestricted (λ p. get_or c.args.keep.now p false) c.args.self.now c.in_ok-update.update r) c.in_default.is c.in_ok-next.ensures.left)

pub returns-clause-left : goal.returns-clause-left
returns-clause-left c =
    let some : 1 ≤ length c.shape.result.now = some_node c.args.self.now c.shape.result.now c.shape.ensures.same c.shape.ensures.tree in
    let long : length c.shape.result.now ≡ length c.args.self.now.shape = ap length c.shape.ensures.same in
    let tree : IsTreeWith c.args.self.now c.in_ok-update.update = bare_tree c.args.self.now c.in_ok-update.update (length c.shape.result.now - 1) c.shape.ensures.tree (omega (arith, some, long)) c.in_ok-update.ensures in
    left_some (λ p. get_or c.args.keep.now p false) c.args.self.now c.in_ok-update.update c.in-Some.tree c.in-Some._update tree (subst (λ r. IsRestricted (λ p. get_or c.args.keep.now p false) c.args.self.now c.in_ok-update.update r) c.in-Some.is c.in_ok-next.ensures.left)
