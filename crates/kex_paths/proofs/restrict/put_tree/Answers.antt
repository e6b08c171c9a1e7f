use Rattle.std.proofs.Common.{◌-◌, false, get_or, length, arith}
use Rattle.kex_paths.proofs.LeftTrees.{first_trees, next_trees}
use Rattle.kex_paths.proofs.WalkLoop.{tip_at}
use Rattle.kex_paths.proofs.restrict.put_tree.Goals as goal

pub loop-left-init : goal.loop-left-init
loop-left-init c = record {
  within = omega arith;
  grown = λ a e h. first_trees (λ p. get_or c.args.keep.now p false) a c.args.tokens.now c.args.forest.now e c.requires.none;
}

pub put_node-requires : goal.put_node-requires
put_node-requires c = tip_at (length c.args.keep.now) c.args.tokens.now (c.loop-left.left - 1) c.requires.tips (omega (arith, c.loop-left.invariant.within, c.loop-left-test.true))

pub loop-left-preserved : goal.loop-left-preserved
loop-left-preserved c = record {
  within = omega (arith, c.loop-left.invariant.within);
  grown = λ a e h. next_trees (λ p. get_or c.args.keep.now p false) a c.args.tokens.now c.args.update.now (c.loop-left.left - 1) c.loop-left.left c.label_at.result.now c.loop-left.forest c.put_node.new.forest c.put_label.new.forest e h (omega (arith, c.loop-left-test.true)) (omega (arith, c.loop-left-test.true, c.loop-left.invariant.within)) c.label_at.ensures c.in_ok-put_node.ensures c.in_ok-put_label.ensures (c.loop-left.invariant.grown a e h);
}
