use Rattle.std.proofs.Common.{◌<◌, [], length, refl, sym, subst}
use Rattle.std.specs.Prelude.{IfSome}
use Rattle.kex_machine.specs.Nodes.{node_moves}
use Rattle.kex_frontier.specs.Edges.{HasCodeTrees, as_is, with_fork}
use Rattle.kex_frontier.proofs.AdvanceLoop.{tips_start, tips_left, tip_first, grows_start, grows_tip, grows_fork}
use Rattle.kex_frontier.proofs.grow.advance.Goals as goal

pub loop-edge-init : goal.loop-edge-init
loop-edge-init c = record {
  long = c.requires.long;
  tips = tips_start (length c.args.nodes.now) c.reverse.new.self.items c.args.tree.now.items c.reverse.ensures.items c.requires.tree;
  grows = λ t is. grows_start (node_moves c.args.nodes.now) c.args.byte c.args.tools.now.marks t c.reverse.new.self.items c.args.tree.now.items c.clear.new.self c.reverse.ensures.items (subst (λ z. HasCodeTrees as_is z []) (sym c.clear.ensures) (refl, refl)) is;
}

pub advance_tip-requires-clause-below : goal.advance_tip-requires-clause-below
advance_tip-requires-clause-below c = subst (λ z. IfSome z (λ p. p < length c.args.nodes.now)) c.in-Some-at.is (tip_first (length c.args.nodes.now) c.loop-edge.tree.items c.pop.new.self.items c.in-Some.edge c.in-Some.ensures.items c.loop-edge.invariant.tips)

pub loop-edge-preserved-in-Continue-1 : goal.loop-edge-preserved-in-Continue-1
loop-edge-preserved-in-Continue-1 c = record {
  long = c.in_ok-advance_tip-in-Some-at.ensures.long;
  tips = tips_left (length c.args.nodes.now) c.loop-edge.tree.items c.pop.new.self.items c.in-Some.edge c.in-Some.ensures.items c.loop-edge.invariant.tips;
  grows = λ t is. grows_tip (node_moves c.args.nodes.now) c.args.byte c.args.tools.now.marks t c.loop-edge.tools.marks c.advance_tip.new.tools.marks c.loop-edge.tree.items c.pop.new.self.items c.in-Some.edge c.in-Some-at.place c.loop-edge.grown c.advance_tip.new.grown c.in-Some.ensures.items c.in-Some-at.is c.in_ok-advance_tip-in-Some-at.ensures.tree (c.loop-edge.invariant.grows t is);
}

pub loop-edge-preserved : goal.loop-edge-preserved
loop-edge-preserved c = record {
  long = c.loop-edge.invariant.long;
  tips = tips_left (length c.args.nodes.now) c.loop-edge.tree.items c.pop.new.self.items c.in-Some.edge c.in-Some.ensures.items c.loop-edge.invariant.tips;
  grows = λ t is. grows_fork (node_moves c.args.nodes.now) c.args.byte c.args.tools.now.marks t c.loop-edge.tools.marks c.loop-edge.tree.items c.pop.new.self.items c.in-Some.edge c.loop-edge.grown c.put_label.new.self c.in-Some.ensures.items c.in-None.is (λ rs has. c.in_ok-put_label-in-None.ensures (with_fork rs) (c.in_ok-merge-in-None.ensures as_is rs refl has)) (c.loop-edge.invariant.grows t is);
}
