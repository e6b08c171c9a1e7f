use Rattle.std.proofs.Common.{[], length, refl, sym, subst}
use Rattle.kex_machine.specs.Nodes.{node_moves}
use Rattle.kex_frontier.specs.Edges.{HasCodeTrees, as_is}
use Rattle.kex_frontier.proofs.AdvanceLoop.{tips_start, tips_left, tip_first, ends_start, ends_edge}
use Rattle.kex_frontier.proofs.grow.accept.Goals as goal

pub loop-edge-init : goal.loop-edge-init
loop-edge-init c = record {
  tips = tips_start (length c.args.nodes.now) c.reverse.new.self.items c.args.tree.now.items c.reverse.ensures.items c.requires;
  ends = λ t is. ends_start (node_moves c.args.nodes.now) t c.reverse.new.self.items c.args.tree.now.items c.clear.new.self c.reverse.ensures.items (subst (λ z. HasCodeTrees as_is z []) (sym c.clear.ensures) (refl, refl)) is;
}

pub end_edge-requires : goal.end_edge-requires
end_edge-requires c = tip_first (length c.args.nodes.now) c.loop-edge.tree.items c.pop.new.self.items c.in-Some.edge c.in-Some.ensures.items c.loop-edge.invariant.tips

pub loop-edge-preserved : goal.loop-edge-preserved
loop-edge-preserved c = record {
  tips = tips_left (length c.args.nodes.now) c.loop-edge.tree.items c.pop.new.self.items c.in-Some.edge c.in-Some.ensures.items c.loop-edge.invariant.tips;
  ends = λ t is. ends_edge (node_moves c.args.nodes.now) t c.loop-edge.tree.items c.pop.new.self.items c.in-Some.edge c.loop-edge.found c.end_edge.new.found c.put_label.new.self c.in-Some.ensures.items c.in_ok-end_edge.ensures c.in_ok-put_label.ensures (c.loop-edge.invariant.ends t is);
}
