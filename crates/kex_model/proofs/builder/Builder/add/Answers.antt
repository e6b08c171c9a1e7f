use Rattle.std.proofs.Common.{length, subst, sym}
use Rattle.kex_model.specs.Programs.{HasBelow, IsInOrder}
use Rattle.kex_model.proofs.ChildOrder.{order_more}
use Rattle.kex_model.proofs.builder.Builder.add.Goals as goal

-- src/builder.rt:41:5
pub invariant_of-self-2 : goal.invariant_of-self-2
invariant_of-self-2 c = subst IsInOrder (sym c.in_ok-push.ensures.items) (order_more c.self.inside.nodes.items c.args.node c.self.invariant (subst (λ xs. HasBelow (length xs) c.args.node.kind) (sym c.self.view_is) c.requires))
