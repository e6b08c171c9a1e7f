use Rattle.std.proofs.Common.{◌<◌, length, sym, subst}
use Rattle.kex_moves.proofs.along.act_rest.Goals as goal

pub hand_on-requires-clause-node : goal.hand_on-requires-clause-node
hand_on-requires-clause-node c =
    let to = c.requires.to in
    subst (λ p. p.node < length c.args.actor.now.machine.nodes) (sym (c.pair_at-node.ensures to.0 to.1)) to.2

pub act-requires-clause-node : goal.act-requires-clause-node
act-requires-clause-node c =
    let to = c.requires.to in
    subst (λ m. c.pair_at-node.result.node < length m.nodes) (sym c.hand_on.ensures.same.0) (subst (λ p. p.node < length c.args.actor.now.machine.nodes) (sym (c.pair_at-node.ensures to.0 to.1)) to.2)
