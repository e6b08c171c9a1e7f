use Rattle.std.proofs.Common.{◌<◌, length, ap, arith}
use Rattle.kex_moves.proofs.KnownEdges.{known_wider}
use Rattle.kex_moves.proofs.learn.row_for.Goals as goal

pub returns-in-Some-clause-known : goal.returns-in-Some-clause-known
returns-in-Some-clause-known c = λ t states known. c.renew.ensures t c.args.machine.now known

pub returns-then-state-states-clause-known : goal.returns-then-state-states-clause-known
returns-then-state-states-clause-known c = λ t states known. c.renew.ensures t c.args.machine.now known

pub returns-clause-known : goal.returns-clause-known
returns-clause-known c = λ t states known.
    let w = c.in_ok-row.ensures {u = tt} in
    let state : c.args.state < length t.states = omega (arith, c.if-state-states.false, states) in
    let node : c.args.node < length c.args.machine.now.nodes = omega (arith, c.if-node-nodes.false, ap length c.nodes.ensures.same) in
    known_wider t c.args.machine.now c.renew.new.edges c.add.new.self c.args.state c.args.node (c.renew.ensures t c.args.machine.now known) w.wider w.ordered state node
