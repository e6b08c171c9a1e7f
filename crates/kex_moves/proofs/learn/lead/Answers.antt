use Rattle.std.proofs.Common.{IfSome, subst}
use Rattle.kex_action.specs.Actions.{after_actions}
use Rattle.kex_moves.specs.Known.{HasRowFor, Settles}
use Rattle.kex_moves.proofs.KnownEdges.{known_wider, known_longer, grows_wider, grows_longer, led, led_silent}
use Rattle.kex_moves.proofs.learn.lead.Goals as goal

pub returns-in_default-clause-known : goal.returns-in_default-clause-known
returns-in_default-clause-known c = λ t state known.
    let w = c.in_ok-row.ensures {u = tt} in
    known_wider t c.args.machine.now c.args.edges.now c.row_of.new.self c.args.state c.args.learnt.now.to known w.wider w.ordered state c.requires

pub returns-in_default-clause-grows : goal.returns-in_default-clause-grows
returns-in_default-clause-grows c = grows_wider c.args.edges.now c.row_of.new.self c.args.state c.args.learnt.now.to (c.in_ok-row.ensures {u = tt}).wider

pub returns-in_default-clause-led : goal.returns-in_default-clause-led
returns-in_default-clause-led c = led_silent c.args.machine.now.nodes c.row_of.new.self c.args.state c.args.learnt.now.to c.args.learnt.now.actions.items c.plain.result c.plain.ensures

pub returns-clause-known : goal.returns-clause-known
returns-clause-known c = λ t state known.
    let w = c.in_ok-row.ensures {u = tt} in
    let mid = known_wider t c.args.machine.now c.args.edges.now c.row_of.new.self c.args.state c.args.learnt.now.to known w.wider w.ordered state c.requires in
    let l = c.in_ok-edge.ensures {u = tt} in
    known_longer t c.args.machine.now c.row_of.new.self c.settle.new.edges mid l.longer l.ordered

pub returns-clause-grows : goal.returns-clause-grows
returns-clause-grows c = grows_longer c.args.edges.now c.row_of.new.self c.settle.new.edges (grows_wider c.args.edges.now c.row_of.new.self c.args.state c.args.learnt.now.to (c.in_ok-row.ensures {u = tt}).wider) (c.in_ok-edge.ensures {u = tt}).longer

pub returns-clause-led : goal.returns-clause-led
returns-clause-led c =
    let mid = c.row_of.new.self in
    let new = c.settle.new.edges in
    let l = c.in_ok-edge.ensures {u = tt} in
    let row = subst (λ o. IfSome o (λ row. HasRowFor mid row c.args.state c.args.learnt.now.to)) c.in-Some.is (c.in_ok-row.ensures {u = tt}).row in
    led c.args.machine.now.nodes mid new c.args.state c.args.learnt.now.to c.in-Some.row c.args.learnt.now.actions.items c.in_ok-edge.edge l.ordered row l.longer (subst (λ actions. Settles c.args.machine.now.nodes new c.in-Some.row (λ b. after_actions c.args.machine.now.nodes b actions) c.in_ok-edge.edge) c.deref.ensures.value l.settles)
