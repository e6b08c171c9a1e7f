use Rattle.std.proofs.Common.{subst, sym}
use Rattle.kex_model.specs.Moves.{quiet}
use Rattle.kex_machine.specs.Nodes.{node_moves}
use Rattle.kex_frontier.specs.Rows.{IsHighestBelow, Opens}
use Rattle.kex_frontier.proofs.Closures.{going_on, going_less, going_ends}
use Rattle.kex_frontier.proofs.matcher.close.Goals as goal
use Rattle.kex_frontier.proofs.matcher.close.Goals.{After-mark_ways-end}

top : (c : After-mark_ways-end) → IsHighestBelow c.places.fresh c.places.end c.in-Some.n
top c = (c.in-Some.ensures {u = tt}).some

opened : (c : After-mark_ways-end) → Opens (quiet (node_moves c.args.nodes.now c.in-Some.n)) c.in-Some.n c.places.row c.unmark.new.self c.mark_ways-end.new.row c.mark_ways-end.new.fresh c.mark_ways-end.result
opened c = subst (λ z. Opens (quiet z) c.in-Some.n c.places.row c.unmark.new.self c.mark_ways-end.new.row c.mark_ways-end.new.fresh c.mark_ways-end.result) (sym c.node_at.ensures) c.mark_ways-end.ensures.opens

pub places-smaller : goal.places-smaller
places-smaller c =
    let at = (goal.at.places-smaller c).After-mark_ways-end in
    going_less c.args.nodes.now c.args.row.now c.places.row c.places.fresh c.unmark.new.self c.mark_ways-end.new.row c.mark_ways-end.new.fresh c.places.end c.in-Some.n c.mark_ways-end.result c.places.invariant (top at) c.unmark.ensures (opened at)

pub places-preserved : goal.places-preserved
places-preserved c =
    let at = (goal.at.places-preserved c).After-mark_ways-end in
    going_on c.args.nodes.now c.args.row.now c.places.row c.places.fresh c.unmark.new.self c.mark_ways-end.new.row c.mark_ways-end.new.fresh c.places.end c.in-Some.n c.mark_ways-end.result c.places.invariant (top at) c.unmark.ensures (opened at) c.mark_ways-end.ensures.within

pub returns-clause-closure : goal.returns-clause-closure
returns-clause-closure c = going_ends c.args.nodes.now c.args.row.now c.places.row c.places.fresh c.places.end c.places.invariant (c.in_default.ensures {u = tt}).none
