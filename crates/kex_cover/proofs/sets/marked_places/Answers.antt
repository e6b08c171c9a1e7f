use Rattle.std.proofs.Common.{◌<◌, length, sym, subst, arith}
use Rattle.kex_model.specs.Moves.{IsWaiting}
use Rattle.kex_cover.proofs.MarkedPlaces.{IsListedFrom, listed_more, listed_past}
use Rattle.kex_cover.proofs.sets.marked_places.Goals as goal

pub places-preserved-in_ok-push : goal.places-preserved-in_ok-push
places-preserved-in_ok-push c =
    let top = (c.in-Some.ensures {u = tt}).some in
    let lt : c.in-Some.n < length c.args.nodes.now = omega (arith, top.below, c.places.invariant.within) in
    record {
      within = omega (arith, lt);
      listed = subst (λ z. IsListedFrom c.args.nodes.now c.args.row.now c.in-Some.n z) (sym (c.in_ok-push.ensures {u = tt}).items)
          (listed_more c.args.nodes.now c.args.row.now c.places.left c.in-Some.n c.places.places.items c.places.invariant.listed top lt (subst (λ z. IsWaiting z) (sym c.node_at.ensures) (c.waits.ensures.0 c.if-waits.true)));
    }

pub places-preserved : goal.places-preserved
places-preserved c =
    let top = (c.in-Some.ensures {u = tt}).some in
    record {
      within = omega (arith, top.below, c.places.invariant.within);
      listed = listed_past c.args.nodes.now c.args.row.now c.places.left c.in-Some.n c.places.places.items c.places.invariant.listed top
          (λ w. let busy = c.waits.ensures.1 (subst (λ z. IsWaiting z) c.node_at.ensures w) in grind (arith, busy, c.if-waits.false));
    }
