use Rattle.std.proofs.Common.{◌≡◌, suc, ◌+◌, ◌<◌, [], ◌∷◌, Some, length, sym, ap, subst, ◌∙◌, arith}
use Rattle.kex_machine.specs.Nodes.{MoveBelow, node_moves, move_of}
use Rattle.kex_machine.proofs.Ranges.{stays_within}
use Rattle.kex_tabfile.specs.PlaceNumbers.{WalksPlaces, begins, leaves, MeetsPlaces, nexts_of}
use Rattle.kex_tabfile.proofs.PlaceOrders.{order_fits, first_met, place_read, meets_grow}
use Rattle.kex_tabfile.proofs.places.number_places.Goals as goal

pub loop-left-init : goal.loop-left-init
loop-left-init c = record {
  walked = subst (λ z. WalksPlaces c.args.machine.now 0 z) (sym (first_met c.in_ok-places.places.order.items c.meet.new.self.order.items c.start.result c.in_ok-places.ensures.none c.in_ok-meet.ensures.met ∙ ap (λ z. z ∷ []) c.start.ensures)) begins;
  order = c.in_ok-meet.ensures.order;
  long = c.in_ok-meet.ensures.long ∙ c.in_ok-places.ensures.long;
  within = omega arith;
}

pub node_at-requires : goal.node_at-requires
node_at-requires c =
    let o = c.loop-left.invariant in
    let r = place_read c.loop-left.places.order.items c.loop-left.places.numbers.items c.loop-left.left c.index-place.result.now o.order (omega (arith, c.loop-left-test.true, c.len.ensures, c.loop-left.places.order.ok.0)) c.index-place.ensures in
    omega (arith, r.0, o.long)

pub leave-requires-clause-node : goal.leave-requires-clause-node
leave-requires-clause-node c =
    let o = c.loop-left.invariant in
    let r = place_read c.loop-left.places.order.items c.loop-left.places.numbers.items c.loop-left.left c.index-place.result.now o.order (omega (arith, c.loop-left-test.true, c.len.ensures, c.loop-left.places.order.ok.0)) c.index-place.ensures in
    let below = stays_within c.args.machine.now c.nodes-nodes.ensures.in_range c.index-place.result.now (omega (arith, r.0, o.long, ap length c.nodes-nodes.ensures.same)) in
    let same : node_moves c.args.machine.now.nodes c.index-place.result.now ≡ move_of (Some c.node_at.result.now) = sym (ap (λ z. node_moves z c.index-place.result.now) c.nodes-nodes.ensures.same) ∙ c.node_at.ensures in
    let long : length c.args.machine.now.nodes ≡ length c.loop-left.places.numbers.items = omega (arith, o.long, ap length c.nodes-nodes.ensures.same) in
    subst (λ n. MoveBelow n (move_of (Some c.node_at.result.now))) long (subst (λ z. MoveBelow (length c.args.machine.now.nodes) z) same below)

pub loop-left-smaller : goal.loop-left-smaller
loop-left-smaller c =
    let o = c.loop-left.invariant in
    let fits = order_fits c.loop-left.places.order.items c.loop-left.places.numbers.items o.order in
    omega (arith, fits, o.long, c.loop-left-test.true, c.len.ensures, c.loop-left.places.order.ok.0)

pub loop-left-preserved : goal.loop-left-preserved
loop-left-preserved c =
    let o = c.loop-left.invariant in
    let lt : c.loop-left.left < length c.loop-left.places.order.items = omega (arith, c.loop-left-test.true, c.len.ensures, c.loop-left.places.order.ok.0) in
    let r = place_read c.loop-left.places.order.items c.loop-left.places.numbers.items c.loop-left.left c.index-place.result.now o.order lt c.index-place.ensures in
    let met : MeetsPlaces c.loop-left.places.order.items (nexts_of (node_moves c.args.machine.now.nodes c.index-place.result.now)) c.leave.new.self.order.items = subst (λ z. MeetsPlaces c.loop-left.places.order.items (nexts_of z) c.leave.new.self.order.items) (sym c.node_at.ensures ∙ ap (λ z. node_moves z c.index-place.result.now) c.nodes-nodes.ensures.same) c.in_ok-leave.ensures.met in
    let e : suc c.loop-left.left ≡ c.loop-left.left + 1 = omega arith in
    let more = meets_grow c.loop-left.places.order.items _ c.leave.new.self.order.items met in
    record {
      walked = subst (λ n. WalksPlaces c.args.machine.now n c.leave.new.self.order.items) e (leaves o.walked r.1 met);
      order = c.in_ok-leave.ensures.order;
      long = c.in_ok-leave.ensures.long ∙ o.long;
      within = omega (arith, lt, more);
    }
