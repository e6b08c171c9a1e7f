use Rattle.std.proofs.Common.{take, sym, subst, ◌∙◌, arith}
use Rattle.kex_cover.specs.Searches.{HasEnd}
use Rattle.kex_cover.proofs.MarkedPlaces.{get_among, one_more, no_end_more}
use Rattle.kex_cover.proofs.met_sets.holds_end.Goals as goal

pub node_at-requires : goal.node_at-requires
node_at-requires c = c.requires _ (get_among c.args.places.now c.loop-place.place-index (omega arith))

pub returns-then-is_end : goal.returns-then-is_end
returns-then-is_end c = (_, get_among c.args.places.now c.loop-place.place-index (omega arith), c.node_at.ensures ∙ c.if-is_end.ensures)

pub loop-place-preserved : goal.loop-place-preserved
loop-place-preserved c = λ h. no_end_more c.args.nodes.now (take c.loop-place.place-index c.args.places.now) _ c.loop-place.invariant (λ e. c.if-is_end.ensures (sym c.node_at.ensures ∙ e)) (subst (λ z. HasEnd c.args.nodes.now z) (one_more c.args.places.now c.loop-place.place-index (omega arith)) h)
