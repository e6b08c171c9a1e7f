use Rattle.std.proofs.Common.{◌<◌, length, subst, sym}
use Rattle.kex_cover.specs.Searches.{IsListOf}
use Rattle.kex_cover.proofs.MarkedPlaces.{onward, set_listed}
use Rattle.kex_cover.proofs.sets.set_of.Goals as goal

pub mark_all-requires-clause-places : goal.mark_all-requires-clause-places
mark_all-requires-clause-places c = λ p i. subst (λ z. p < length z) (sym c.nodes-nodes.ensures.same) (c.requires.places p i).0

pub returns-clause-set : goal.returns-clause-set
returns-clause-set c =
    onward _ _ c.marked_places.result
    (λ set h. set_listed c.args.machine.now c.args.places.now c.mark_all.new.row set.items c.requires.places c.mark_all.ensures.marked (subst (λ z. IsListOf z c.mark_all.new.row set.items) c.nodes-nodes.ensures.same h))
    c.marked_places.ensures

pub returns-clause-within : goal.returns-clause-within
returns-clause-within c = onward _ _ c.marked_places.result (λ set h. λ q i. subst (λ z. q < length z) c.nodes-nodes.ensures.same (h.real q i).0) c.marked_places.ensures
