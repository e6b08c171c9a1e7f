use Rattle.std.proofs.Common.{◌<◌, length, sym, subst}
use Rattle.kex_machine.specs.Nodes.{StaysWithin}
use Rattle.kex_machine.proofs.Ranges.{stays_within}
use Rattle.kex_cover.specs.Searches.{IsListOf, IsMarkedAfter}
use Rattle.kex_cover.proofs.MarkedPlaces.{onward, set_marked, stepped}
use Rattle.kex_cover.proofs.sets.set_after.Goals as goal

pub step-requires-clause-within : goal.step-requires-clause-within
step-requires-clause-within c = subst StaysWithin (sym c.nodes-nodes.ensures.same) (stays_within c.args.machine.now c.nodes-nodes.ensures.in_range)

pub returns-clause-set : goal.returns-clause-set
returns-clause-set c =
    let same = c.nodes-nodes.ensures.same in
    onward _ _ c.marked_places.result
    (λ set h. set_marked c.args.machine.now (stays_within c.args.machine.now c.nodes-nodes.ensures.in_range) c.args.from.now c.step.new.next set.items c.args.byte c.requires.places
    (subst (λ z. IsMarkedAfter z c.args.from.now c.args.byte c.step.new.next) same (stepped c.nodes-nodes.result.now c.args.byte c.args.from.now c.mark_all.new.row c.step.new.next c.mark_all.ensures.marked c.step.ensures.row))
    (subst (λ z. IsListOf z c.step.new.next set.items) same h))
    c.marked_places.ensures

pub returns-clause-within : goal.returns-clause-within
returns-clause-within c =
    let same = c.nodes-nodes.ensures.same in
    onward _ _ c.marked_places.result (λ set h. λ q i. subst (λ z. q < length z) same (h.real q i).0) c.marked_places.ensures
