use Rattle.std.proofs.Common.{◌<◌, ◌++◌, ◌∷◌, [], ℕ, true, false, length, get_or, take, sym, ap, subst, ◌∙◌, arith, length-set}
use Rattle.std.proofs.lemmas.List.{length-replicate}
use Rattle.kex_code.specs.Codes.{IsAmong}
use Rattle.kex_cover.proofs.LeafMarks.{MarkNumbers, numbers_more, numbers_none}
use Rattle.kex_cover.proofs.LeftStates.{sound_places}
use Rattle.kex_cover.proofs.MarkedPlaces.{one_more, get_among, take_whole}
use Rattle.kex_cover.proofs.rows.mark_leaves.Goals as goal
use Rattle.kex_cover.proofs.rows.mark_leaves.Goals.{In-loop-place}

within : (c : In-loop-place) → get_or c.leaves-places.result.now c.loop-place.place-index 0 < length c.loop-place.marks
within c =
    let p : ℕ = get_or c.leaves-places.result.now c.loop-place.place-index 0 in
    let lt = sound_places c.args.tree.now.machine c.args.tree.now.shape c.args.tree.now.leaves c.shape-shape.ensures.sound p (subst (λ z. IsAmong z p) c.leaves-places.ensures (get_among c.leaves-places.result.now c.loop-place.place-index (omega arith))) in
    omega (arith, lt, c.loop-place.invariant.long, c.requires)

pub mark-requires : goal.mark-requires
mark-requires c = within (goal.at.mark-requires c).In-loop-place

pub loop-place-preserved : goal.loop-place-preserved
loop-place-preserved c =
    let top = (goal.at.loop-place-preserved c).In-loop-place in
    let places = c.leaves-places.result.now in
    let n = c.loop-place.place-index in
    record {
      long = ap length c.mark.ensures.marked ∙ length-set c.loop-place.marks (get_or places n 0) true ∙ c.loop-place.invariant.long;
      marked = subst (λ z. MarkNumbers z c.mark.new.self) (sym (one_more places n (omega arith))) (subst (λ z. MarkNumbers (take n places ++ get_or places n 0 ∷ []) z) (sym c.mark.ensures.marked) (numbers_more (take n places) (get_or places n 0) c.loop-place.marks c.loop-place.invariant.marked (within top)));
    }

pub loop-place-init : goal.loop-place-init
loop-place-init c = record { long = ap length c.clear.ensures ∙ length-replicate (length c.args.marks.now) false; marked = numbers_none c.leaves-places.result.now (length c.args.marks.now) c.clear.new.self c.clear.ensures }

pub returns-clause-marked : goal.returns-clause-marked
returns-clause-marked c = subst (λ z. MarkNumbers z c.loop-place.marks) (take_whole c.leaves-places.result.now c.loop-place.place-index (omega arith) ∙ c.leaves-places.ensures) c.loop-place.invariant.marked
