use Rattle.std.proofs.Common.{◌<◌, ◌/◌, ℕ, length, take, refl, sym, subst, ◌∙◌, arith}
use Rattle.kex_cover.specs.Searches.{AreMarksOf}
use Rattle.kex_cover.proofs.MarkedPlaces.{marked_none, marked_more, one_more, get_among, take_whole}
use Rattle.kex_cover.proofs.sets.mark_all.Goals as goal

in_words : (p n k : ℕ) → p < n → n / 64 < k → p / 64 < k
in_words p n k lt h = grind arith

pub mark-requires : goal.mark-requires
mark-requires c = in_words _ c.args.count (length c.loop-place.row) (c.requires.places _ (get_among c.args.places.now c.loop-place.place-index (omega arith))) (omega (arith, c.requires.room, c.loop-place.invariant.room, c.clear.ensures.room))

pub loop-place-init : goal.loop-place-init
loop-place-init c = record { room = refl; marked = marked_none c.clear.new.self c.clear.ensures.none }

pub loop-place-preserved : goal.loop-place-preserved
loop-place-preserved c = record {
  room = c.mark.ensures.marked.room ∙ c.loop-place.invariant.room;
  marked = subst (λ z. AreMarksOf z c.mark.new.self) (sym (one_more c.args.places.now c.loop-place.place-index (omega arith))) (marked_more (take c.loop-place.place-index c.args.places.now) c.loop-place.row c.mark.new.self _ c.loop-place.invariant.marked c.mark.ensures.marked);
}

pub returns-clause-marked : goal.returns-clause-marked
returns-clause-marked c = subst (λ z. AreMarksOf z c.loop-place.row) (take_whole c.args.places.now c.loop-place.place-index (omega arith)) c.loop-place.invariant.marked
