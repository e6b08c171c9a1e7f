use Rattle.std.proofs.Common.{◌≡◌, ℕ, Some, List, sym, ap, subst, ◌∙◌}
use Rattle.std.specs.Prelude.{option_copied, slice_get}
use Rattle.kex_code.specs.Codes.{IsAmong}
use Rattle.kex_model.proofs.Tables.{some_same}
use Rattle.kex_cover.specs.Pairs.{ArePlacesAfter}
use Rattle.kex_cover.specs.Searches.{IsWayTo, met_sets}
use Rattle.kex_cover.proofs.MarkedPlaces.{onward}
use Rattle.kex_cover.proofs.PairSteps.{get_among}
use Rattle.kex_cover.proofs.SetNumbers.{item_at, text_at}
use Rattle.kex_cover.proofs.met_sets.MetSets.work_out.Goals as goal

pub set_after-requires-clause-places : goal.set_after-requires-clause-places
set_after-requires-clause-places c =
    let k = c.unwrap-from.result.now in
    let here : slice_get c.args.self.now.sets.keys c.args.at ≡ Some k = sym c.get_index.ensures.key ∙ ap option_copied c.unwrap-from.ensures in
    λ p i. c.requires.met.within k.items (get_among (met_sets c.args.self.now) c.args.at k.items (text_at c.args.self.now.sets.keys c.args.at k here)) p (subst (λ z. IsAmong z p) c.deref.ensures.value i)

pub returns-clause-after : goal.returns-clause-after
returns-clause-after c =
    let g = c.args.machine.now in
    let k = c.unwrap-from.result.now in
    let here : slice_get c.args.self.now.sets.keys c.args.at ≡ Some k = sym c.get_index.ensures.key ∙ ap option_copied c.unwrap-from.ensures in
    let from = text_at c.args.self.now.sets.keys c.args.at k here in
    let byte = item_at c.args.self.now.bytes.items c.args.class c.index.result.now c.requires.class c.index.ensures in
    onward (λ i. slice_get (met_sets c.put.new.self) i ≡ Some c.in_ok-set.set.items) (λ i. (x : List ℕ) (b : ℕ) → slice_get (met_sets c.args.self.now) c.args.at ≡ Some x → slice_get c.args.self.now.bytes.items c.args.class ≡ Some b → IsWayTo g (met_sets c.put.new.self) x b i) c.put.result
    (λ i e. λ x b is at. (
      c.in_ok-set.set.items,
      e,
      subst (λ z. ArePlacesAfter g z b c.in_ok-set.set.items) (c.deref.ensures.value ∙ some_same k.items x (sym from ∙ is))
          (subst (λ z. ArePlacesAfter g c.deref.result.now z c.in_ok-set.set.items) (some_same c.index.result.now b (sym byte ∙ at)) c.in_ok-set.ensures.set),
    ))
    c.put.ensures.at
