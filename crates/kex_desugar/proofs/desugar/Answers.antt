use Rattle.std.proofs.Common.{◌≡◌, ◌<◌, ◌≤◌, [], Some, length, get_or, slice_get, ap₂, refl, sym, ap, subst, ◌∙◌, arith}
use Rattle.std.proofs.lemmas.Option.{slice_get-get_or}
use Rattle.kex_model.specs.Places.{at_start, by_rest, enter}
use Rattle.kex_machine.specs.Nodes.{IsMachineInRange}
use Rattle.kex_desugar.specs.declared.spot.Spot.TheVariants.{Empty, On}
use Rattle.kex_desugar.specs.Machines.{IsMachineOf}
use Rattle.kex_desugar.specs.Spots.{IsReal, Real}
use Rattle.kex_desugar.proofs.PlaceNumbers.{real_empty}
use Rattle.kex_desugar.proofs.SpotWays.{err_as, real_on}
use Rattle.kex_desugar.proofs.Made.{Made, get_later, made_none, made_more, is_machine, fits, in_range}
use Rattle.kex_desugar.proofs.desugar.Goals as goal
use Rattle.kex_desugar.proofs.desugar.Goals.{After-entered, After-places, After-len-in-places-2}

pub returns-in_err-bottom-clause-refused : goal.returns-in_err-bottom-clause-refused
returns-in_err-bottom-clause-refused c =
    err_as _ c.from_residual-in_err-bottom.result c.in_err-bottom.field-0.0 c.from_residual-in_err-bottom.ensures.1 (λ u. c.in_err-bottom.ensures.refused u c.args.program.now c.args.root (real_empty c.args.program.now c.args.root c.new-spots.result.keys c.new-spots.ensures.empty) ([], refl, by_rest at_start))

-- with the empty place alone
real_bottom : (c : After-entered) → Real c.args.program.now c.args.root c.intern.new.spots.keys
real_bottom c = c.in_ok-bottom.ensures.real c.args.program.now c.args.root (real_empty c.args.program.now c.args.root c.new-spots.result.keys c.new-spots.ensures.empty) ([], refl, by_rest at_start)

-- the place where the stage begins
real_first : (c : After-entered) → IsReal c.args.program.now c.args.root c.intern.new.spots.keys (On c.entered.result c.in_ok-bottom.bottom)
real_first c = subst (λ f. IsReal c.args.program.now c.args.root c.intern.new.spots.keys (On f c.in_ok-bottom.bottom)) (sym c.entered.ensures)
    (real_on c.args.program.now c.args.root c.intern.new.spots.keys (enter c.args.program.now c.args.root) [] c.in_ok-bottom.bottom (Empty, c.in_ok-bottom.ensures.number, refl) at_start)

pub returns-in_err-start-clause-refused : goal.returns-in_err-start-clause-refused
returns-in_err-start-clause-refused c =
    let top = (goal.at.returns-in_err-start-clause-refused c).After-entered in
    err_as _ c.from_residual-in_err-start.result c.in_err-start.field-0.0 c.from_residual-in_err-start.ensures.1 (λ u. c.in_err-start.ensures.refused u c.args.program.now c.args.root (real_bottom top) (real_first top))

pub places-init : goal.places-init
places-init c =
    let top = (goal.at.places-init c).After-entered in
    let spots = c.intern-2.new.spots.keys in
    let first : slice_get spots c.in_ok-start.start ≡ Some (On (enter c.args.program.now c.args.root) c.in_ok-bottom.bottom) = c.in_ok-start.ensures.number ∙ ap (λ f. Some (On f c.in_ok-bottom.bottom)) c.entered.ensures in
    subst (λ n. Made c.args.program.now c.args.root c.args.max_places spots n c.in_ok-start.start c.in_ok-bottom.bottom) (sym c.new-nodes.ensures.items)
    (made_none c.args.program.now c.args.root c.args.max_places spots c.in_ok-start.start c.in_ok-bottom.bottom (c.in_ok-start.ensures.real c.args.program.now c.args.root (real_bottom top) (real_first top)) c.in_ok-start.ensures.within first (get_later c.intern.new.spots.keys spots c.in_ok-start.ensures.grown c.in_ok-bottom.bottom Empty c.in_ok-bottom.ensures.number))

-- the spot that is next
next : (c : After-len-in-places-2) → c.len-in-places-2.result ≡ length c.places.nodes.items
next c = c.len-in-places-2.ensures ∙ c.places.nodes.ok.0

next_at : (c : After-len-in-places-2) → slice_get c.places.spots.keys (length c.places.nodes.items) ≡ Some (get_or c.as_slice.result.now c.len-in-places-2.result Empty)
next_at c =
    let lt : length c.places.nodes.items < length c.places.spots.keys = omega (arith, c.places-test.true, c.len.ensures, c.len-in-places.ensures.len, c.places.nodes.ok.0) in
    slice_get-get_or c.places.spots.keys (length c.places.nodes.items) Empty lt ∙ ap₂ (λ k n. Some (get_or k n Empty)) (sym c.as_slice.ensures.keys) (sym (next c))

real_next : (c : After-len-in-places-2) → IsReal c.args.program.now c.args.root c.places.spots.keys (get_or c.as_slice.result.now c.len-in-places-2.result Empty)
real_next c = c.places.invariant.real.each (length c.places.nodes.items) _ (next_at c)

pub returns-in_err-node-clause-refused : goal.returns-in_err-node-clause-refused
returns-in_err-node-clause-refused c =
    let at = (goal.at.returns-in_err-node-clause-refused c).After-len-in-places-2 in
    err_as _ c.from_residual-in_err-node.result c.in_err-node.field-0.0 c.from_residual-in_err-node.ensures.1 (λ u. c.in_err-node.ensures.refused u c.args.root c.places.invariant.real (real_next at))

pub places-preserved : goal.places-preserved
places-preserved c =
    let at = (goal.at.places-preserved c).After-len-in-places-2 in
    let new = c.node_of.new.spots.keys in
    subst (λ n. Made c.args.program.now c.args.root c.args.max_places new n c.in_ok-start.start c.in_ok-bottom.bottom) (sym c.in_ok-push.ensures.items)
    (made_more c.args.program.now c.args.root c.args.max_places c.places.spots.keys new c.places.nodes.items c.in_ok-start.start c.in_ok-bottom.bottom (get_or c.as_slice.result.now c.len-in-places-2.result Empty) c.in_ok-node.node c.places.invariant (next_at at) c.in_ok-node.ensures.grown (c.in_ok-node.ensures.real c.args.root c.places.invariant.real (real_next at)) c.in_ok-node.ensures.within (c.in_ok-node.ensures.node c.args.root (real_next at)))

-- all spots have nodes
all_made : (c : After-places) → length c.places.spots.keys ≤ length c.places.nodes.items
all_made c = omega (arith, c.places-test.false, c.len.ensures, c.len-in-places.ensures.len, c.places.nodes.ok.0)

pub new-requires : goal.new-requires
new-requires c =
    let small : c.args.max_places < 4294967296 = omega (arith, c.ranges.max_places.fits) in
    subst (λ r. IsMachineInRange c.in_ok-start.start c.places.nodes.items r) (sym c.registers.ensures.same)
    (in_range c.args.program.now c.args.root c.args.max_places c.places.spots.keys c.places.nodes.items c.in_ok-start.start c.in_ok-bottom.bottom c.places.invariant (all_made (goal.at.new-requires c).After-places) c.registers.ensures.grammar small)

pub returns-clause-machine : goal.returns-clause-machine
returns-clause-machine c = subst (λ m. IsMachineOf c.args.program.now c.args.root m) (sym c.new.ensures) (is_machine c.args.program.now c.args.root c.args.max_places c.places.spots.keys c.places.nodes.items c.in_ok-start.start c.in_ok-bottom.bottom c.places.invariant (all_made (goal.at.returns-clause-machine c).After-places) c.args.stage c.registers.result c.registers.ensures.same)

pub returns-clause-fits : goal.returns-clause-fits
returns-clause-fits c = fits c.args.program.now c.args.root c.args.max_places c.places.spots.keys c.places.nodes.items c.in_ok-start.start c.in_ok-bottom.bottom c.places.invariant (all_made (goal.at.returns-clause-fits c).After-places)
