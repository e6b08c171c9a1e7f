use Rattle.std.proofs.Common.{◌≡◌, ◌∙◌, ◌+◌, [], Some, refl, sym, ap, ap₂, subst}
use Rattle.std.specs.Prelude.{IfSome, slice_get}
use Rattle.kex_sst.specs.Passes.{way_of}
use Rattle.kex_held.specs.Tracks.{TracksAny}
use Rattle.kex_held.specs.Slices.{AreItemsWithin, ListGoesOn}
use Rattle.kex_held.specs.HeldRows.{items_by_links}
use Rattle.kex_held.specs.RowEnds.{RowEnd}
use Rattle.kex_held.proofs.RowEnds.{right_end}
use Rattle.kex_held.proofs.end.learn_end.Goals as goal

pub returns-clause-right : goal.returns-clause-right
returns-clause-right c =
    let t = c.args.table.now in
    let nodes = c.args.machine.now.nodes in
    let r = c.args.row.now in
    let way = c.in-Some.way.now in
    let passage = c.in-Some-2.tracked in
    let outs = c.in_ok-outs.outs.items in
    let lists = c.texts-texts.result.now in
    let texts = c.texts-texts.ensures in
    let marks = c.marks-marks.ensures in
    let e : RowEnd = record { node = c.to-node.result; outs = outs } in
    let ends : way_of (slice_get t.states r.state) ≡ Some way = subst (λ n. way_of (slice_get t.states n) ≡ Some way) c.state.ensures (c.in-Some.ensures {u = tt}) in
    let tracks : TracksAny nodes lists way c.node.result passage.to passage.links = subst (λ o. IfSome o (λ p. TracksAny nodes lists way c.node.result p.to p.links)) c.in-Some-2.is (c.in_ok-tracked.ensures {u = tt}).tracks in
    let tracks' : TracksAny nodes r.lists way r.node e.node passage.links = subst (λ n. TracksAny nodes r.lists way r.node n passage.links) (sym c.to-node.ensures) (subst (λ l. TracksAny nodes l way r.node passage.to passage.links) texts (subst (λ n. TracksAny nodes lists way n passage.to passage.links) c.node.ensures tracks)) in
    let list : ListGoesOn nodes [] (items_by_links r.lists r.marks passage.links) outs = subst (λ l. ListGoesOn nodes [] l outs) (ap₂ (λ x m. items_by_links x m c.links.result.now) texts marks ∙ ap (items_by_links r.lists r.marks) c.links.ensures) (c.in_ok-outs.ensures {u = tt}) in
    let said : AreItemsWithin (c.marks-marks.result + 1) c.deref.result.now = c.if-not-are_within.ensures {u = tt} refl in
    let within : AreItemsWithin (r.marks + 1) outs = subst (λ m. AreItemsWithin (m + 1) outs) marks (subst (AreItemsWithin (c.marks-marks.result + 1)) c.deref.ensures.value said) in
    right_end t nodes r e way passage.links c.requires.row.within tracks' list within ends
