use Rattle.std.proofs.Common.{◌∷◌, [], take, get_or, sym, subst}
use Rattle.kex_held.specs.declared.link.Link.TheVariants.{Whole}
use Rattle.kex_held.specs.Slices.{ListGoesOn}
use Rattle.kex_held.specs.HeldRows.{items_by_links}
use Rattle.kex_held.proofs.ListJoins.{list_more}
use Rattle.kex_held.proofs.EdgeLists.{links_more}
use Rattle.kex_held.proofs.list.list_of.Goals as goal

pub loop-link-preserved : goal.loop-link-preserved
loop-link-preserved c =
    let nodes = c.args.machine.now.nodes in
    let texts = c.args.texts.now in
    let m = c.args.marks in
    let links = c.args.links.now in
    let i = c.loop-link.link-index in
    let new = c.push_link.new.items.items in
    let x = get_or links i (Whole 0) in
    subst (λ l. ListGoesOn nodes [] l new) (sym (links_more texts m links i (Whole 0) c.loop-link-test.true)) (list_more nodes [] (items_by_links texts m (take i links)) c.loop-link.items.items (items_by_links texts m (x ∷ [])) new c.loop-link.invariant (c.in_ok-push_link.ensures {u = tt}))
