use Rattle.std.proofs.Common.{◌≡◌, ◌∙◌, ◌++◌, ◌∷◌, [], take, sym, ap, ap₂, subst}
use Rattle.std.proofs.lemmas.List.{take_more}
use Rattle.kex_held.specs.Tracks.{HeldList}
use Rattle.kex_held.specs.Slices.{ListGoesOn}
use Rattle.kex_held.specs.HeldRows.{items_by_links}
use Rattle.kex_held.specs.LearntEdges.{AreListsOf}
use Rattle.kex_held.proofs.EdgeLists.{lists_push}
use Rattle.kex_held.proofs.list.texts_of.Goals as goal

pub tracked-preserved : goal.tracked-preserved
tracked-preserved c =
    let nodes = c.args.machine.now.nodes in
    let texts = c.args.texts.now in
    let m = c.args.marks in
    let vs = c.args.tracked.now in
    let i = c.tracked.new-index in
    let v = c.new-item.result in
    let all = c.tracked.all.items in
    let items = c.in_ok-items.items.items in
    let new = c.push.new.self.items in
    let text : c.new.result ≡ record { from = v.from; to = v.to; items = items } = c.new.ensures ∙ ap₂ (λ a b. let x : HeldList = record { from = a; to = b; items = items } in x) c.from.ensures c.to.ensures in
    let list : ListGoesOn nodes [] (items_by_links texts m v.links) items = subst (λ l. ListGoesOn nodes [] (items_by_links texts m l) items) c.links.ensures (c.in_ok-items.ensures {u = tt}) in
    let last : new ≡ all ++ (record { from = v.from; to = v.to; items = items }) ∷ [] = (c.in_ok-push.ensures {u = tt}).items ∙ ap (λ y. all ++ y ∷ []) text in
    let read = take_more vs i v c.tracked-test.true ∙ ap (λ y. take i vs ++ y ∷ []) (sym c.new-item.is) in
    subst (λ l. AreListsOf nodes texts m l new) (sym read) (subst (AreListsOf nodes texts m (take i vs ++ v ∷ [])) (sym last) (lists_push nodes texts m (take i vs) all v items c.tracked.invariant list))
