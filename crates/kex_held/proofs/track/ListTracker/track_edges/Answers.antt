use Rattle.std.proofs.Common.{◌≡◌, ◌∙◌, ◌++◌, ◌∷◌, [], take, sym, ap, subst}
use Rattle.std.specs.Prelude.{IfSome}
use Rattle.std.proofs.lemmas.List.{take_more}
use Rattle.kex_held.specs.Tracks.{TracksAny}
use Rattle.kex_held.specs.LearntEdges.{AreTrackedAny}
use Rattle.kex_held.proofs.EdgeLists.{tracked_push}
use Rattle.kex_held.proofs.track.ListTracker.track_edges.Goals as goal

pub lists-preserved : goal.lists-preserved
lists-preserved c =
    let nodes = c.args.self.now.machine.now.nodes in
    let texts = c.args.self.now.texts.now in
    let lists = c.args.lists.now in
    let i = c.lists.parts-index in
    let parts = c.parts-item.result in
    let all = c.lists.all.items in
    let v = c.in-Some.tracked in
    let new = c.push.new.self.items in
    let tracks : TracksAny nodes texts parts v.from v.to v.links = subst (λ l. TracksAny nodes texts l v.from v.to v.links) c.as_slice-list.ensures (subst (λ o. IfSome o (λ p. TracksAny nodes texts c.as_slice-list.result.now p.from p.to p.links)) c.in-Some.is (c.in_ok-tracked.ensures {u = tt})) in
    let pushed : new ≡ all ++ v ∷ [] = (c.in_ok-push.ensures {u = tt}).items in
    let read = take_more lists i parts c.lists-test.true ∙ ap (λ y. take i lists ++ y ∷ []) (sym c.parts-item.is) in
    subst (λ l. AreTrackedAny nodes texts l new) (sym read) (subst (AreTrackedAny nodes texts (take i lists ++ parts ∷ [])) (sym pushed) (tracked_push nodes texts (take i lists) all parts v c.lists.invariant tracks))
