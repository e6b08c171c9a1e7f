use Rattle.std.proofs.Common.{true, length, sym, ap, subst, ◌∙◌, arith}
use Rattle.kex_machine.specs.Nodes.{node_moves}
use Rattle.kex_machine.specs.Advancing.{EachPlace}
use Rattle.kex_paths.specs.Nexts.{HasClass}
use Rattle.kex_paths.proofs.Alikes.{told_apart, told_alike, one_more_alike, tells_alike, goes_on_alike, place_below}
use Rattle.kex_paths.proofs.tree.PathTree.goes_on_alike.Goals as goal

pub returns-in_default-clause-alike : goal.returns-in_default-clause-alike
returns-in_default-clause-alike c = λ b other has has_other. absurd (c.in_default.ensures b (subst (λ z. HasClass z c.args.class b) (sym c.requires) has))

pub returns-in_default-sample-clause-alike : goal.returns-in_default-sample-clause-alike
returns-in_default-sample-clause-alike c = λ b other has has_other. absurd (c.in_default-sample.ensures other (subst (λ z. HasClass z c.args.other other) (sym c.requires) has_other))

pub leads_alike-requires : goal.leads_alike-requires
leads_alike-requires c = place_below (length c.nodes-nodes.result.now) c.self.invariant.shape c.deref-place-items.result.now c.loop-place.place-index (c.deref-place-items.ensures.value ∙ c.self.invariant.places_are) (subst (λ z. EachPlace (length z) c.self.invariant.shape) (sym c.nodes-nodes.ensures.same) c.self.invariant.in_range) c.loop-place-test.true

pub returns-then-not-leads_alike-clause-alike : goal.returns-then-not-leads_alike-clause-alike
returns-then-not-leads_alike-clause-alike c =
    tells_alike c.args.self.now c.args.class c.args.other c.in-Some.byte c.in-Some-sample.twin c.args.workspace.now c.nodes-nodes.result.now c.deref-place-items.result.now _ c.requires
    (c.nodes-nodes.ensures.same ∙ ap (λ z. z.machine.nodes) c.self.view_is) (c.deref-place-items.ensures.value ∙ ap (λ z. z.leaves) c.self.view_is) c.in-Some.ensures c.in-Some-sample.ensures
    (told_apart (node_moves c.nodes-nodes.result.now) c.in-Some.byte c.in-Some-sample.twin c.deref-place-items.result.now c.loop-place.place-index c.leads_alike.result c.loop-place-test.true c.leads_alike.ensures (cc))

pub loop-place-preserved : goal.loop-place-preserved
loop-place-preserved c = one_more_alike (node_moves c.nodes-nodes.result.now) c.in-Some.byte c.in-Some-sample.twin c.deref-place-items.result.now c.loop-place.place-index c.leads_alike.result c.loop-place-test.true c.leads_alike.ensures (cc) c.loop-place.invariant

pub returns-clause-alike : goal.returns-clause-alike
returns-clause-alike c =
    tells_alike c.args.self.now c.args.class c.args.other c.in-Some.byte c.in-Some-sample.twin c.args.workspace.now c.nodes-nodes.result.now c.deref-place-items.result.now _ c.requires
    (c.nodes-nodes.ensures.same ∙ ap (λ z. z.machine.nodes) c.self.view_is) (c.deref-place-items.ensures.value ∙ ap (λ z. z.leaves) c.self.view_is) c.in-Some.ensures c.in-Some-sample.ensures
    (told_alike (node_moves c.nodes-nodes.result.now) c.in-Some.byte c.in-Some-sample.twin c.deref-place-items.result.now c.loop-place.place-index (omega arith) c.loop-place.invariant)

pub returns-clause-next : goal.returns-clause-next
returns-clause-next c = goes_on_alike c.args.self.now c.args.class c.args.other true (returns-clause-alike c)
