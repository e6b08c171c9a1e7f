use Rattle.std.proofs.Common.{◌∙◌, Bool, true, false, IsTrue, refl, ap, sym, subst}
use Rattle.kex_action.specs.Actors.{HasPerformed, IsWholeCode}
use Rattle.kex_action.proofs.NodeSteps.{move_at}
use Rattle.kex_action.proofs.ActorRuns.{ends_there, ends_elsewhere}
use Rattle.kex_action.proofs.actor.Actor.at_end.Goals as goal

sure : (b : Bool) → ((IsTrue b → ⊥) → ⊥) → IsTrue b
sure true h = refl
sure false h = absurd (h (λ t. cc))

pub returns : goal.returns
returns c = λ gv d out p.
    let machine = c.self.inside.machine.now in
    let q = subst (λ a. HasPerformed a gv d out) (sym c.self.view_is) p in
    let nodes = c.nodes.ensures.same ∙ ap (λ g. g.nodes) c.machine.ensures.same in
    let here = move_at machine.nodes c.nodes.result.now c.rest_of-end.result c.index-nodes-end.result nodes c.rest_of-end.ensures.within c.index-nodes-end.is in (
      (λ t. subst (λ a. IsWholeCode a.machine d) c.self.view_is (ends_there machine c.self.inside.at c.rest_of-end.result c.self.inside.store c.self.inside.refused c.self.inside.usable gv d out q c.rest_of-end.ensures.leads (here ∙ c.is_end.ensures.0 t))),
      (λ w. sure c.is_end.result (λ no. ends_elsewhere machine c.self.inside.at c.rest_of-end.result c.self.inside.store c.self.inside.refused c.self.inside.usable gv d out q c.rest_of-end.ensures.leads c.rest_of-end.ensures.rests (λ e. no (c.is_end.ensures.1 (sym here ∙ e))) (subst (λ a. IsWholeCode a.machine d) (sym c.self.view_is) w))),
    )
