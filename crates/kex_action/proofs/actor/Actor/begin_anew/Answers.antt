use Rattle.std.proofs.Common.{◌∙◌, ap, sym, subst, [], replicate, false}
use Rattle.std.specs.Prelude.{IsTrue}
use Rattle.kex_action.specs.Actors.{Position, HasPerformed}
use Rattle.kex_action.proofs.ActorRuns.{begins_performed, position}
use Rattle.kex_action.proofs.actor.Actor.begin_anew.Goals as goal

pub returns-clause-begins : goal.returns-clause-begins
returns-clause-begins c =
    let g = c.self.inside.machine.now in
    let start = c.start-self-inside.ensures ∙ ap (λ z. z.start) c.machine.ensures.same in
    let usable = subst (λ (p : Position). IsTrue p.usable) (sym c.self.view_is) c.requires in
    let count = (c.self.invariant.fits usable).count in
    subst (λ n. HasPerformed (position g n c.begin_anew.new.self false c.self.inside.usable) [] [] []) (sym start)
    (begins_performed g c.begin_anew.new.self c.self.inside.usable (c.begin_anew.ensures ∙ ap (λ k. record { buffers = []; registers = replicate k [] }) count))
