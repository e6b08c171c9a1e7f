use Rattle.std.proofs.Common.{◌≡◌, ◌∙◌, ◌<◌, length, true, sym, ap, subst}
use Rattle.kex_model.specs.Acting.{ActingState}
use Rattle.kex_action.specs.Holdings.{state_of, Does, LeadsByCode}
use Rattle.kex_action.specs.Deeds.{after_deeds}
use Rattle.kex_action.specs.Actors.{WentOn}
use Rattle.kex_action.proofs.Deeds.{length-deeds}
use Rattle.kex_action.proofs.ActorRuns.{went_on, position}
use Rattle.kex_action.proofs.actor.Actor.act.Goals as goal

pub invariant_of-self-2 : goal.invariant_of-self-2
invariant_of-self-2 c =
    let a = c.self.inside in
    let before = c.args.out.now.items in
    let g = a.machine.now in
    let fits = c.self.invariant.fits (ap (λ q. q.usable) c.self.view_is ∙ c.requires.usable) in
    let did : state_of c.act_all.new.out.items c.act_all.new.store ≡ after_deeds g.nodes c.args.byte c.args.deeds.now (state_of before a.store) = c.in_ok-act_all.ensures {u = tt} in
    record {
      trimmed = c.self.invariant.trimmed;
      in_range = c.self.invariant.in_range;
      fits = λ u. record {
        node = subst (λ q. c.args.node < length q.machine.nodes) (sym c.self.view_is) c.requires.node;
        count = ap (λ (z : ActingState). length z.registers) did ∙ length-deeds g.nodes c.args.byte c.args.deeds.now (state_of before a.store) ∙ fits.count;
      };
    }

pub returns-clause-ok : goal.returns-clause-ok
returns-clause-ok c = λ d does.
    let a = c.self.inside in
    let before = c.args.out.now.items in
    let after = c.act_all.new.out.items in
    let here = subst (λ q. Does q.machine.nodes q.at d c.args.node (after_deeds q.machine.nodes c.args.byte c.args.deeds.now)) (sym c.self.view_is) does in
    let leads = subst (λ z. LeadsByCode a.machine.now.nodes a.at (state_of before a.store) d c.args.node z) (sym (c.in_ok-act_all.ensures {u = tt})) (here (state_of before a.store)) in
    subst (λ q. WentOn q (position a.machine.now c.args.node c.act_all.new.store a.refused true) d d before after) c.self.view_is (went_on a.machine.now a.at c.args.node a.store c.act_all.new.store a.refused a.usable true d before after leads)
