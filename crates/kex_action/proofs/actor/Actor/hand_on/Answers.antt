use Rattle.std.proofs.Common.{◌∙◌, ◌<◌, ap, sym, subst, length}
use Rattle.kex_action.proofs.Sheets.{handed_count}
use Rattle.kex_action.proofs.actor.Actor.hand_on.Goals as goal

pub invariant_of-self-2 : goal.invariant_of-self-2
invariant_of-self-2 c =
    let a = c.self.inside in
    let fits = c.self.invariant.fits (ap (λ q. q.usable) c.self.view_is ∙ c.requires.usable) in
    record {
      trimmed = c.self.invariant.trimmed;
      in_range = c.self.invariant.in_range;
      fits = λ u. record {
        node = subst (λ q. c.args.node < length q.machine.nodes) (sym c.self.view_is) c.requires.node;
        count = handed_count c.args.sheet.now a.store c.hand_on.new.self c.args.out.now.items c.hand_on.new.out.items (c.in_ok-hand_on.ensures {u = tt}) ∙ fits.count;
      };
    }
