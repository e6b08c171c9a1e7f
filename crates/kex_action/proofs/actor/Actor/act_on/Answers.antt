use Rattle.std.proofs.Common.{◌∙◌, ap, [], take}
use Rattle.kex_action.proofs.Sheets.{kept_count}
use Rattle.kex_action.proofs.actor.Actor.act_on.Goals as goal

pub invariant_of-self-2 : goal.invariant_of-self-2
invariant_of-self-2 c =
    let a = c.self.inside in
    let fits = c.self.invariant.fits (ap (λ q. q.usable) c.self.view_is ∙ c.requires.usable) in
    record {
      trimmed = c.self.invariant.trimmed;
      in_range = c.self.invariant.in_range;
      fits = λ u. record {
        node = fits.node;
        count = kept_count a.machine.now.nodes c.args.byte (take c.in_ok-count.count c.args.deeds.now) c.args.sheet.now c.act_on.new.sheet a.store c.act_on.new.store ((c.in_ok-count.ensures {u = tt}).did []) ∙ fits.count;
      };
    }
