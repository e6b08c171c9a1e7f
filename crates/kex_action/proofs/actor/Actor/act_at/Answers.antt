use Rattle.std.proofs.Common.{◌∙◌, ap}
use Rattle.kex_action.proofs.Sheets.{kept_by}
use Rattle.kex_action.proofs.actor.Actor.act_at.Goals as goal

pub invariant_of-self-2 : goal.invariant_of-self-2
invariant_of-self-2 c =
    let a = c.self.inside in
    let fits = c.self.invariant.fits (ap (λ q. q.usable) c.self.view_is ∙ c.requires.usable) in
    let did = c.in_ok-did.ensures {u = tt} in
    record {
      trimmed = c.self.invariant.trimmed;
      in_range = c.self.invariant.in_range;
      fits = λ u. record {
        node = fits.node;
        count = kept_by a.machine.now.nodes c.args.byte c.args.deed c.in_ok-did.did c.args.sheet.now c.act_at.new.sheet a.store c.act_at.new.store did.did did.stays ∙ fits.count;
      };
    }
