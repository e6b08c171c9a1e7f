use Rattle.std.proofs.Common.{◌∙◌, sym, ap}
use Rattle.kex_action.specs.Holdings.{state_of}
use Rattle.kex_action.specs.Deeds.{after_deed}
use Rattle.kex_action.proofs.deed.act.Goals as goal

pub returns-in-None : goal.returns-in-None
returns-in-None c =
    let s = state_of c.args.out.now.items c.args.store.now in
    sym (c.in-None.ensures.none s) ∙ sym (ap (λ d. after_deed c.args.machine.now.nodes c.args.byte d s) c.in-Node.is)
