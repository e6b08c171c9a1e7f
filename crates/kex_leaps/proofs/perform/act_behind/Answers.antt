use Rattle.std.proofs.Common.{◌∙◌, ap}
use Rattle.kex_machine.specs.Nodes.{Graph}
use Rattle.kex_action.specs.Deeds.{after_deed}
use Rattle.kex_action.specs.Holdings.{state_of}
use Rattle.kex_action.proofs.Sheets.{blank_state}
use Rattle.kex_leaps.proofs.LeapEffects.{blank_sheet}
use Rattle.kex_leaps.proofs.perform.act_behind.Goals as goal

pub returns-clause-did : goal.returns-clause-did
returns-clause-did c =
    let a = c.in_ok-hand_on.ensures {u = tt} in
    let b = c.in_ok-act.ensures {u = tt} in
    let mid = state_of c.hand_on.new.out.items c.hand_on.new.self.holding in
    blank_state c.hand_on.new.sheet c.act.new.out.items c.act.new.self.holding a.none
    ∙ b.did
    ∙ ap (λ (g : Graph). after_deed g.nodes 0 c.args.deed mid) a.same.0
    ∙ ap (after_deed c.args.actor.now.machine.nodes 0 c.args.deed) a.did

pub returns-clause-sheet : goal.returns-clause-sheet
returns-clause-sheet c =
    let a = c.in_ok-hand_on.ensures {u = tt} in
    (blank_sheet c.hand_on.new.sheet a.none, a.room)
