use Rattle.std.proofs.Common.{◌∙◌}
use Rattle.kex_action.proofs.Sheets.{blank_state}
use Rattle.kex_leaps.proofs.LeapEffects.{blank_sheet}
use Rattle.kex_leaps.proofs.perform.make_place.Goals as goal

pub returns-clause-did : goal.returns-clause-did
returns-clause-did c =
    let h = c.in_ok-hand_on.ensures {u = tt} in
    blank_state c.hand_on.new.sheet c.hand_on.new.out.items c.hand_on.new.self.holding h.none ∙ h.did

pub returns-clause-sheet : goal.returns-clause-sheet
returns-clause-sheet c =
    let h = c.in_ok-hand_on.ensures {u = tt} in
    (blank_sheet c.hand_on.new.sheet h.none, h.room)
