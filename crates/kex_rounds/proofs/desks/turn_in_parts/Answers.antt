use Rattle.kex_rounds.proofs.DeskKinds.{on-fault}
use Rattle.kex_rounds.proofs.desks.turn_in_parts.Goals as goal

pub returns-clause-begins : goal.returns-clause-begins
returns-clause-begins g c = on-fault c.turn.result
    (λ is ps h taken s. c.turn.ensures.memory is ps h taken (c.share.ensures.stands ps h taken s))
    (λ is ps h taken s.
    let on = c.share.ensures.stands ps h taken s in
    let spent = c.turn.ensures.spent.0 is in
    let going = on.going in
    cc)
