use Rattle.std.proofs.Common.{arith}
use Rattle.kex_moves.proofs.SheetRuns.{cleared, blank_sheet}
use Rattle.kex_moves.proofs.along.make_room.Goals as goal

pub returns-clause-same : goal.returns-clause-same
returns-clause-same c = λ p r.
    let h = c.in_ok-_state.ensures {u = tt} in
    let a = h.arrives p r in
    cleared c.args.actor.now c.arrive.new.actor p.node c.args.sheet.now c.arrive.new.sheet c.args.out.now.items c.arrive.new.out.items h.none h.usable a.1 a.2

pub returns-clause-sheet : goal.returns-clause-sheet
returns-clause-sheet c =
    let h = c.in_ok-_state.ensures {u = tt} in
    (blank_sheet c.arrive.new.sheet h.none, h.room, omega (arith, h.none.0))
