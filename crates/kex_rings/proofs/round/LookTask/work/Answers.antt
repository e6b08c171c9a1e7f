use Rattle.std.proofs.Common.{rules, refl}
use Rattle.kex_rings.specs.Looking.{Looks}
use Rattle.kex_rings.proofs.Rounds.{retook}
use Rattle.kex_rings.proofs.round.LookTask.work.Goals as goal

pub returns-clause-looks : goal.returns-clause-looks
returns-clause-looks g c =
    let looks : Looks g.T.Turn c.args.self.now.room c.args.seat.now c.work-worked.new.self c.in_ok-seat.field-0 = search rules in
    retook g.T.Turn c.args.self.now.room c.args.seat.now c.work-worked.new.self _ c.in_ok-seat.field-0 refl refl refl looks
