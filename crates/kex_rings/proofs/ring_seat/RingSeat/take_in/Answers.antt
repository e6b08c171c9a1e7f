use Rattle.std.proofs.Common.{refl}
use Rattle.kex_rings.proofs.Looks.{taken-in}
use Rattle.kex_rings.proofs.ring_seat.RingSeat.take_in.Goals as goal

pub returns-clause-takes : goal.returns-clause-takes
returns-clause-takes g c = taken-in g.T.Turn c.args.room c.args.self.now c.find.new.self _ c.in_ok-count.count c.in_ok-count.ensures.finds c.in_ok-take.ensures.takes refl refl
