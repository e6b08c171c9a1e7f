use Rattle.std.proofs.Common.{refl}
use Rattle.kex_rings.specs.Passing.{Pulls}
use Rattle.kex_rings.proofs.SentItems.{if-ok}
use Rattle.kex_rings.proofs.Looks.{found-some}
use Rattle.kex_rings.proofs.ring_seat.RingSeat.find.Goals as goal

pub returns-clause-finds : goal.returns-clause-finds
returns-clause-finds g c = if-ok c.pull.result (λ count. Pulls c.args.room c.args.self.now.seat.inbox c.pull.new.inbox c.in-Some.ring c.pull.new.ring count) _
    (λ count pulls. found-some g.T.Turn c.args.room c.args.self.now _ c.in-Some.ring c.pull.new.ring count c.in-Some.is refl refl refl refl pulls) c.pull.ensures
