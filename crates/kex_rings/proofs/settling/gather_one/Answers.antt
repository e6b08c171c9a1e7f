use Rattle.std.proofs.Common.{refl}
use Rattle.kex_rings.proofs.Settles.{gathers}
use Rattle.kex_rings.proofs.settling.gather_one.Goals as goal

pub returns-clause-gathers : goal.returns-clause-gathers
returns-clause-gathers g c = gathers g.T.Turn c.args.seat _ c.empty.new.inbox c.args.unsent.now c.append.new.other c.append-2.new.self c.in_ok-empty.ensures c.in_ok-append.ensures.ok c.in_ok-append.ensures.none_left c.in_ok-append-2.ensures.ok refl c.in_ok-append-2.ensures.none_left
