use Rattle.std.proofs.Common.{refl}
use Rattle.kex_pipe.proofs.StandingOn.{seat-stays}
use Rattle.kex_pipe.proofs.parting.take_back_to.Goals as goal

pub returns : goal.returns
returns g c = record { stays = seat-stays g.T.Turn c.args.seat.now _ c.take_back.ensures.plan c.take_back.ensures.stands refl refl refl refl }
