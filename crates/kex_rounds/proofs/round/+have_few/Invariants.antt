use Rattle.std.proofs.Common.{length}
use Rattle.kex_rounds.proofs.round.+have_few.Given as goal

abbrev pub decreases-have_few : goal.decreases-have_few
decreases-have_few g l = length l.seats.now
