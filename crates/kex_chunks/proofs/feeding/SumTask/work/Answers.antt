use Rattle.std.proofs.Common.{[], append-nil, refl, sym}
use Rattle.kex_chunks.proofs.feeding.SumTask.work.Goals as goal

pub returns : goal.returns
returns g c = (c.args.piece.now, [], sym (append-nil c.args.piece.now), c.in_ok-made.ensures, refl)
