use Rattle.std.proofs.Common.{sym, arith, length-take}
use Rattle.std.proofs.lemmas.List.{take_all, length-take-le}
use Rattle.kex_moves.proofs.along.part_of.Goals as goal

pub slice_bounds-result-end : goal.slice_bounds-result-end
slice_bounds-result-end g c = sym (length-take-le 4096 c.args.piece.now (omega arith))

pub returns-then-piece-gt-PART-clause-few : goal.returns-then-piece-gt-PART-clause-few
returns-then-piece-gt-PART-clause-few g c = omega (arith, length-take 4096 c.args.piece.now)

pub returns-else-piece-gt-PART-clause-front : goal.returns-else-piece-gt-PART-clause-front
returns-else-piece-gt-PART-clause-front g c = sym (take_all 4096 c.args.piece.now (omega arith))
