use Rattle.std.proofs.Common.{sym, arith, length-take}
use Rattle.std.proofs.lemmas.List.{take_all, length-take-le}
use Rattle.kex_moves.proofs.leap.front_of.Goals as goal

pub slice_bounds-result-end : goal.slice_bounds-result-end
slice_bounds-result-end c = sym (length-take-le c.args.reach c.args.piece.now (omega (arith, c.if-piece-reach.true)))

pub returns-then-piece-reach-clause-few : goal.returns-then-piece-reach-clause-few
returns-then-piece-reach-clause-few c = omega (arith, length-take c.args.reach c.args.piece.now)

pub returns-else-piece-reach-clause-front : goal.returns-else-piece-reach-clause-front
returns-else-piece-reach-clause-front c = sym (take_all c.args.reach c.args.piece.now (omega (arith, c.if-piece-reach.false)))
