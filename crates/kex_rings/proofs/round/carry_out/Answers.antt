use Rattle.std.proofs.Common.{◌-◌, refl, length, arith}
use Rattle.kex_pipe.proofs.Transfers.{on-ok₂}
use Rattle.kex_rings.proofs.Joins.{carried, got-again}
use Rattle.kex_rings.proofs.round.carry_out.Goals as goal

pub returns-clause-out : goal.returns-clause-out
returns-clause-out g c =
    on-ok₂ c.append.result (λ moves none_left. λ front s is.
    carried g.T.Turn c.args.seats.now front s _ _ (length c.args.seats.now - 1) c.args.output.now c.append.new.self is (omega (arith, c.requires)) (got-again c.args.seats.now (length c.args.seats.now - 1) c.index-seats-last.result) refl refl refl refl refl none_left moves)
    c.append.ensures.ok c.append.ensures.none_left
