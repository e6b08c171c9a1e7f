use Rattle.std.proofs.Common.{get_or, refl, sym, subst}
use Rattle.kex_pipe.proofs.Transfers.{get-set}
use Rattle.kex_pipe.proofs.StandingOn.{line-stays, usable-stays}
use Rattle.kex_pipe.proofs.parting.hand_out_at.Goals as goal

pub returns-clause-usable : goal.returns-clause-usable
returns-clause-usable g c = λ all.
    usable-stays g.T.Turn c.args.i c.args.seats.now (get_or c.args.seats.now c.args.i c.index-seats-i.result) c.hand_out_of.new.seat c.index-seats-i.result c.requires.seat refl c.hand_out_of.ensures.stays all

pub returns-clause-line : goal.returns-clause-line
returns-clause-line g c = λ ps xs came b taken line.
    line-stays g.T.Turn c.args.i came ps c.args.seats.now xs b taken (get_or c.args.seats.now c.args.i c.index-seats-i.result) c.hand_out_of.new.seat c.index-seats-i.result c.requires.seat refl c.hand_out_of.ensures.stays line

pub returns-clause-own : goal.returns-clause-own
returns-clause-own g c = λ s k d lt.
    subst (λ z. g.T.Parted.owns z.staged.stage (get_or c.hand_out_of.result.items k d)) (sym (get-set c.args.seats.now c.args.i c.hand_out_of.new.seat s c.requires.seat)) (c.hand_out_of.ensures.own k d lt)
