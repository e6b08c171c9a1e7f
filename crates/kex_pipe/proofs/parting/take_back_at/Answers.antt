use Rattle.std.proofs.Common.{get_or, refl}
use Rattle.kex_pipe.proofs.StandingOn.{line-stays, usable-stays}
use Rattle.kex_pipe.proofs.parting.take_back_at.Goals as goal

pub returns-clause-usable : goal.returns-clause-usable
returns-clause-usable g c = λ all.
    usable-stays g.T.Turn c.args.i c.args.seats.now (get_or c.args.seats.now c.args.i c.index-seats-i.result) c.take_back_to.new.seat c.index-seats-i.result c.requires.seat refl c.take_back_to.ensures.stays all

pub returns-clause-line : goal.returns-clause-line
returns-clause-line g c = λ ps xs came b taken line.
    line-stays g.T.Turn c.args.i came ps c.args.seats.now xs b taken (get_or c.args.seats.now c.args.i c.index-seats-i.result) c.take_back_to.new.seat c.index-seats-i.result c.requires.seat refl c.take_back_to.ensures.stays line
