use Rattle.std.proofs.Common.{refl}
use Rattle.kex_pipe.proofs.Lines.{on-ok}
use Rattle.kex_pipe.proofs.Transfers.{on-ok₂}
use Rattle.kex_rings.proofs.Settles.{steps-at, usable-behind, usable-handed}
use Rattle.kex_rings.proofs.settling.step.Goals as goal

pub hand_on-requires : goal.hand_on-requires
hand_on-requires g c = let h = c.split_at_mut-front in usable-behind g.T.Turn c.args.i c.args.seats.now h.result.0.now h.result.1.now c.take.new.self h.ensures.value c.in_ok-take.ensures.usable c.requires.usable

pub returns-clause-usable : goal.returns-clause-usable
returns-clause-usable g c =
    let h = c.split_at_mut-front in
    on-ok c.hand_on.result (λ behind. usable-handed g.T.Turn c.args.i c.args.seats.now h.result.0.now h.result.1.now c.hand_on.new.behind c.take.new.self _ c.index-front-i.result h.ensures.value h.ensures.front_len c.in_ok-take.ensures.usable c.requires.usable refl behind) c.hand_on.ensures.usable

pub returns-clause-steps : goal.returns-clause-steps
returns-clause-steps g c =
    let h = c.split_at_mut-front in
    on-ok₂ c.hand_on.result (λ none moves.
    steps-at g.T.Turn c.args.i 4096 c.args.seats.now h.result.0.now h.result.1.now c.hand_on.new.behind c.take.new.self _ c.index-seats-i.result c.index-front-i.result c.args.made.now c.hand_on.new.made c.requires.seat c.in_ok-take.ensures.takes h.ensures.value h.ensures.front_len refl refl none moves)
    c.hand_on.ensures.none_left c.hand_on.ensures.moves
