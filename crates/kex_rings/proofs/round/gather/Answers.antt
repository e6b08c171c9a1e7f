use Rattle.std.proofs.Common.{◌++◌, ◌∷◌, ◌∙◌, [], map, take, sym, ap, add-one, arith}
use Rattle.kex_rings.proofs.Rounds.{took-more, took-all}
use Rattle.kex_rings.proofs.round.gather.Goals as goal

pub loop-seat-preserved : goal.loop-seat-preserved
loop-seat-preserved g c =
    let l = c.loop-seat in
    let seat = c.seat-item.result in
    let front = map (λ s. s.took) (take l.seat-index c.args.seats.now) in
    c.in_ok-push.ensures.items ∙ ap (λ z. z ++ seat.took ∷ []) l.invariant ∙ ap (λ z. front ++ z.took ∷ []) c.seat-item.is ∙ sym (took-more g.T.Turn c.args.seats.now l.seat-index seat (omega (arith, c.loop-seat-test.true))) ∙ ap (λ z. map (λ s. s.took) (take z c.args.seats.now)) (sym (add-one l.seat-index))

pub returns : goal.returns
returns g c = c.loop-seat.invariant ∙ took-all g.T.Turn c.args.seats.now c.loop-seat.seat-index (omega (arith, c.loop-seat-test.false))
