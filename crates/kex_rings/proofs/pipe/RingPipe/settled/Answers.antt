use Rattle.std.proofs.Common.{rules, ◌≡◌, ◌<◌, ◌∙◌, [], true, false, refl, length, get_or, sym, ap, subst, below_more, arith}
use Rattle.std.proofs.lemmas.List.{get_or_read}
use Rattle.kex_rings.specs.Looking.{IsIdle}
use Rattle.kex_rings.proofs.Standings.{idle-settled, settled-idle}
use Rattle.kex_rings.proofs.pipe.RingPipe.settled.Goals as goal

pub returns-then-not-is_idle-clause-settled : goal.returns-then-not-is_idle-clause-settled
returns-then-not-is_idle-clause-settled g c = λ ps h taken s. (
  λ bad. absurd (search rules),
  λ done.
      let self = c.args.self.now in
      let i = c.loop-seat.seat-index in
      let at : c.seat-item.result ≡ get_or self.seats.items i c.seat-item.result = c.seat-item.is ∙ ap (λ z. get_or z i c.seat-item.result) c.deref-seat-items.ensures.value in
      let within : i < length self.seats.items = omega (arith, c.loop-seat-test.true, ap length c.deref-seat-items.ensures.value) in
      let idle = settled-idle g.T.Turn g.met.T.Turn.one i s.came [] ps self.seats.items s.seats self.output taken c.seat-item.result within s.line done in
      let yes = c.is_idle.ensures.1 (subst (λ z. IsIdle g.T.Turn z) (sym at) idle) in
      absurd (search rules),
)

pub loop-seat-preserved : goal.loop-seat-preserved
loop-seat-preserved g c = below_more _ _ c.loop-seat.invariant (λ d.
    let self = c.args.self.now in
    let i = c.loop-seat.seat-index in
    let within : i < length self.seats.items = omega (arith, c.loop-seat-test.true, ap length c.deref-seat-items.ensures.value) in
    let seat = get_or_read self.seats.items i c.seat-item.result within (c.seat-item.is ∙ ap (λ z. get_or z i c.seat-item.result) c.deref-seat-items.ensures.value) d in
    subst (λ z. IsIdle g.T.Turn z) seat (c.is_idle.ensures.0 (search rules)))

pub returns-clause-settled : goal.returns-clause-settled
returns-clause-settled g c = λ ps h taken s.
    let self = c.args.self.now in
    let all : length self.seats.items ≡ length c.deref-seat-items.result.now = sym (ap length c.deref-seat-items.ensures.value) in
    (λ yes. idle-settled g.T.Turn g.met.T.Turn.one s.came [] ps self.seats.items s.seats self.output taken refl (λ k lt d. c.loop-seat.invariant k (omega (arith, lt, all, c.loop-seat-test.false)) d) s.line, λ done. search rules)
