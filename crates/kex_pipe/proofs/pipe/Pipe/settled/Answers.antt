use Rattle.std.proofs.Common.{rules, ◌≡◌, ◌<◌, ◌∙◌, true, false, length, get_or, sym, ap, below_more, arith}
use Rattle.std.proofs.lemmas.List.{get_or_read}
use Rattle.kex_pipe.specs.Waiting.{unread_bytes}
use Rattle.kex_pipe.proofs.Begins.{idle-settled, settled-idle}
use Rattle.kex_pipe.proofs.pipe.Pipe.settled.Goals as goal
use Rattle.kex_pipe.proofs.pipe.Pipe.settled.Goals.{then-not-seat-via-then-not-seat, then-not-seat-via-else-not-seat+then-not-is_empty}

pub returns-then-not-seat-clause-settled : goal.returns-then-not-seat-clause-settled
returns-then-not-seat-clause-settled g c = λ ps h taken s. (
  λ bad. absurd (search rules),
  λ done.
      let self = c.args.self.now in
      let i = c.loop-seat.seat-index in
      let at : c.seat-item.result ≡ get_or self.seats.items i c.seat-item.result = c.seat-item.is ∙ ap (λ z. get_or z i c.seat-item.result) c.deref-seat-items.ensures.value in
      let within : i < length self.seats.items = omega (arith, c.loop-seat-test.true, ap length c.deref-seat-items.ensures.value) in
      let idle = settled-idle g.T.Turn g.met.T.Turn.one i s.came ps self.seats.items s.seats self.output taken c.seat-item.result within s.line done in
      elim c.then-not-seat.branch [
        | then-not-seat-via-then-not-seat w ↦ let bad : true ≡ false = sym idle.0 ∙ ap (λ z. z.staged.turned) (sym at) ∙ w.if-not-seat.true in absurd (search rules)
        | then-not-seat-via-else-not-seat+then-not-is_empty w ↦
            let yes = w.is_empty.ensures.1 (ap (λ z. unread_bytes z.inbox) at ∙ idle.1, ap (λ z. z.inbox.ended) at ∙ idle.2) in
            absurd (search rules)
      ],
)

pub loop-seat-preserved : goal.loop-seat-preserved
loop-seat-preserved g c = below_more _ _ c.loop-seat.invariant (λ d.
    let self = c.args.self.now in
    let i = c.loop-seat.seat-index in
    let within : i < length self.seats.items = omega (arith, c.loop-seat-test.true, ap length c.deref-seat-items.ensures.value) in
    let seat = get_or_read self.seats.items i c.seat-item.result within (c.seat-item.is ∙ ap (λ z. get_or z i c.seat-item.result) c.deref-seat-items.ensures.value) d in
    let none = c.is_empty.ensures.0 (search rules) in
    (ap (λ z. z.staged.turned) (sym seat) ∙ c.if-not-seat.false, ap (λ z. unread_bytes z.inbox) (sym seat) ∙ none.0, ap (λ z. z.inbox.ended) (sym seat) ∙ none.1))

pub returns-clause-settled : goal.returns-clause-settled
returns-clause-settled g c = λ ps h taken s.
    let self = c.args.self.now in
    let all : length self.seats.items ≡ length c.deref-seat-items.result.now = sym (ap length c.deref-seat-items.ensures.value) in
    (λ yes. idle-settled g.T.Turn g.met.T.Turn.one s.came ps self.seats.items s.seats self.output taken (λ k lt d. c.loop-seat.invariant k (omega (arith, lt, all, c.loop-seat-test.false)) d) s.line, λ done. search rules)
