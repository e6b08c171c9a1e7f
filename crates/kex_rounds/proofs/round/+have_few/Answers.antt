use Rattle.std.proofs.Common.{rules, ◌≡◌, ◌-◌, ◌∙◌, true, false, refl, sym, subst, arith}
use Rattle.kex_rounds.specs.Working.{HaveFew}
use Rattle.kex_rounds.proofs.Few.{few-none, few-more, few-parts}
use Rattle.kex_rounds.proofs.round.+have_few.Goals as goal
use Rattle.kex_rounds.proofs.round.+have_few.Goals.{then-not-seat-via-then-not-seat, then-not-seat-via-else-not-seat+then-most-bytes}

pub returns-in-None : goal.returns-in-None
returns-in-None g t c = (
  λ _. few-none g.T.Turn c.args.most c.args.seats.now c.in-None.ensures.cases,
  λ _. refl,
)

pub returns-then-not-seat : goal.returns-then-not-seat
returns-then-not-seat g t c = (
  λ bad. absurd (search rules),
  λ few.
      let all = few-parts g.T.Turn c.args.most c.in-Some.seat.now c.in-Some.rest.now (subst (λ z. HaveFew g.T.Turn c.args.most z) c.in-Some.ensures.cases.0 few) in
      elim c.then-not-seat.branch [
        | then-not-seat-via-then-not-seat w ↦ let bad : true ≡ false = sym all.0 ∙ w.if-not-seat.true in absurd (search rules)
        | then-not-seat-via-else-not-seat+then-most-bytes w ↦ absurd (omega (arith, c.byte_count-bytes.ensures, all.1, w.if-most-bytes.true))
      ],
)

pub returns-else-most-bytes : goal.returns-else-most-bytes
returns-else-most-bytes g t c =
    let is = c.in-Some.ensures.cases.0 in
    let bytes = c.byte_count-bytes.ensures in (
      λ yes. subst (λ z. HaveFew g.T.Turn c.args.most z) (sym is) (few-more g.T.Turn c.args.most c.in-Some.seat.now c.in-Some.rest.now (search rules) (omega (arith, bytes, c.if-most-bytes.false)) (subst (λ z. HaveFew g.T.Turn (c.args.most - z) c.in-Some.rest.now) bytes (c.have_few.ensures.0 yes))),
      λ few. c.have_few.ensures.1 (subst (λ z. HaveFew g.T.Turn (c.args.most - z) c.in-Some.rest.now) (sym bytes) (few-parts g.T.Turn c.args.most c.in-Some.seat.now c.in-Some.rest.now (subst (λ z. HaveFew g.T.Turn c.args.most z) is few)).2),
    )
