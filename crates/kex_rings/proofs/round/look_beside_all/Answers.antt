use Rattle.std.proofs.Common.{◌<◌, ◌+◌, ◌∙◌, refl, sym, subst, length, arith}
use Rattle.kex_pipe.specs.Rounds.{Each}
use Rattle.kex_rings.specs.Looking.{OnlyLooked}
use Rattle.kex_rings.proofs.Joins.{looked-all, looked-two, split-first, next-of, split-next, split-last}
use Rattle.kex_rings.proofs.round.look_beside_all.Goals as goal

pub loop-i-init : goal.loop-i-init
loop-i-init g c = record { looked = looked-all g.T.Turn c.args.seats.now; count = refl; parts = λ room j. split-first g.T.Turn room c.args.seats.now c.requires.some j }

pub look_beside-requires-clause-paired : goal.look_beside-requires-clause-paired
look_beside-requires-clause-paired g c =
    let t = g.T.Turn in
    let l = c.loop-i in
    let q = c.requires.paired in
    let split = l.invariant.parts q.0 q.1 in
    let next = next-of t q.0 l.i l.seats split (omega (arith, c.loop-i-test.true, l.invariant.count)) in
    (q.0, split.front, split.s, next.n, next.back, next.is, split.number, next.paired)

pub loop-i-preserved : goal.loop-i-preserved
loop-i-preserved g c =
    let t = g.T.Turn in
    let l = c.loop-i in
    let q = c.requires.paired in
    let within : l.i + 1 < length l.seats = omega (arith, c.loop-i-test.true, l.invariant.count) in
    let split = l.invariant.parts q.0 q.1 in
    let next = next-of t q.0 l.i l.seats split within in
    let b = c.look_beside.ensures.beside split.front next.back split.s next.n next.is split.number in
    record {
      looked = subst (λ z. Each (OnlyLooked t) c.args.seats.now z) (sym b.is) (looked-two t c.args.seats.now split.front split.s next.n b.s' b.n' next.back (subst (λ z. Each (OnlyLooked t) c.args.seats.now z) next.is l.invariant.looked) b.looked b.next_looked);
      count = c.look_beside.ensures.count ∙ l.invariant.count;
      parts = λ room j.
          let cut = l.invariant.parts room j in
          let behind = next-of t room l.i l.seats cut within in
          split-next t room l.i l.seats c.look_beside.new.seats cut behind (c.look_beside.ensures.beside cut.front behind.back cut.s behind.n behind.is cut.number);
    }

pub returns-clause-beside : goal.returns-clause-beside
returns-clause-beside g c = λ room j. split-last g.T.Turn room c.loop-i.i c.loop-i.seats (c.loop-i.invariant.parts room j) (omega (arith, c.loop-i-test.false, c.loop-i.invariant.count))
