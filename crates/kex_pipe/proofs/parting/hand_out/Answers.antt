use Rattle.std.proofs.Common.{sym, subst, arith}
use Rattle.std.specs.Vec.{with_items}
use Rattle.std.proofs.lemmas.List.{with_items_is}
use Rattle.kex_pipe.specs.Standing.{Line}
use Rattle.kex_pipe.proofs.Schedule.{standing}
use Rattle.kex_pipe.proofs.parting.hand_out.Goals as goal

pub returns-clause-stands : goal.returns-clause-stands
returns-clause-stands g c = λ ps h taken s.
    let t = g.T.Turn in
    let self = c.args.pipe.now in
    let line : Line t s.came ps c.deref_mut.result.now s.seats self.output taken = subst (λ z. Line t s.came ps z s.seats self.output taken) (sym c.deref_mut.ensures.value) s.line in
    let on = c.hand_out_at.ensures.line ps s.seats s.came self.output taken line in
    let seats = with_items_is self.seats c.hand_out_at.new.seats (omega (arith, c.hand_out_at.ensures.count, c.deref_mut.ensures.len)) in
    let after : Line t s.came ps (with_items self.seats c.hand_out_at.new.seats).items s.seats self.output taken = subst (λ z. Line t s.came ps z s.seats self.output taken) (sym seats) on in
    standing t ps _ h taken s.came s.seats s.after after s.same_end s.going s.closed
