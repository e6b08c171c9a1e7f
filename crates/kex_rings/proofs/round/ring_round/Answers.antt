use Rattle.std.proofs.Common.{[], ◌++◌, None, sym, subst, arith}
use Rattle.std.specs.Vec.{with_items}
use Rattle.std.proofs.lemmas.List.{with_items_is}
use Rattle.kex_code.specs.Codes.{Begins}
use Rattle.kex_pipe.proofs.Schedule.{came-given}
use Rattle.kex_rings.specs.Ends.{AreBeside}
use Rattle.kex_rings.specs.Looking.{AllRingSeatsUsable}
use Rattle.kex_rings.specs.Lines.{RingLine, Joined, HaveRings, turns_from, AllGetOn}
use Rattle.kex_rings.proofs.Standings.{standing, has-written, whole-given}
use Rattle.kex_rings.proofs.round.ring_round.Goals as goal

pub invariant_of-pipe : goal.invariant_of-pipe
invariant_of-pipe g c =
    let t = g.T.Turn in
    let pipe = c.args.pipe.now in
    let seats = with_items_is pipe.seats c.run.new.seats (omega (arith, c.in-Ok.ensures.count, c.deref_mut.ensures.len)) in
    record {
      some = pipe.some;
      few = pipe.few;
      all_usable = λ going. subst (λ z. AllRingSeatsUsable t z) (sym seats) c.in-Ok.ensures.usable;
      joined = λ going. subst (λ z. Joined t (AreBeside pipe.room) None z) (sym seats) c.in-Ok.ensures.joined;
      rings = λ going. subst (λ z. HaveRings t z) (sym seats) c.in-Ok.ensures.rings;
    }

pub returns-in-Ok-clause-stands : goal.returns-in-Ok-clause-stands
returns-in-Ok-clause-stands g c = λ ps h taken s.
    let t = g.T.Turn in
    let pipe = c.args.pipe.now in
    let line : RingLine t s.came [] ps c.deref_mut.result.now s.seats pipe.output taken = subst (λ z. RingLine t s.came [] ps z s.seats pipe.output taken) (sym c.deref_mut.ensures.value) s.line in
    let r = c.in-Ok.ensures.turns ps h s.came s.seats taken (whole-given h s.came (came-given t.gives s.after)) s.after line in
    let seats = with_items_is pipe.seats c.run.new.seats (omega (arith, c.in-Ok.ensures.count, c.deref_mut.ensures.len)) in
    let after : RingLine t s.came [] ps (with_items pipe.seats c.run.new.seats).items r.0 c.run.new.output taken = subst (λ z. RingLine t s.came [] ps z r.0 c.run.new.output taken) (sym seats) r.2 in
    standing t ps _ (h ++ turns_from 0 c.run.new.counts.items) taken s.came r.0 r.1 after s.same_end s.going

pub returns-in-Ok-clause-gets_on : goal.returns-in-Ok-clause-gets_on
returns-in-Ok-clause-gets_on g c =
    let t = g.T.Turn in
    let pipe = c.args.pipe.now in
    let seats = with_items_is pipe.seats c.run.new.seats (omega (arith, c.in-Ok.ensures.count, c.deref_mut.ensures.len)) in
    subst (λ z. AllGetOn t pipe.room pipe.seats.items z c.run.new.counts.items) (sym seats) (subst (λ z. AllGetOn t pipe.room z c.run.new.seats c.run.new.counts.items) c.deref_mut.ensures.value c.in-Ok.ensures.gets_on)

pub returns-in-Err-clause-begins : goal.returns-in-Err-clause-begins
returns-in-Err-clause-begins g c = λ ps h taken s text report answer.
    subst (λ z. Begins text (taken ++ z)) (sym c.in-Err.ensures.hand) (c.begins.ensures ps h taken s text report answer)

pub returns-in-Err-clause-written : goal.returns-in-Err-clause-written
returns-in-Err-clause-written g c = λ ps h taken s. has-written g.T.Turn ps c.args.pipe.now _ h taken c.in-Err.ensures.hand s
