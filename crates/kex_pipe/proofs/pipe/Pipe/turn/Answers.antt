use Rattle.std.proofs.Common.{◌≡◌, ◌-◌, [], ◌∷◌, ◌++◌, suc, sym, subst, arith}
use Rattle.std.specs.Vec.{with_items}
use Rattle.std.proofs.lemmas.List.{with_items_is}
use Rattle.kex_code.specs.Codes.{Begins}
use Rattle.kex_model.specs.Schedules.{After, turn, turned}
use Rattle.kex_pipe.specs.Events.{bytes_given, end_given}
use Rattle.kex_pipe.specs.Standing.{Line}
use Rattle.kex_pipe.proofs.Schedule.{standing, has-written, came-given}
use Rattle.kex_pipe.proofs.Begins.{stands-begins}
use Rattle.kex_pipe.proofs.pipe.Pipe.turn.Goals as goal

pub returns-in-Ok-clause-stands : goal.returns-in-Ok-clause-stands
returns-in-Ok-clause-stands g c = λ ps h taken s.
    let t = g.T.Turn in
    let i = c.args.i in
    let m = c.args.at_most in
    let self = c.args.self.now in
    let line : Line t s.came ps c.deref_mut.result.now s.seats self.output taken = subst (λ z. Line t s.came ps z s.seats self.output taken) (sym c.deref_mut.ensures.value) s.line in
    let r = c.in-Ok.ensures.turns ps s.seats s.came taken (bytes_given h, end_given h, came-given t.gives s.after) line in
    let number : suc (i - 1) ≡ i = omega (arith, c.requires.from_one) in
    let seats = with_items_is self.seats c.take_turn.new.seats (omega (arith, c.take_turn.ensures.count, c.deref_mut.ensures.len)) in
    let after : Line t s.came ps (with_items self.seats c.take_turn.new.seats).items r.seats c.take_turn.new.output taken = subst (λ z. Line t s.came ps z r.seats c.take_turn.new.output taken) (sym seats) r.line in
    standing t ps _ (h ++ turn i m ∷ []) taken s.came r.seats
    (subst (λ z. After t.gives ps (h ++ turn z m ∷ []) s.came r.seats) number (turned (i - 1) m s.after r.takes))
    after s.same_end s.going s.closed

pub returns-in-Err-clause-memory : goal.returns-in-Err-clause-memory
returns-in-Err-clause-memory g c = λ is ps h taken s text report answer.
    let t = g.met.T.Turn in
    subst (λ z. Begins text (taken ++ z)) (sym c.in-Err.ensures.hand) (stands-begins g.T.Turn t.one t.grows t.ends ps c.args.self.now h taken s text report answer)

pub returns-in-Err-clause-written : goal.returns-in-Err-clause-written
returns-in-Err-clause-written g c = λ is ps h taken s. has-written g.T.Turn ps c.args.self.now _ h taken c.in-Err.ensures.hand s
