use Rattle.std.proofs.Common.{[], ◌++◌, sym, subst}
use Rattle.kex_code.specs.Codes.{Begins}
use Rattle.kex_model.specs.Schedules.{Settled}
use Rattle.kex_pipe.proofs.Schedule.{came-given}
use Rattle.kex_rings.specs.Lines.{RingLine}
use Rattle.kex_rings.proofs.Standings.{standing-and, has-written, stands-begins, whole-given}
use Rattle.kex_rings.proofs.pipe.RingPipe.settle.Goals as goal

pub returns-in-Ok-clause-works : goal.returns-in-Ok-clause-works
returns-in-Ok-clause-works g c = λ ps h taken s.
    let t = g.T.Turn in
    let r = c.in-Ok.ensures.settles ps h s.came s.seats taken (whole-given h s.came (came-given t.gives s.after)) s.after (subst (λ z. RingLine t s.came [] ps z.items s.seats c.args.self.now.output taken) (sym c.replace-seats.ensures.value) s.line) in
    let both = standing-and t (λ came xs. Settled t.gives came ps xs) ps _ r.0 taken s.came r.3 r.4 r.5 s.same_end s.going r.6 in
    record { events = r.0; same_bytes = r.1; same_end = r.2; stands = both.0; settled = both.1 }

pub returns-in-Err-clause-begins : goal.returns-in-Err-clause-begins
returns-in-Err-clause-begins g c = λ ps h taken s text report answer.
    let t = g.met.T.Turn in
    subst (λ z. Begins text (taken ++ z)) (sym c.in-Err.ensures.hand) (stands-begins g.T.Turn t.one t.grows t.ends ps c.args.self.now h taken s text report answer)

pub returns-in-Err-clause-written : goal.returns-in-Err-clause-written
returns-in-Err-clause-written g c = λ ps h taken s. has-written g.T.Turn ps c.args.self.now _ h taken c.in-Err.ensures.hand s
