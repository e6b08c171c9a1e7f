use Rattle.std.proofs.Common.{rules, ◌∙◌, ◌++◌, inl, inr, suc, map, refl, sym, ap, subst, arith}
use Rattle.std.specs.Prelude.{IsPermutation}
use Rattle.std.specs.List.{range_with_len}
use Rattle.std.proofs.lemmas.List.{with_items_is}
use Rattle.kex_code.specs.Codes.{Begins}
use Rattle.kex_pipe.specs.Events.{bytes_given, end_given}
use Rattle.kex_pipe.specs.Waiting.{unread_bytes}
use Rattle.kex_pipe.specs.Seats.{IsWhole}
use Rattle.kex_pipe.specs.Rounds.{LeftBy, turn_of}
use Rattle.kex_pipe.specs.Standing.{Line}
use Rattle.kex_pipe.specs.Settling.{SettledTo}
use Rattle.kex_pipe.proofs.Schedule.{standing, standing-and, has-written, came-given}
use Rattle.kex_pipe.proofs.Begins.{stands-begins}
use Rattle.kex_pipe.proofs.Stops.{each-length}
use Rattle.kex_pipe.proofs.Transfers.{AllUsable}
use Rattle.kex_pipe.proofs.RoundTurns.{jobs, seats_now, all_true, all-worked, those-all, round-after, round-line, settles-more}
use Rattle.kex_pipe.proofs.pipe.Pipe.end_round.Goals as goal
use Rattle.kex_pipe.proofs.pipe.Pipe.end_round.Goals.{then-self-via-then-self, then-self-via-else-self+then-not-all_usable}

pub invariant_of-self : goal.invariant_of-self
invariant_of-self g c =
    let own = c.requires.own in
    let long = each-length (LeftBy g.T.Turn) own.before.seats.items c.args.seats.items own.left in
    record {
      some = λ closed. omega (arith, long, own.before.some own.began.closed, own.before.seats.ok.0, c.args.seats.ok.0);
      few = omega (arith, long, own.before.few, own.before.seats.ok.0, c.args.seats.ok.0);
      all_usable = λ bad. cc;
    }

pub invariant_of-self-in-Ok : goal.invariant_of-self-in-Ok
invariant_of-self-in-Ok g c =
    let own = c.requires.own in
    let long = each-length (LeftBy g.T.Turn) own.before.seats.items c.args.seats.items own.left in
    let items = with_items_is c.args.seats c.carry_all.new.seats (omega (arith, c.carry_all.ensures.count, c.deref_mut.ensures.len)) in
    record {
      some = λ closed. omega (arith, long, own.before.some own.began.closed, own.before.seats.ok.0, c.args.seats.ok.0);
      few = omega (arith, long, own.before.few, own.before.seats.ok.0, c.args.seats.ok.0);
      all_usable = λ going. subst (λ z. AllUsable g.T.Turn z) (sym items) c.carry_all.ensures.usable;
    }

pub invariant_of-self-in-Err : goal.invariant_of-self-in-Err
invariant_of-self-in-Err g c =
    let own = c.requires.own in
    let long = each-length (LeftBy g.T.Turn) own.before.seats.items c.args.seats.items own.left in
    record {
      some = λ closed. omega (arith, long, own.before.some own.began.closed, own.before.seats.ok.0, c.args.seats.ok.0);
      few = omega (arith, long, own.before.few, own.before.seats.ok.0, c.args.seats.ok.0);
      all_usable = λ bad. cc;
    }

pub returns-then-self-clause-begins : goal.returns-then-self-clause-begins
returns-then-self-clause-begins g c = λ before ps h taken began s text report answer.
    let t = g.met.T.Turn in
    subst (λ z. Begins text (taken ++ unread_bytes z)) (sym began.same_output) (stands-begins g.T.Turn t.one t.grows t.ends ps before h taken s text report answer)

pub returns-then-self-clause-spent : goal.returns-then-self-clause-spent
returns-then-self-clause-spent g c = (
  λ e. elim c.then-self.branch [
    | then-self-via-then-self w ↦ inl (search (rules, w.if-self.true))
    | then-self-via-else-self+then-not-all_usable w ↦ inr (λ all. let yes = w.all_usable.ensures.1 (subst (λ z. AllUsable g.T.Turn z) (sym w.deref.ensures.value) all) in absurd (search rules))
  ],
  λ h. refl,
)

pub returns-in-Ok-clause-stands : goal.returns-in-Ok-clause-stands
returns-in-Ok-clause-stands g c = λ before ps h taken worked order began s works perm.
    let t = g.T.Turn in
    let xs = seats_now worked (jobs t before.seats.items s.seats) in
    let whole : IsWhole s.came = (bytes_given h, end_given h, came-given t.gives s.after) in
    let items = with_items_is c.args.seats c.carry_all.new.seats (omega (arith, c.carry_all.ensures.count, c.deref_mut.ensures.len)) in
    let after = round-after t h s.came ps before.seats.items c.args.seats.items s.seats before.output taken worked order s.after s.line works whole perm in
    let line = round-line t s.came ps before.seats.items c.args.seats.items c.deref_mut.result.now c.carry_all.new.seats s.seats before.output c.args.self.now.output c.carry_all.new.output taken worked s.line works whole c.deref_mut.ensures.value began.same_output c.in-Ok.ensures.carries in
    standing t ps _ (h ++ map (turn_of t before.seats.items) order) taken s.came xs after (subst (λ z. Line t s.came ps z xs c.carry_all.new.output taken) (sym items) line) (began.same_end ∙ s.same_end) c.if-self.false refl

pub returns-in-Ok-clause-settles : goal.returns-in-Ok-clause-settles
returns-in-Ok-clause-settles g c = λ before ps h taken order k s began works perm done.
    let t = g.T.Turn in
    let worked = all_true t before.seats.items in
    let xs = seats_now worked (jobs t before.seats.items s.seats) in
    let whole : IsWhole s.came = (bytes_given h, end_given h, came-given t.gives s.after) in
    let items = with_items_is c.args.seats c.carry_all.new.seats (omega (arith, c.carry_all.ensures.count, c.deref_mut.ensures.len)) in
    let numbers = those-all t before.seats.items 0 ∙ ap (λ z. range_with_len 0 z) (let e = before.seats.ok.0 in omega arith) in
    let as_worked = all-worked t before.seats.items c.args.seats.items works in
    let after = round-after t h s.came ps before.seats.items c.args.seats.items s.seats before.output taken worked order s.after s.line as_worked whole (subst (λ z. IsPermutation z order) (sym numbers) perm) in
    let line = round-line t s.came ps before.seats.items c.args.seats.items c.deref_mut.result.now c.carry_all.new.seats s.seats before.output c.args.self.now.output c.carry_all.new.output taken worked s.line as_worked whole c.deref_mut.ensures.value began.same_output c.in-Ok.ensures.carries in
    standing-and t (λ came ys. SettledTo t.gives (suc k) came ps ys) ps _ (h ++ map (turn_of t before.seats.items) order) taken s.came xs after (subst (λ z. Line t s.came ps z xs c.carry_all.new.output taken) (sym items) line) (began.same_end ∙ s.same_end) c.if-self.false refl
    (settles-more t g.met.T.Turn.one k s.came ps before.seats.items c.args.seats.items s.seats before.output taken s.line works whole done)

pub returns-in-Err-clause-begins : goal.returns-in-Err-clause-begins
returns-in-Err-clause-begins g c = λ before ps h taken began s text report answer.
    let t = g.met.T.Turn in
    subst (λ z. Begins text (taken ++ z)) (ap unread_bytes (sym began.same_output) ∙ sym c.in-Err.ensures.hand) (stands-begins g.T.Turn t.one t.grows t.ends ps before h taken s text report answer)

pub returns-then-self-clause-written : goal.returns-then-self-clause-written
returns-then-self-clause-written g c = λ before ps h taken began s. has-written g.T.Turn ps before _ h taken (ap unread_bytes began.same_output) s

pub returns-in-Err-clause-written : goal.returns-in-Err-clause-written
returns-in-Err-clause-written g c = λ before ps h taken began s. has-written g.T.Turn ps before _ h taken (c.in-Err.ensures.hand ∙ ap unread_bytes began.same_output) s
