use Rattle.std.proofs.Common.{◌≡◌, ◌++◌, ◌∷◌, [], ◌∙◌, false, map, length, refl, sym, ap, ap₂, subst, append_assoc, arith, None}
use Rattle.kex_model.specs.Schedules.{fresh, begun, items_of}
use Rattle.kex_pipe.specs.Rounds.{Each}
use Rattle.kex_pipe.proofs.Stops.{IsNew, all-usable, each-more, each-length, of-next, no-more}
use Rattle.kex_rings.proofs.Standings.{standing, new-line}
use Rattle.kex_rings.proofs.Settles.{row-usable}
use Rattle.kex_rings.proofs.pipe.RingPipe.new.Goals as goal

pub invariant_of-push : goal.invariant_of-push
invariant_of-push g c =
    let l = c.loop-stage in
    let t = g.T.Turn in
    let stage = c.in-Some.stage in
    record { whole = λ yes. g.met.T.Turn.stands_usable stage None (of-next (λ z. t.stands z None) c.args.stages.items l.yielded c.next.new.self.rest.items stage (l.invariant.stages ∙ ap (λ z. l.yielded ++ z) c.in-Some.ensures.steps.0) (λ k d lt. c.requires.unfed k d lt)) }

pub loop-stage-preserved : goal.loop-stage-preserved
loop-stage-preserved g c =
    let l = c.loop-stage in
    let t = g.T.Turn in
    let stage = c.in-Some.stage in
    record {
      stages = l.invariant.stages ∙ ap (λ z. l.yielded ++ z) c.in-Some.ensures.steps.0 ∙ sym (append_assoc l.yielded (stage ∷ []) c.next.new.self.rest.items);
      seats = subst (λ z. Each (IsNew t) (l.yielded ++ stage ∷ []) z) (sym c.in_ok-push.ensures.items)
          (each-more (IsNew t) l.yielded l.seats.items stage _ l.invariant.seats (record { staged = refl; inbox = ap₂ items_of c.new.ensures.bytes c.new.ensures.open; outbox = ap₂ items_of c.new-in-loop-stage.ensures.bytes c.new-in-loop-stage.ensures.open; usable = refl }));
    }

pub invariant_of-result : goal.invariant_of-result
invariant_of-result g c =
    let l = c.loop-stage in
    let t = g.T.Turn in
    let all = no-more c.args.stages.items l.yielded l.stage-iterator.rest.items l.invariant.stages (omega (arith, c.in-None.ensures.steps.0, l.stage-iterator.rest.ok.0)) in
    let long = each-length (IsNew t) l.yielded l.seats.items l.invariant.seats in
    let row = c.in_ok-row.ensures in
    let same = each-length (λ s r. r.seat ≡ s) l.seats.items c.in_ok-row.row.items row.same in
    record {
      some = λ going. omega (arith, c.requires.some, c.args.stages.ok.0, c.in_ok-row.row.ok.0, long, same, ap length all);
      few = omega (arith, c.in_ok-row.row.ok.0, long, same, ap length all, c.args.stages.ok.0, c.if-len.false, c.len.ensures);
      all_usable = λ going. row-usable t l.seats.items c.in_ok-row.row.items row.same (all-usable t l.yielded l.seats.items l.invariant.seats);
      joined = λ going. row.joined;
      rings = λ going. row.rings;
    }

pub returns-clause-count : goal.returns-clause-count
returns-clause-count g c =
    let l = c.loop-stage in
    let all = no-more c.args.stages.items l.yielded l.stage-iterator.rest.items l.invariant.stages (omega (arith, c.in-None.ensures.steps.0, l.stage-iterator.rest.ok.0)) in
    omega (arith, c.in_ok-row.row.ok.0, each-length (λ s r. r.seat ≡ s) l.seats.items c.in_ok-row.row.items c.in_ok-row.ensures.same, each-length (IsNew g.T.Turn) l.yielded l.seats.items l.invariant.seats, ap length all, c.args.stages.ok.0)

pub returns-clause-stands : goal.returns-clause-stands
returns-clause-stands g c =
    let l = c.loop-stage in
    let t = g.T.Turn in
    let all = no-more c.args.stages.items l.yielded l.stage-iterator.rest.items l.invariant.stages (omega (arith, c.in-None.ensures.steps.0, l.stage-iterator.rest.ok.0)) in
    let plans = map t.plan c.args.stages.items in
    let new : Each (IsNew t) c.args.stages.items l.seats.items = subst (λ z. Each (IsNew t) z l.seats.items) (sym all) l.invariant.seats in
    let row = c.in_ok-row.ensures in
    let line = new-line t c.args.room None c.args.stages.items l.seats.items c.in_ok-row.row.items c.new-2.result new row.same row.joined refl row.new (ap₂ items_of c.new-2.ensures.bytes c.new-2.ensures.open) (λ k d lt. c.requires.unfed k d lt) in
    standing t plans _ [] [] [] (map (λ p. fresh) plans) begun line refl refl
