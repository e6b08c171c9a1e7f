use Rattle.std.proofs.Common.{rules, ◌++◌, ◌∷◌, ◌∙◌, [], length, refl, sym, ap, subst, append_assoc, arith}
use Rattle.std.specs.Prelude.{IsTrue}
use Rattle.kex_pipe.specs.Waiting.{waiting_items}
use Rattle.kex_pipe.proofs.Stops.{of-next, no-more}
use Rattle.kex_rings.specs.Settling.{GathersAll, AllSeatsUsable}
use Rattle.kex_rings.proofs.Joins.{all-both, all-one}
use Rattle.kex_rings.proofs.Settles.{gathers-more}
use Rattle.kex_rings.proofs.settling.gather_each.Goals as goal

pub loop-seat-init : goal.loop-seat-init
loop-seat-init g c =
    let none = c.new-row.ensures.items in
    record {
      seats = search rules;
      usable = λ k d lt. absurd (omega (arith, lt, ap length none));
      gathers = subst (λ z. GathersAll g.T.Turn [] z (waiting_items c.args.unsent.now) (waiting_items c.args.unsent.now)) (sym none) refl;
    }

pub gather_one-requires : goal.gather_one-requires
gather_one-requires g c =
    let l = c.loop-seat in
    of-next (λ s. IsTrue s.seat.usable) c.args.seats.items l.yielded c.next.new.self.rest.items c.in-Some.seat (l.invariant.seats ∙ ap (λ z. l.yielded ++ z) c.in-Some.ensures.steps.0) c.requires

pub loop-seat-preserved : goal.loop-seat-preserved
loop-seat-preserved g c =
    let t = g.T.Turn in
    let l = c.loop-seat in
    let seat = c.in-Some.seat in
    let items = c.in_ok-push.ensures.items in
    record {
      seats = l.invariant.seats ∙ ap (λ z. l.yielded ++ z) c.in-Some.ensures.steps.0 ∙ sym (append_assoc l.yielded (seat ∷ []) c.next.new.self.rest.items);
      usable = subst (λ z. AllSeatsUsable t z) (sym items) (all-both (λ s. IsTrue s.usable) l.row.items _ l.invariant.usable (all-one (λ s. IsTrue s.usable) _ c.in_ok-gathered.ensures.usable));
      gathers = subst (λ z. GathersAll t (l.yielded ++ seat ∷ []) z (waiting_items c.args.unsent.now) (waiting_items c.gather_one.new.unsent)) (sym items)
          (gathers-more t l.yielded l.row.items seat c.in_ok-gathered.gathered (waiting_items c.args.unsent.now) (waiting_items l.unsent) (waiting_items c.gather_one.new.unsent) l.invariant.gathers c.in_ok-gathered.ensures.gathers);
    }

pub returns-clause-gathers : goal.returns-clause-gathers
returns-clause-gathers g c =
    let l = c.loop-seat in
    let all = no-more c.args.seats.items l.yielded l.seat-iterator.rest.items l.invariant.seats (omega (arith, c.in-None.ensures.steps.0, l.seat-iterator.rest.ok.0)) in
    subst (λ z. GathersAll g.T.Turn z l.row.items (waiting_items c.args.unsent.now) (waiting_items l.unsent)) (sym all) l.invariant.gathers
