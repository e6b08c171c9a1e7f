use Rattle.std.proofs.Common.{rules, ◌≡◌, ◌-◌, ◌++◌, ◌∷◌, ◌∙◌, [], None, length, refl, sym, ap, subst, append_assoc, arith}
use Rattle.std.specs.Prelude.{All, IsSome}
use Rattle.std.proofs.lemmas.Bool.{le-ltb, lt-ltb}
use Rattle.kex_pipe.specs.Rounds.{Each}
use Rattle.kex_pipe.proofs.Stops.{each-more, no-more}
use Rattle.kex_rings.specs.Ends.{sent_to, taken_from, IsLast, AreBeside}
use Rattle.kex_rings.specs.Lines.{AreNew, HaveRings}
use Rattle.kex_rings.proofs.Joins.{JoinedTo, Row, joined-more, joined-end, rings-more, all-both, all-one}
use Rattle.kex_rings.proofs.joining.join_all.Goals as goal

pub loop-seat-init : goal.loop-seat-init
loop-seat-init g c =
    let none = c.new-row.ensures.items in
    record {
      seats = search rules;
      same = subst (λ z. Each (λ s r. r.seat ≡ s) [] z) (sym none) tt;
      left = search rules;
      joined = subst (λ z. Row g.T.Turn c.args.room z None c.len-left.result) (sym none) (record { last = None; joined = refl; here = (tt, refl); end = λ e. tt });
      new = λ k d lt. absurd (omega (arith, lt, ap length none));
      rings = subst (λ z. HaveRings g.T.Turn z) (sym none) tt;
      all_rings = λ more k d lt. absurd (omega (arith, lt, ap length none));
      from_new = refl;
    }

pub loop-seat-preserved : goal.loop-seat-preserved
loop-seat-preserved g c =
    let t = g.T.Turn in
    let l = c.loop-seat in
    let r = l.invariant.joined in
    let seat = c.in-Some.seat in
    let items = c.in_ok-push.ensures.items in
    let R = AreBeside c.args.room in
    let from = sym c.replace.ensures.value in
    let had = l.invariant.all_rings (omega (arith, l.invariant.left, ap length c.in-Some.ensures.steps.0)) in
    record {
      seats = l.invariant.seats ∙ ap (λ z. l.yielded ++ z) c.in-Some.ensures.steps.0 ∙ sym (append_assoc l.yielded (seat ∷ []) c.next.new.self.rest.items);
      same = subst (λ z. Each (λ s r. r.seat ≡ s) (l.yielded ++ seat ∷ []) z) (sym items) (each-more (λ s r. r.seat ≡ s) l.yielded l.row.items seat _ l.invariant.same refl);
      left = omega (arith, l.invariant.left, ap length c.in-Some.ensures.steps.0);
      joined = record {
        last = c.in_ok-to.to;
        joined = subst (λ z. JoinedTo t R None z c.in_ok-to.to) (sym items) (joined-more t R None r.last l.row.items _ r.joined (subst (λ z. R r.last z) from r.here));
        here = subst (λ z. R c.in_ok-to.to z) (sym c.replace.ensures.after) c.in_ok-to.ensures.beside;
        end = λ none. subst IsLast (sym (c.in_ok-to.ensures.none (le-ltb 0 (l.left - 1) (omega (arith, none))))) tt;
      };
      new = subst (λ z. AreNew t z) (sym items) (all-both (λ s. (sent_to s.to ≡ []) × (taken_from s.from ≡ [])) l.row.items _ l.invariant.new (all-one (λ s. (sent_to s.to ≡ []) × (taken_from s.from ≡ [])) _ (c.in_ok-to.ensures.new.0, ap taken_from (sym from) ∙ l.invariant.from_new)));
      rings = subst (λ z. HaveRings t z) (sym items) (rings-more t l.row.items _ had);
      all_rings = λ more. subst (λ z. All (λ s. IsSome s.to) z) (sym items) (all-both (λ s. IsSome s.to) l.row.items _ had (all-one (λ s. IsSome s.to) _ (c.in_ok-to.ensures.some (lt-ltb 0 (l.left - 1) more))));
      from_new = ap taken_from c.replace.ensures.after ∙ c.in_ok-to.ensures.new.1;
    }

pub returns-clause-joined : goal.returns-clause-joined
returns-clause-joined g c =
    let l = c.loop-seat in
    let r = l.invariant.joined in
    joined-end g.T.Turn (AreBeside c.args.room) None r.last l.row.items r.joined (r.end (omega (arith, l.invariant.left, c.in-None.ensures.steps.0, l.seat-iterator.rest.ok.0)))

pub returns-clause-rings : goal.returns-clause-rings
returns-clause-rings g c = c.loop-seat.invariant.rings

pub returns-clause-same : goal.returns-clause-same
returns-clause-same g c =
    let l = c.loop-seat in
    let all = no-more c.args.seats.items l.yielded l.seat-iterator.rest.items l.invariant.seats (omega (arith, c.in-None.ensures.steps.0, l.seat-iterator.rest.ok.0)) in
    subst (λ z. Each (λ s r. r.seat ≡ s) z l.row.items) (sym all) l.invariant.same
