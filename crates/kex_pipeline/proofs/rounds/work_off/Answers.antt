use Rattle.std.proofs.Common.{rules, ◌≡◌, ◌≤◌, ◌+◌, ◌∙◌, suc, length, subst, arith}
use Rattle.std.specs.List.{range_with_len}
use Rattle.std.proofs.lemmas.List.Sorted.{IsPermutation-refl}
use Rattle.kex_pipe.specs.Standing.{stage_count}
use Rattle.kex_pipeline.proofs.StageRounds.{Rounding, one-round, all-rounds, settled-off}
use Rattle.kex_pipeline.proofs.rounds.work_off.Goals as goal

pub rounds-preserved : goal.rounds-preserved
rounds-preserved g c =
    let t = g.T.Turn in
    let l = c.rounds in
    let order = range_with_len 0 (stage_count t l.pipe) in
    record {
      rounds = λ ps h taken s.
          subst (λ n. Rounding t n ps h taken c.round.new.pipe) (let e : suc l._round ≡ l._round + 1 = omega arith in e)
          (one-round t l._round l.pipe.seats.items order ps h taken l.pipe c.round.new.pipe (λ k st done. c.in_ok-round.ensures.settles ps k taken order l._round st (IsPermutation-refl order) done) (l.invariant.rounds ps h taken s));
      same_count = c.round.ensures.count ∙ l.invariant.same_count;
      ended = c.round.ensures.ended ∙ l.invariant.ended;
      closed = c.round.ensures.closed;
      going = search rules;
    }

pub returns-then-settled-clause-works : goal.returns-then-settled-clause-works
returns-then-settled-clause-works g c = λ ps h taken s.
    let t = g.T.Turn in
    let r = c.rounds.invariant.rounds ps h taken s in
    settled-off t ps h taken c.rounds._round c.rounds.pipe r ((c.settled.ensures.settled ps r.events taken r.stands).0 (search rules))

pub returns-clause-works : goal.returns-clause-works
returns-clause-works g c = λ ps h taken s.
    let t = g.T.Turn in
    let l = c.rounds in
    let past : length l.pipe.seats.items ≤ l._round = omega (arith, c.rounds-test.false, l.pipe.seats.ok.0, l.invariant.same_count, c.count-count.ensures) in
    all-rounds t l._round ps h taken l.pipe past (l.invariant.rounds ps h taken s)
