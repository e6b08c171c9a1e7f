use Rattle.std.proofs.Common.{rules, ◌≡◌, ◌≤◌, ◌+◌, ◌-◌, ◌∙◌, ◌∷◌, [], ◌++◌, suc, length, subst, arith}
use Rattle.kex_pipe.specs.Rounds.{turn_of}
use Rattle.kex_pipe.specs.Standing.{Stands}
use Rattle.kex_pipeline.proofs.StageRounds.{Rounding, all-rounds}
use Rattle.kex_pipeline.proofs.StageOrder.{turn-made}
use Rattle.kex_pipeline.proofs.turns.work_off.Goals as goal

pub turns-preserved : goal.turns-preserved
turns-preserved g c =
    let t = g.T.Turn in
    let l = c.turns in
    record {
      turns = λ ps h taken s.
          subst (λ n. Rounding t n ps h taken c.turn_in_parts.new.pipe) (let e : suc l.k ≡ l.k + 1 = omega arith in e)
          (turn-made t g.met.T.Turn.one l.k ps h taken l.pipe c.turn_in_parts.new.pipe (λ k st.
          subst (λ n. Stands t ps c.turn_in_parts.new.pipe (k ++ turn_of t l.pipe.seats.items n ∷ []) taken) (let e : l.k + 1 - 1 ≡ l.k = omega arith in e) (c.in_ok-turn_in_parts.ensures.stands ps k taken st)) (l.invariant.turns ps h taken s));
      same_count = c.turn_in_parts.ensures.count ∙ l.invariant.same_count;
      ended = c.turn_in_parts.ensures.ended ∙ l.invariant.ended;
      closed = c.turn_in_parts.ensures.closed;
      going = search rules;
    }

pub returns-clause-works : goal.returns-clause-works
returns-clause-works g c = λ ps h taken s.
    let t = g.T.Turn in
    let l = c.turns in
    let past : length l.pipe.seats.items ≤ l.k = omega (arith, c.turns-test.false, l.pipe.seats.ok.0, l.invariant.same_count, c.count-count.ensures) in
    all-rounds t l.k ps h taken l.pipe past (l.invariant.turns ps h taken s)
