use Rattle.std.proofs.Common.{rules, ◌++◌, ◌∷◌, [], ◌∙◌, ◌-◌, ◌≤◌, ℕ, List, take, drop, arith, length}
use Rattle.kex_model.specs.Schedules.{give}
use Rattle.kex_pipe.specs.Standing.{Stands}
use Rattle.kex_pipeline.proofs.StageRounds.{none-given, piece-given, front-more}
use Rattle.kex_pipeline.proofs.turns.give_front.Goals as goal

pub pieces-init : goal.pieces-init
pieces-init g c =
    let z = c.requires in
    record {
      within = omega arith;
      given = λ ps h taken s. none-given g.T.Turn ps h taken c.args.pipe.now s;
      unended = c.requires.unended;
      closed = c.requires.closed;
      going = c.requires.going;
    }

pub pieces-preserved : goal.pieces-preserved
pieces-preserved g c =
    let t = g.T.Turn in
    let l = c.pieces in
    let bytes = c.args.bytes.now in
    let end : ℕ = c.min-end.result in
    let part : List ℕ = take (end - l.given) (drop l.given bytes) in
    let past : l.given ≤ end = omega (arith, c.min-end.ensures, l.invariant.within) in
    let within : end ≤ length bytes = omega (arith, c.min-end.ensures) in
    record {
      within = within;
      given = λ ps h taken s.
          piece-given t.gives ps (λ k. Stands t ps l.pipe k taken) (λ k. Stands t ps c.work_off.new.pipe k taken) h (take l.given bytes) part (take end bytes) (front-more bytes l.given end past)
          (λ k st. c.in_ok-waited.ensures.works ps (k ++ give part ∷ []) taken (c.in_ok-give.ensures.stands ps k taken st))
          (l.invariant.given ps h taken s);
      unended = c.in_ok-waited.ensures.ended ∙ c.give.ensures.ended ∙ l.invariant.unended;
      closed = c.work_off.ensures.closed;
      going = search rules;
    }

pub returns-then-is_due-clause-given : goal.returns-then-is_due-clause-given
returns-then-is_due-clause-given g c = λ ps h taken s.
    let t = g.T.Turn in
    let l = c.pieces in
    let bytes = c.args.bytes.now in
    let end : ℕ = c.min-end.result in
    let part : List ℕ = take (end - l.given) (drop l.given bytes) in
    let past : l.given ≤ end = omega (arith, c.min-end.ensures, l.invariant.within) in
    piece-given t.gives ps (λ k. Stands t ps l.pipe k taken) (λ k. Stands t ps c.work_off.new.pipe k taken) h (take l.given bytes) part (take end bytes) (front-more bytes l.given end past)
    (λ k st. c.in_ok-waited.ensures.works ps (k ++ give part ∷ []) taken (c.in_ok-give.ensures.stands ps k taken st))
    (l.invariant.given ps h taken s)
