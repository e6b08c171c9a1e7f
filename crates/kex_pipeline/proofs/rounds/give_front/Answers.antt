use Rattle.std.proofs.Common.{rules, ◌≤◌, ◌+◌, ◌-◌, ◌∙◌, ℕ, List, take, drop, arith, length}
use Rattle.std.proofs.lemmas.List.{length-take}
use Rattle.kex_pipe.specs.Standing.{Stands}
use Rattle.kex_pipeline.proofs.StageRounds.{none-given, parts-given, front-some}
use Rattle.kex_pipeline.proofs.rounds.give_front.Goals as goal

pub pieces-init : goal.pieces-init
pieces-init g c =
    let z = c.requires in
    record {
      within = omega arith;
      given = λ ps h taken s. none-given g.T.Turn ps h taken c.args.pipe.now s;
      unended = c.requires.unended;
      closed = c.requires.closed;
      going = c.requires.going;
    }

pub pieces-preserved : goal.pieces-preserved
pieces-preserved g c =
    let t = g.T.Turn in
    let l = c.pieces in
    let bytes = c.args.bytes.now in
    let end : ℕ = c.min-end.result in
    let count : ℕ = c.in_ok-count.count in
    let piece : List ℕ = take (end - l.given) (drop l.given bytes) in
    let long : length piece ≤ end - l.given = omega (arith, length-take (end - l.given) (drop l.given bytes)) in
    let some : count ≤ end - l.given = omega (arith, long, c.in_ok-count.ensures.front.within) in
    record {
      within = omega (arith, c.min-end.ensures, l.invariant.within, some);
      given = λ ps h taken s.
          parts-given t.gives ps (λ k. Stands t ps l.pipe k taken) (λ k. Stands t ps c.give_parts.new.pipe k taken) (λ k. Stands t ps c.work_off.new.pipe k taken) h (take l.given bytes) (take count piece) (take (l.given + count) bytes) (front-some bytes l.given end count some)
          (λ k st. c.in_ok-count.ensures.given ps k taken st) (λ k st. c.in_ok-work_off.ensures.works ps k taken st) (l.invariant.given ps h taken s);
      unended = c.in_ok-work_off.ensures.ended ∙ c.in_ok-count.ensures.ended ∙ l.invariant.unended;
      closed = c.work_off.ensures.closed;
      going = search rules;
    }

pub returns-then-is_due-clause-given : goal.returns-then-is_due-clause-given
returns-then-is_due-clause-given g c = λ ps h taken s.
    let t = g.T.Turn in
    let l = c.pieces in
    let bytes = c.args.bytes.now in
    let end : ℕ = c.min-end.result in
    let count : ℕ = c.in_ok-count.count in
    let piece : List ℕ = take (end - l.given) (drop l.given bytes) in
    let long : length piece ≤ end - l.given = omega (arith, length-take (end - l.given) (drop l.given bytes)) in
    let some : count ≤ end - l.given = omega (arith, long, c.in_ok-count.ensures.front.within) in
    parts-given t.gives ps (λ k. Stands t ps l.pipe k taken) (λ k. Stands t ps c.give_parts.new.pipe k taken) (λ k. Stands t ps c.work_off.new.pipe k taken) h (take l.given bytes) (take count piece) (take (l.given + count) bytes) (front-some bytes l.given end count some)
    (λ k st. c.in_ok-count.ensures.given ps k taken st) (λ k st. c.in_ok-work_off.ensures.works ps k taken st) (l.invariant.given ps h taken s)
