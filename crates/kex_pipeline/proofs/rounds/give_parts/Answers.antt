use Rattle.std.proofs.Common.{rules, ◌++◌, ◌∷◌, [], ◌∙◌, ◌-◌, ◌≤◌, ℕ, List, take, drop, refl, arith, length}
use Rattle.std.specs.List.{range_with_len}
use Rattle.std.proofs.lemmas.List.Sorted.{IsPermutation-refl}
use Rattle.kex_model.specs.Schedules.{give}
use Rattle.kex_pipe.specs.Standing.{stage_count}
use Rattle.kex_pipeline.proofs.StageRounds.{none-given, part-given, front-more}
use Rattle.kex_pipeline.proofs.rounds.give_parts.Goals as goal

pub parts-init : goal.parts-init
parts-init g c =
    let z = c.requires in
    record {
      within = omega arith;
      given = λ ps h taken s. none-given g.T.Turn ps h taken c.args.pipe.now s;
      ended = refl;
      closed = c.requires.closed;
      going = c.requires.going;
    }

pub parts-preserved : goal.parts-preserved
parts-preserved g c =
    let t = g.T.Turn in
    let l = c.parts in
    let order = range_with_len 0 (stage_count t c.give.new.self) in
    let bytes = c.args.bytes.now in
    let end : ℕ = c.min-end.result in
    let part : List ℕ = take (end - l.given) (drop l.given bytes) in
    let past : l.given ≤ end = omega (arith, c.min-end.ensures, l.invariant.within) in
    let within : end ≤ length bytes = omega (arith, c.min-end.ensures) in
    record {
      within = within;
      given = λ ps h taken s.
          part-given t (take l.given bytes) part (take end bytes) c.give.new.self.seats.items order ps h taken l.pipe c.round.new.pipe (front-more bytes l.given end past)
          (λ k st. c.in_ok-round.ensures.stands ps (k ++ give part ∷ []) taken order (c.in_ok-give.ensures.stands ps k taken st) (IsPermutation-refl order))
          (l.invariant.given ps h taken s);
      ended = c.round.ensures.ended ∙ c.give.ensures.ended ∙ l.invariant.ended;
      closed = c.round.ensures.closed;
      going = search rules;
    }

pub returns-then-is_due-clause-given : goal.returns-then-is_due-clause-given
returns-then-is_due-clause-given g c = λ ps h taken s.
    let t = g.T.Turn in
    let l = c.parts in
    let order = range_with_len 0 (stage_count t c.give.new.self) in
    let bytes = c.args.bytes.now in
    let end : ℕ = c.min-end.result in
    let part : List ℕ = take (end - l.given) (drop l.given bytes) in
    let past : l.given ≤ end = omega (arith, c.min-end.ensures, l.invariant.within) in
    part-given t (take l.given bytes) part (take end bytes) c.give.new.self.seats.items order ps h taken l.pipe c.round.new.pipe (front-more bytes l.given end past)
    (λ k st. c.in_ok-round.ensures.stands ps (k ++ give part ∷ []) taken order (c.in_ok-give.ensures.stands ps k taken st) (IsPermutation-refl order))
    (l.invariant.given ps h taken s)
