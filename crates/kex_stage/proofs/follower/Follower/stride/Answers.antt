use Rattle.std.proofs.Common.{◌-◌, ◌++◌, List, ℕ, length, take, drop, sym, ap, subst, ◌∙◌, take-append-drop}
use Rattle.std.proofs.lemmas.List.{take_rest}
use Rattle.kex_action.specs.Actors.{IsSettled}
use Rattle.kex_stage.specs.declared.oracle.Oracle.TheVariants.{Table}
use Rattle.kex_stage.specs.Ahead.{CanWait}
use Rattle.kex_stage.specs.Strides.{HasStrode}
use Rattle.kex_stage.specs.Works.{RefusesNone}
use Rattle.kex_stage.proofs.Followers.{goes_rested, strides_on}
use Rattle.kex_stage.proofs.NoRefusals.{if_fault, none_on}
use Rattle.kex_stage.proofs.WaitingBytes.{if_some_here}
use Rattle.kex_stage.proofs.follower.Follower.stride.Goals as goal

pub returns-in_err-state-clause-refuses : goal.returns-in_err-state-clause-refuses
returns-in_err-state-clause-refuses c =
    let fault = c.in_err-state.field-0.0 in
    if_fault c.from_residual-in_err-state.result fault (λ e. RefusesNone (Table c.args.self.now) c.args.actor.now e) c.from_residual-in_err-state.ensures.1
    (none_on (Table c.args.self.now) (Table c.run.new.self) c.args.actor.now c.run.new.actor (take c.in_ok-ran.ran c.args.piece.now) c.args.out.now.items c.run.new.out.items fault c.in_ok-ran.ensures.goes c.in_err-state.ensures.refuses)

pub returns-in-Some-clause-gone : goal.returns-in-Some-clause-gone
returns-in-Some-clause-gone c =
    let o = Table c.args.self.now in
    let m = Table c.run.new.self in
    let piece = c.args.piece.now in
    let ran = c.in_ok-ran.ran in
    let rest = take (length piece - ran) (drop ran piece) in
    let waits = if_some_here c.in_ok-state.field-0 c.in-Some.state (λ q. IsSettled c.look_ahead.new.actor × CanWait m c.look_ahead.new.actor rest q) c.in-Some.is c.in_ok-state.ensures.waits in (
      (c.in_ok-ran.ensures.count, goes_rested o m c.args.actor.now c.run.new.actor c.look_ahead.new.actor (take ran piece) c.args.out.now.items c.run.new.out.items c.look_ahead.new.out.items c.in_ok-ran.ensures.goes c.in_ok-state.ensures.goes),
      waits.0,
      subst (λ l. CanWait m c.look_ahead.new.actor l c.in-Some.state) (take_rest piece ran) waits.1,
    )

pub returns-in_err-stepped-clause-refuses : goal.returns-in_err-stepped-clause-refuses
returns-in_err-stepped-clause-refuses c =
    let fault = c.in_err-stepped.field-0.0 in
    let o = Table c.args.self.now in
    let m = Table c.run.new.self in
    let front = take c.in_ok-ran.ran c.args.piece.now in
    let x = c.args.out.now.items in
    let goes = goes_rested o m c.args.actor.now c.run.new.actor c.look_ahead.new.actor front x c.run.new.out.items c.look_ahead.new.out.items c.in_ok-ran.ensures.goes c.in_ok-state.ensures.goes in
    if_fault c.from_residual-in_err-stepped.result fault (λ e. RefusesNone o c.args.actor.now e) c.from_residual-in_err-stepped.ensures.1
    (none_on o m c.args.actor.now c.look_ahead.new.actor front x c.look_ahead.new.out.items fault goes c.in_err-stepped.ensures.refuses)

pub returns-clause-gone : goal.returns-clause-gone
returns-clause-gone c =
    let o = Table c.args.self.now in
    let m = Table c.run.new.self in
    let n = Table c.step.new.self in
    let piece = c.args.piece.now in
    let ran = c.in_ok-ran.ran in
    let x = c.args.out.now.items in
    let rest : List ℕ = take (length piece - ran) (drop ran piece) in
    let next : List ℕ = take c.min.result rest in
    let s = c.in_ok-stepped.stepped in
    let goes = goes_rested o m c.args.actor.now c.run.new.actor c.look_ahead.new.actor (take ran piece) x c.run.new.out.items c.look_ahead.new.out.items c.in_ok-ran.ensures.goes c.in_ok-state.ensures.goes in
    subst (λ r. HasStrode r o n c.args.actor.now c.step.new.actor piece x c.step.new.out.items) (sym c.past.ensures)
    (strides_on s o m n c.args.actor.now c.look_ahead.new.actor c.step.new.actor piece next (drop c.min.result rest) ran x c.look_ahead.new.out.items c.step.new.out.items
    (sym (take-append-drop ran piece) ∙ ap (λ u. take ran piece ++ u) (sym (take_rest piece ran) ∙ sym (take-append-drop c.min.result rest)))
    c.in_ok-ran.ensures.count c.in_ok-stepped.ensures.none goes c.in_ok-stepped.ensures.gone)
