use Rattle.std.proofs.Common.{subst}
use Rattle.kex_moves.specs.Along.{EndsOn}
use Rattle.kex_stage.specs.declared.oracle.Oracle.TheVariants.{Table}
use Rattle.kex_stage.specs.Works.{RefusesNone}
use Rattle.kex_stage.proofs.EndsPast.{ends_past, past_refuses}
use Rattle.kex_stage.proofs.Followers.{none_held}
use Rattle.kex_stage.proofs.NoRefusals.{if_fault}
use Rattle.kex_stage.proofs.follower.Follower.end_past.Goals as goal

pub returns-in_err-speak-clause-refuses : goal.returns-in_err-speak-clause-refuses
returns-in_err-speak-clause-refuses c =
    let f = c.args.self.now in
    let a = c.args.actor.now in
    let b = c.end.new.actor in
    let x = c.args.out.now.items in
    let y = c.end.new.out.items in
    let bs = c.args.bytes.now in
    let fault = c.in_err-speak.field-0.0 in
    let bare = none_held c.holds_registers.result f.runner.registers c.if-holds_registers.false c.holds_registers.ensures.1 in
    let ends = subst (λ q. EndsOn f.moves.table a b q bs x y) c.state-state.ensures.same (c.in_ok-end.ensures.ends c.if-not-branch.false) in
    if_fault c.from_residual-in_err-speak.result fault (λ e. RefusesNone (Table f) a e) c.from_residual-in_err-speak.ensures.1
    (past_refuses f a b bs x y c.requires.told bare ends c.in_ok-end.ensures.machine fault c.in_err-speak.ensures.refused)

pub returns-clause-finishes : goal.returns-clause-finishes
returns-clause-finishes c = λ _.
    let f = c.args.self.now in
    let a = c.args.actor.now in
    let b = c.end.new.actor in
    let x = c.args.out.now.items in
    let y = c.end.new.out.items in
    let bs = c.args.bytes.now in
    let bare = none_held c.holds_registers.result f.runner.registers c.if-holds_registers.false c.holds_registers.ensures.1 in
    let ends = subst (λ q. EndsOn f.moves.table a b q bs x y) c.state-state.ensures.same (c.in_ok-end.ensures.ends c.if-not-branch.false) in
    ends_past f a b bs x y c.requires.told bare ends c.in_ok-end.ensures.machine c.speak.new.actor c.speak.new.out.items c.in_ok-speak.ensures.took c.in_ok-speak.ensures.machine
