use Rattle.std.proofs.Common.{subst, sym, ◌∙◌}
use Rattle.kex_machine.specs.Nodes.{Graph}
use Rattle.kex_runner.specs.Quiet.{GoesQuietly}
use Rattle.kex_stage.specs.declared.oracle.Oracle.TheVariants.{Table}
use Rattle.kex_stage.specs.Ahead.{IsIdleAt}
use Rattle.kex_stage.specs.PastFirsts.{IsPastFirst}
use Rattle.kex_stage.specs.Works.{RefusesNone}
use Rattle.kex_stage.proofs.Followers.{goes_nowhere, none_held, place_within, rests}
use Rattle.kex_stage.proofs.NoRefusals.{if_fault, rest_none}
use Rattle.kex_stage.proofs.PastTurns.{first_waits}
use Rattle.kex_stage.proofs.WaitingBytes.{quiet_waits}
use Rattle.kex_stage.proofs.follower.Follower.look_ahead.Goals as goal

pub returns-in-Nothing-clause-goes : goal.returns-in-Nothing-clause-goes
returns-in-Nothing-clause-goes c = goes_nowhere (Table c.args.self.now) c.args.actor.now c.args.out.now.items

pub returns-then-is_empty-clause-goes : goal.returns-then-is_empty-clause-goes
returns-then-is_empty-clause-goes c = goes_nowhere (Table c.args.self.now) c.args.actor.now c.args.out.now.items

pub returns-in_err-speak-clause-refuses : goal.returns-in_err-speak-clause-refuses
returns-in_err-speak-clause-refuses c =
    let fault = c.in_err-speak.field-0.0 in
    if_fault c.from_residual.result fault (λ e. RefusesNone (Table c.args.self.now) c.args.actor.now e) c.from_residual.ensures.1
    (rest_none c.args.self.now c.args.actor.now fault c.in_err-speak.ensures.refused)

pub returns-in-Some-clause-goes : goal.returns-in-Some-clause-goes
returns-in-Some-clause-goes c = rests (Table c.args.self.now) c.args.actor.now c.speak.new.actor c.args.out.now.items c.speak.new.out.items c.in_ok-speak.ensures.took c.in_ok-speak.ensures.machine

pub returns-in-Some-clause-waits : goal.returns-in-Some-clause-waits
returns-in-Some-clause-waits c =
    let f = c.args.self.now in
    let to = c.in-Some.to in
    let settled = c.in_ok-speak.ensures.took.settled in
    (settled, quiet_waits f c.speak.new.actor c.args.piece.now to c.requires.told settled (subst (λ n. GoesQuietly f.runner.table n to c.args.piece.now) c.state-state.ensures.same c.in-Some.ensures))

pub returns-then-not-past-clause-goes : goal.returns-then-not-past-clause-goes
returns-then-not-past-clause-goes c = goes_nowhere (Table c.args.self.now) c.args.actor.now c.args.out.now.items

pub past_first-requires-clause-within : goal.past_first-requires-clause-within
past_first-requires-clause-within c = place_within c.args.self.now.runner.table c.state-state.result c.args.self.now.runner.registers c.state-state.ensures.place

pub returns-in_default-past_first-clause-goes : goal.returns-in_default-past_first-clause-goes
returns-in_default-past_first-clause-goes c = goes_nowhere (Table c.args.self.now) c.args.actor.now c.args.out.now.items

pub returns-in_err-speak-2-clause-refuses : goal.returns-in_err-speak-2-clause-refuses
returns-in_err-speak-2-clause-refuses c =
    let fault = c.in_err-speak-2.field-0.0 in
    if_fault c.from_residual-in_err-speak-2.result fault (λ e. RefusesNone (Table c.args.self.now) c.args.actor.now e) c.from_residual-in_err-speak-2.ensures.1
    (rest_none c.args.self.now c.args.actor.now fault c.in_err-speak-2.ensures.refused)

pub returns-then-not-branch-clause-goes : goal.returns-then-not-branch-clause-goes
returns-then-not-branch-clause-goes c = rests (Table c.args.self.now) c.args.actor.now c.speak-2.new.actor c.args.out.now.items c.speak-2.new.out.items c.in_ok-speak-2.ensures.took c.in_ok-speak-2.ensures.machine

pub returns-clause-goes : goal.returns-clause-goes
returns-clause-goes c = rests (Table c.args.self.now) c.args.actor.now c.speak-2.new.actor c.args.out.now.items c.speak-2.new.out.items c.in_ok-speak-2.ensures.took c.in_ok-speak-2.ensures.machine

pub returns-clause-waits : goal.returns-clause-waits
returns-clause-waits c =
    let f = c.args.self.now in
    let a = c.speak-2.new.actor in
    let first = c.in-Some-past_first.first in
    let bare = none_held c.holds_registers.result f.runner.registers c.if-holds_registers.false c.holds_registers.ensures.1 in
    let seen : IsPastFirst f.runner.table f.runner.state c.args.piece.now first = subst (λ q. IsPastFirst f.runner.table q c.args.piece.now first) c.state-state.ensures.same c.in-Some-past_first.ensures in
    let machine = c.in_ok-speak-2.ensures.machine ∙ c.requires.learnt in
    let there : IsIdleAt a.machine.nodes c.node.result first.said.now = subst (λ (g : Graph). IsIdleAt g.nodes c.node.result first.said.now) (f.own_machine ∙ sym machine) (c.in_ok-is_idle.ensures c.if-not-branch.false) in
    let idle = subst (λ n. IsIdleAt a.machine.nodes n first.said.now) c.node.ensures.at there in
    (c.in_ok-speak-2.ensures.took.settled, first_waits f a c.args.piece.now first c.requires.told bare seen idle)
