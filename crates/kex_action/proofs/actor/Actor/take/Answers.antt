use Rattle.std.proofs.Common.{true, subst}
use Rattle.kex_action.specs.Holdings.{WritesFront, FollowedCode, state_of}
use Rattle.kex_action.specs.Actors.{WroteFront, StoppedAt, TookAll}
use Rattle.kex_action.proofs.ActorRuns.{took_all, stopped_at, wrote_front, position}
use Rattle.kex_action.proofs.Faults.{if_err, after_memory}
use Rattle.kex_action.proofs.actor.Actor.take.Goals as goal

pub returns-in_err-walked-clause-err : goal.returns-in_err-walked-clause-err
returns-in_err-walked-clause-err c =
    let a = c.self.inside in
    let front = subst (λ q. WritesFront a.machine.now.nodes a.at (state_of c.args.out.now.items a.store) q c.follow.new.out.items) c.performable-allowed.ensures (c.in_err-walked.ensures {u = tt}).err in
    if_err c.from_residual.result c.from_residual.ensures.1 (λ e f. after_memory e _ _ _ _ _ f (subst (λ q. WroteFront q c.args.symbols.now c.args.out.now.items c.follow.new.out.items) c.self.view_is (wrote_front a.machine.now a.at a.store a.refused a.usable c.args.symbols.now c.args.out.now.items c.follow.new.out.items front)))

pub returns-then-walked-symbols-clause-err : goal.returns-then-walked-symbols-clause-err
returns-then-walked-symbols-clause-err c =
    let a = c.self.inside in
    let w = c.in_ok-walked.walked in
    let followed = subst (λ q. FollowedCode a.machine.now a.at (state_of c.args.out.now.items a.store) q w.count w.at c.follow.new.out.items c.follow.new.store) c.performable-allowed.ensures (c.in_ok-walked.ensures {u = tt}).ok in
    subst (λ q. StoppedAt w.count q (position a.machine.now w.at c.follow.new.store true true) c.args.symbols.now c.args.out.now.items c.follow.new.out.items) c.self.view_is (stopped_at a.machine.now a.at w.at a.store c.follow.new.store a.refused a.usable true c.args.symbols.now c.args.out.now.items c.follow.new.out.items w.count c.self.invariant.trimmed c.self.invariant.in_range followed c.if-walked-symbols.true)

pub returns-clause-ok : goal.returns-clause-ok
returns-clause-ok c =
    let a = c.self.inside in
    let w = c.in_ok-walked.walked in
    let followed = subst (λ q. FollowedCode a.machine.now a.at (state_of c.args.out.now.items a.store) q w.count w.at c.follow.new.out.items c.follow.new.store) c.performable-allowed.ensures (c.in_ok-walked.ensures {u = tt}).ok in
    subst (λ q. TookAll q (position a.machine.now w.at c.follow.new.store a.refused true) c.args.symbols.now c.args.out.now.items c.follow.new.out.items) c.self.view_is (took_all a.machine.now a.at w.at a.store c.follow.new.store a.refused a.usable true c.args.symbols.now c.args.out.now.items c.follow.new.out.items w.count c.self.invariant.trimmed c.self.invariant.in_range followed c.if-walked-symbols.false)
