use Rattle.std.proofs.Common.{◌≡◌, ◌++◌, true, sym, ap, subst}
use Rattle.std.specs.Prelude.{is_ok}
use Rattle.kex_rings.specs.Looking.{WorkedAll}
use Rattle.kex_rings.proofs.Rounds.{both-worked, not-worked, one-worked}
use Rattle.kex_rings.proofs.round.+fn-work_all-join_mut+arg2+fn-work_all-join_mut+arg3+work_all.Goals as goal

pub returns-in-Some : goal.returns-in-Some
returns-in-Some g t c =
    let item = c.in-Some.ensures.item in
    one-worked g.T.Turn c.work.result c.args.task.now.room c.args.seats.now c.in-Some.seat.now c.work.new.seat c.if-seats-lt2.true item.3.0 item.1 c.work.ensures.looks c.work.ensures.usable

pub returns-in_err-one : goal.returns-in_err-one
returns-in_err-one g t c = not-worked g.T.Turn c.from_residual.result c.args.task.now.room _ _ c.from_residual.ensures.0

pub returns : goal.returns
returns g t c =
    let h = c.split_at_mut-front in
    let m = c.join_mut-one.ensures.0.met in
    let n = c.join_mut-one.ensures.1.met in
    let here : c.join_mut-one.new.f.2.now ≡ c.front-1.given.0 = sym (c.front-1.given.1.1 (sym m.0.2)) in
    let there : c.join_mut-one.new.g.2.now ≡ c.back-1.given.0 = sym (c.back-1.given.1.1 (sym n.0.2)) in
    let front : WorkedAll g.T.Turn c.args.task.now.room (is_ok c.join_mut-one.result.0) h.result.0.now c.front-1.given.0 = subst (λ z. WorkedAll g.T.Turn c.args.task.now.room (is_ok c.join_mut-one.result.0) h.result.0.now z) here m.1 in
    let back : WorkedAll g.T.Turn c.args.task.now.room (is_ok c.join_mut-one.result.1) h.result.1.now c.back-1.given.0 = subst (λ r. WorkedAll g.T.Turn r (is_ok c.join_mut-one.result.1) h.result.1.now c.back-1.given.0) c.after-rest.ensures.same.1 (subst (λ z. WorkedAll g.T.Turn c.after-rest.result.room (is_ok c.join_mut-one.result.1) h.result.1.now z) there n.1) in
    subst (λ z. WorkedAll g.T.Turn c.args.task.now.room (is_ok c.join_mut-one.result.1) z (c.front-1.given.0 ++ c.back-1.given.0)) (sym h.ensures.value)
    (both-worked g.T.Turn c.args.task.now.room (is_ok c.join_mut-one.result.0) (is_ok c.join_mut-one.result.1) h.result.0.now c.front-1.given.0 h.result.1.now c.back-1.given.0 (ap is_ok c.in_ok-one.was) front back)
