use Rattle.std.proofs.Common.{◌≡◌, ◌<◌, ◌∷◌, suc, drop, get_or, length, refl, sym, ap, ◌∙◌, arith, subst, ◌+◌}
use Rattle.kex_stage.specs.contracts.stage.StageTurn.TheImpl.{ghosts}
use Rattle.kex_pipe.specs.Reports.{report_as}
use Rattle.kex_each.specs.Chains.{IsStageAnswer, chain_plans}
use Rattle.kex_each.proofs.ChainAnswers.{drop_at, map_at, map_long, map_set, none_behind, so_far_all, so_far_next, so_far_none}
use Rattle.kex_each.proofs.clerk.answer_in_turn.Goals as goal

pub stages-init : goal.stages-init
stages-init c = record { same = refl; so_far = so_far_none (chain_plans c.args.stages.now) c.args.text.now.items }

pub returns-in_err-stop-clause-same : goal.returns-in_err-stop-clause-same
returns-in_err-stop-clause-same c =
    let lt : c.stages.i < length c.stages.stages = (let t = c.stages-test.true in let a = c.stages.auto.stages in omega (arith, t, a)) in
    map_set ghosts.plan c.stages.stages c.stages.i c.answer_by.new.stage c.index-stages-i.result lt c.answer_by.ensures.same ∙ c.stages.invariant.same

pub stages-preserved : goal.stages-preserved
stages-preserved c =
    let i = c.stages.i in
    let all = c.stages.stages in
    let d = c.index-stages-i.result in
    let ps = chain_plans c.args.stages.now in
    let lt : i < length all = (let t = c.stages-test.true in let a = c.stages.auto.stages in omega (arith, t, a)) in
    let same = c.stages.invariant.same in
    let long : i < length ps = (let m = map_long ghosts.plan all in let e = ap length same in omega (arith, m, e, lt)) in
    let p = ghosts.plan (get_or all i d) in
    let here : get_or ps i (ghosts.plan d) ≡ p = ap (λ z. get_or z i (ghosts.plan d)) (sym same) ∙ map_at ghosts.plan all i d lt in
    let at : drop i ps ≡ p ∷ drop (suc i) ps = drop_at i ps (ghosts.plan d) long ∙ ap (λ z. z ∷ drop (suc i) ps) here in
    let stop = c.in_ok-stop.stop in
    record {
      same = map_set ghosts.plan all i c.answer_by.new.stage d lt c.answer_by.ensures.same ∙ same;
      so_far = so_far_next i (i + 1) ps p c.args.text.now.items c.stages.text.items c.deref.result.now c.swap.new.x.items c.stages.ended c.is_ended-ended.result (report_as c.stages.report) (report_as c.latest-report.result) stop
          (omega arith) at c.deref.ensures.value
          (subst (λ z. IsStageAnswer p c.deref.result.now c.stages.ended z stop) (sym (ap (λ v. v.items) c.swap.ensures.x_after)) c.in_ok-stop.ensures.answers)
          c.is_ended-ended.ensures c.latest-report.ensures c.stages.invariant.so_far;
    }

pub returns-clause-answers : goal.returns-clause-answers
returns-clause-answers c =
    let ps = chain_plans c.args.stages.now in
    let past = c.stages-test.false in
    let long = map_long ghosts.plan c.args.stages.now in
    so_far_all c.stages.i ps c.args.text.now.items c.stages.text.items c.stages.ended (report_as c.stages.report) (none_behind c.stages.i ps (omega (arith, past, long))) c.stages.invariant.so_far
