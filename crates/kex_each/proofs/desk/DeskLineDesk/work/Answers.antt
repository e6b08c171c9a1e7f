use Rattle.std.proofs.Common.{◌<◌, ◌++◌, ◌∷◌, [], get_or, length, sym, subst, ◌∙◌, arith}
use Rattle.kex_stage.specs.Stages.{Gives}
use Rattle.kex_each.specs.Answers.{AnswersLine, PlansAnswerLines}
use Rattle.kex_each.specs.Desks.{lines_between}
use Rattle.kex_each.proofs.DeskLists.{between_more, each_more}
use Rattle.kex_each.proofs.desk.DeskLineDesk.work.Goals as goal

pub lines-preserved : goal.lines-preserved
lines-preserved c =
    let i = c.lines.invariant in
    let ps = c.args.self.now.plans in
    let lines = c.args.lines.now in
    let at = c.lines.i in
    let low = i.low in
    let lt : at < length lines = (let t = c.lines-test.true in let w = c.requires.1 in omega (arith, t, w)) in
    let x = c.in_ok-answer.ensures.answers in
    let line = subst (λ z. AnswersLine (λ p w e a. Gives p w e a) ps z x.0) c.get.ensures (subst (λ z. AnswersLine (λ p w e a. Gives p w e a) z c.get.result.now x.0) i.plans x.1) in
    let all = each_more _ (lines_between c.args.from at lines) c.lines.self-inside.answers (get_or lines at []) x.0 i.answers line in
    record {
      plans = c.answer.ensures.same ∙ i.plans;
      low = omega (arith, low);
      answers = subst (λ z. PlansAnswerLines ps z c.answer.new.out) (sym (between_more c.args.from at lines low lt)) (subst (λ z. PlansAnswerLines ps (lines_between c.args.from at lines ++ get_or lines at [] ∷ []) z) (sym x.2) all);
    }
