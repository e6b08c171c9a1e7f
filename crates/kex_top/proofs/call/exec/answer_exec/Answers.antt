use Rattle.std.proofs.Common.{◌<◌, ◌∙◌, arith, length, map, subst, sym}
use Rattle.std.proofs.lemmas.List.{length-map}
use Rattle.kex_ports.specs.Shelf.{told_of}
use Rattle.kex_plan.specs.Plans.{AllTell, machine_of, teller_of, tellers}
use Rattle.kex_plan.specs.declared.plan.Telling.TheVariants as telling
use Rattle.kex_plan.proofs.ToldPlans.{tellers_of}
use Rattle.kex_words.specs.Words.{reach_of}
use Rattle.kex_top.specs.Refusals.{HoldsStages}
use Rattle.kex_top.proofs.CallAnswers.{ran_as}
use Rattle.kex_top.proofs.TableCommands.{executed, some-held}
use Rattle.kex_top.proofs.call.exec.answer_exec.Goals as goal

pub run_stages-requires-after_bounds : goal.run_stages-requires-after_bounds
run_stages-requires-after_bounds g c = λ κs bounds.
    let told = told_of (g.H.Shelf.texts c.args.shelf.now) c.args.table.now in
    let some : 0 < length (map machine_of c.in_ok-checked.checked) = some-held told _ c.in_ok-checked.ensures.checked in
    let long = length-map c.in_ok-checked.checked machine_of in
    subst (λ ps. 0 < length ps) (sym (c.stages.ensures.same ∙ c.in_ok-short.ensures)) (omega (arith, some, long))

pub returns-clause-answers : goal.returns-clause-answers
returns-clause-answers g c =
    let told = told_of (g.H.Shelf.texts c.args.shelf.now) c.args.table.now in
    let same = c.stages.ensures.same ∙ c.in_ok-short.ensures in
    let agreed = tellers_of telling.Agreed c.stages.result.now (subst (λ ps. AllTell telling.Agreed ps) (sym same) c.in_ok-checked.ensures.agreed) in
    executed c.args.table.now (reach_of c.args.limits) _ _ (map machine_of c.stages.result.now) _ _ c.in_ok-status.status
    (subst (λ ps. HoldsStages told (map machine_of ps)) (sym same) c.in_ok-checked.ensures.checked) (ran_as c.args.limits.max_input (map teller_of c.stages.result.now) (tellers telling.Agreed (map machine_of c.stages.result.now)) _ _ _ c.in_ok-status.status agreed c.in_ok-status.ensures.ran)
