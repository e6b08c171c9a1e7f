use Rattle.std.proofs.Common.{◌++◌, ◌∷◌, [], sym, ap, ◌∙◌, subst}
use Rattle.std.specs.Prelude.{OnOk}
use Rattle.kex_machine.specs.Nodes.{Graph}
use Rattle.kex_compile.specs.Stages.{HasMoreNodes, HasTable, HavePlansOrFirst, IsUntabledBy, Plans}
use Rattle.kex_compile.proofs.StageTables.{first_more, known_more, on_ok, planned_more}
use Rattle.kex_compile.proofs.tables.Planning.add.Goals as goal

pub returns-then-is_some-clause-plans : goal.returns-then-is_some-clause-plans
returns-then-is_some-clause-plans c = λ ms number so_far.
    let limits = c.args.limits.now in
    let m = c.args.machine in
    let now = c.args.self.now in
    on_ok c.keep_to_states.result (HasMoreNodes limits m → ⊥) (HavePlansOrFirst limits (ms ++ m ∷ []) now.too_many_pairs now.compiled)
    (λ few. known_more limits ms m now.too_many_pairs now.compiled (sym c.is_some.ensures ∙ c.if-is_some.true) few so_far)
    (subst (λ (z : Graph). OnOk c.keep_to_states.result (HasMoreNodes limits z → ⊥)) c.get.ensures c.keep_to_states.ensures.few)

pub returns-in_ok-push-in-Ok-clause-plans : goal.returns-in_ok-push-in-Ok-clause-plans
returns-in_ok-push-in-Ok-clause-plans c = λ ms number so_far.
    let limits = c.args.limits.now in
    let now = c.args.self.now in
    let plan = c.in-Ok.planned.plan in
    let made = c.in-Ok.ensures in
    let pushed = c.in_ok-push-in-Ok.ensures.pushed in
    planned_more limits ms c.args.machine now.too_many_pairs now.compiled c.push.new.self c.in-Ok.planned.states plan.table
    (sym c.is_some.ensures ∙ c.if-is_some.false)
    (ap (λ (z : Plans). z.stages) pushed ∙ ap (λ (x : Graph). now.compiled.stages ++ x ∷ []) made.machine)
    (ap (λ (z : Plans). z.tables) pushed)
    (ap (λ (z : Plans). z.states) pushed)
    (subst (λ (x : Graph). HasTable limits x plan.table) made.machine made.table)
    made.states made.pairs so_far

pub returns-in-Err-TooManyPairs-clause-plans : goal.returns-in-Err-TooManyPairs-clause-plans
returns-in-Err-TooManyPairs-clause-plans c = λ ms number so_far.
    let limits = c.args.limits.now in
    let now = c.args.self.now in
    let why = subst (λ e. IsUntabledBy limits c.args.machine e) c.in-Err-TooManyPairs.field-0-is c.in-Err-TooManyPairs.ensures.refused in
    first_more limits ms c.args.machine now.too_many_pairs c.args.stage now.compiled number (sym c.is_some.ensures ∙ c.if-is_some.false) (c.requires.optimal why.1.0) why.0 why.1 so_far
