use Rattle.std.proofs.Common.{suc, ◌++◌, ◌∷◌, [], sym, ◌∙◌, arith}
use Rattle.kex_compile.specs.Stages.{HasEachPlan, HavePlansOrFirst}
use Rattle.kex_compile.proofs.StageTables.{known_again, on_ok, planned_again}
use Rattle.kex_compile.proofs.tables.Planning.add_again.Goals as goal

pub returns-then-is_some-clause-plans : goal.returns-then-is_some-clause-plans
returns-then-is_some-clause-plans c = λ limits ms m at so_far.
    let now = c.args.self.now in
    known_again limits ms c.args.earlier m now.too_many_pairs now.compiled (sym c.is_some.ensures ∙ c.if-is_some.true) at so_far

pub returns-clause-plans : goal.returns-clause-plans
returns-clause-plans c = λ limits ms m at so_far.
    let now = c.args.self.now in
    on_ok c.push_again.result _ (HavePlansOrFirst limits (ms ++ m ∷ []) now.too_many_pairs c.push_again.new.self)
    (λ pushed. planned_again limits ms c.args.earlier m now.too_many_pairs now.compiled c.push_again.new.self (sym c.is_some.ensures ∙ c.if-is_some.false) at (λ o h k. pushed m o h k) so_far)
    c.push_again.ensures.pushed

pub returns-clause-each : goal.returns-clause-each
returns-clause-each c =
    let now = c.args.self.now in
    on_ok c.push_again.result _ (HasEachPlan (suc c.args.stage) now.too_many_pairs c.push_again.new.self)
    (λ more k. let long = c.requires.each k in omega (arith, more, long))
    c.push_again.ensures.long
