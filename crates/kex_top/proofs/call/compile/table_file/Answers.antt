use Rattle.std.proofs.Common.{◌++◌, ℕ, List, ap, refl, sym, ◌∙◌}
use Rattle.std.proofs.lemmas.Result.{err_from_is_err_and}
use Rattle.kex_compile.specs.declared.refusal.CompileRefusal.TheVariants as compile
use Rattle.kex_top.proofs.FiledStages.{are-plans, filed-text}
use Rattle.kex_top.proofs.call.compile.table_file.Goals as goal

pub write_table-requires : goal.write_table-requires
write_table-requires c =
    are-plans c.args.asked.now c.args.text.now c.in_ok-plans.plans c.stages.result.now c.requires.tables c.requires.agreed c.in_ok-plans.ensures.plans c.stages.ensures.same c.stages.ensures.tables c.requires.states

pub returns-in_err-write_table-clause-none : goal.returns-in_err-write_table-clause-none
returns-in_err-write_table-clause-none c =
    let r = err_from_is_err_and c.from_residual-in_err-write_table.result c.from_residual-in_err-write_table.ensures.1 in
    rw (r.1, r.2) (compile.Memory, tt, refl)

pub returns-clause-file : goal.returns-clause-file
returns-clause-file c =
    let w = c.in_ok-write_table.ensures in (
      c.in_ok-plans.plans,
      c.in_ok-plans.ensures.plans,
      filed-text c.args.text.now w.0 c.stages.result.now c.args.asked.now c.in_ok-plans.plans c.requires.tables c.requires.agreed c.in_ok-plans.ensures.plans c.stages.ensures.same c.stages.ensures.tables c.requires.states w.2 _ (sym (w.1 ∙ ap (λ (z : List ℕ). z ++ w.0) c.new-file.ensures.items)),
    )
