use Rattle.std.proofs.Common.{◌≡◌, sym, subst, ◌∙◌}
use Rattle.std.specs.Prelude.{OnOk, Result, Ok, Err}
use Rattle.kex_plan.specs.Plans.{IsTableAs}
use Rattle.kex_stage.specs.Oracles.{IsOracleFor}
use Rattle.kex_stage.proofs.ByPaths as by_paths
use Rattle.kex_stage.proofs.ByTable as by_table
use Rattle.kex_stage.proofs.oracle.Oracle.begin_anew.Goals as goal

on_ok : {A E P Q : Type 0} (r : Result A E) → (P → Q) → OnOk r P → OnOk r Q
on_ok (Ok x) f p = f p
on_ok (Err e) f p = tt

pub returns-in-Paths-clause-hears : goal.returns-in-Paths-clause-hears
returns-in-Paths-clause-hears c = on_ok c.begin_anew.result (λ begins k g own.
    let of = subst (λ o. IsOracleFor k g o) c.in-Paths.is own in
    let same : c.begin_anew.new.self.frontier.machine ≡ g = c.begin_anew.ensures.same ∙ of.1 in
    ((of.0, same, begins), by_paths.begins_good c.begin_anew.new.self.frontier g same begins)) c.begin_anew.ensures.begins

pub returns-in-Table-clause-hears : goal.returns-in-Table-clause-hears
returns-in-Table-clause-hears c = on_ok c.begin_anew-in-Table.result (λ stands k g own.
    let h = subst (λ o. IsOracleFor k g o) c.in-Table.is own in
    let same = c.begin_anew-in-Table.ensures.table in
    let of = subst (λ t. IsTableAs k g t) (sym same) h.1 in
    ((h.0, of, c.in-Table.follower.same_table ∙ sym same, stands), by_table.begins_good k g c.begin_anew-in-Table.new.self.table h.0 of)) c.begin_anew-in-Table.ensures.stands
