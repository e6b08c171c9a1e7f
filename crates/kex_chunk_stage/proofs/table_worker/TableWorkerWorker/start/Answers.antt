use Rattle.std.proofs.Common.{◌≡◌, [], refl, sym, subst}
use Rattle.kex_machine.specs.Answers.{IsViableFor}
use Rattle.kex_plan.specs.Plans.{IsTableAs}
use Rattle.kex_stage.specs.declared.oracle.Oracle.TheVariants.{Table}
use Rattle.kex_stage.specs.Oracles.{Hears}
use Rattle.kex_stage.proofs.ByTable as by_table
use Rattle.kex_chunk_stage.specs.TableWorkers.{TablePlan}
use Rattle.kex_chunk_stage.proofs.table_worker.TableWorkerWorker.start.Goals as goal

pub returns-clause-follows : goal.returns-clause-follows
returns-clause-follows c =
    let f = c.in_ok-follower.follower in
    let made = c.in_ok-follower.ensures in
    let g = c.basis.inside.machine.now in
    let same : g ≡ c.in_ok-actor.actor.machine = sym c.in_ok-actor.ensures.machine in
    let k = c.basis.inside.telling in
    let of : IsTableAs k g f.runner.table = subst (λ t. IsTableAs k g t) (sym made.tables.0) c.basis.invariant.1 in
    record {
      followed = record {
        code = [];
        hears = subst (λ (b : TablePlan). Hears b.telling c.in_ok-actor.actor.machine (Table f) [] []) c.basis.view_is (subst (λ z. Hears k z (Table f) [] []) same (c.basis.invariant.0, of, f.same_table, made.stands));
        performed = c.in_ok-actor.ensures.begins;
        machine = refl;
      };
      count = made.usable.2;
      good = subst (λ z. IsViableFor z []) same (by_table.begins_good k g f.runner.table c.basis.invariant.0 of);
    }
