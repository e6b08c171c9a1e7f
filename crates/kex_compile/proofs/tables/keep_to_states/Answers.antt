use Rattle.std.proofs.Common.{sym, subst}
use Rattle.std.specs.Prelude.{OnOk}
use Rattle.kex_machine.specs.Nodes.{node_moves}
use Rattle.kex_compile.specs.Stages.{HasMoreNodes}
use Rattle.kex_compile.proofs.StageTables.{not_more}
use Rattle.kex_compile.proofs.tables.keep_to_states.Goals as goal
use Rattle.kex_compile.proofs.tables.keep_to_states.Goals.{in-Ok, in-Err-TooManyStates, in-Err-Memory}

pub returns-clause-few : goal.returns-clause-few
returns-clause-few c =
    let m = c.args.machine.now in
    elim c.match-determine.branch [
      | in-Ok w ↦ subst (λ r. OnOk r (HasMoreNodes c.args.limits.now m → ⊥)) (sym w.result-is) (not_more (λ k. node_moves m.nodes k) m.start _ c.args.limits.now.states w.in-Ok.ensures.states.0 w.in-Ok.ensures.states.1)
      | in-Err-TooManyStates w ↦ subst (λ r. OnOk r (HasMoreNodes c.args.limits.now m → ⊥)) (sym w.result-is) tt
      | in-Err-Memory w ↦ subst (λ r. OnOk r (HasMoreNodes c.args.limits.now m → ⊥)) (sym w.result-is) tt
    ]
