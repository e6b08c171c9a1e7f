use Rattle.std.proofs.Common.{false, IfOk, List, ℕ, subst, sym}
use Rattle.kex_pipe.specs.Working.{CameToEnd}
use Rattle.kex_stage.specs.declared.oracle.Oracle.TheVariants.{Table}
use Rattle.kex_stage.specs.declared.speak.StageFault.TheVariants as faults
use Rattle.kex_plan.specs.Plans.{teller}
use Rattle.kex_stage.specs.Stages.{ClosesAs, StageFollows}
use Rattle.kex_stage.proofs.ActorOutputs.{finishes}
use Rattle.kex_stage.proofs.FedStages.{stage_ends}
use Rattle.kex_stage.proofs.NoRefusals.{Ends, end_none, ends_none}
use Rattle.kex_chunk_stage.specs.TableWorkers.{TableState}
use Rattle.kex_chunk_stage.proofs.table_worker.TableWorkerWorker.finish.Goals as goal
use Rattle.kex_chunk_stage.proofs.table_worker.TableWorkerWorker.finish.Goals.{in-Ok, in-Err-Refused, in-Err-Memory}

pub returns-clause-ends : goal.returns-clause-ends
returns-clause-ends c =
    let s = c.self.inside in
    let k = s.basis.telling in
    let o = Table s.follower in
    let parsed = c.in_ok-parsed.parsed in
    let start = c.clear.new.self in
    let code = c.end.new.code in
    let symbols = c.as_slice.result.now in
    let x = c.args.out.now.items in
    let y = c.speak.new.out.items in
    let tells = c.in_ok-parsed.ensures.tells in
    let answered : IfOk c.match-speak.result (λ p. Ends k o s.actor x y p) = elim c.match-speak.branch [
      | in-Ok w ↦
          let done = finishes parsed o s.actor c.speak.new.actor start code symbols x y c.clear.ensures c.as_slice.ensures w.in-Ok.ensures.machine tells w.in-Ok.ensures.took in
          subst (λ r. IfOk r (λ p. Ends k o s.actor x y p)) (sym w.result-is) (λ u text follows. stage_ends k o s.actor u text x y parsed follows done)
      | in-Err-Refused w ↦
          let refuses = w.in-Err-Refused.ensures.refused w.in-Err-Refused.field-0-is in
          let none = end_none parsed o s.actor start code symbols faults.Refused c.clear.ensures c.as_slice.ensures tells (λ _. refuses) in
          subst (λ r. IfOk r (λ p. Ends k o s.actor x y p)) (sym w.result-is) (ends_none k o s.actor x y false none)
      | in-Err-Memory w ↦ subst (λ r. IfOk r (λ p. Ends k o s.actor x y p)) (sym w.result-is) tt
    ] in
    subst (λ (z : TableState). IfOk c.match-speak.result (λ p. (w text : List ℕ) → StageFollows z.telling (Table z.follower) z.actor w text → CameToEnd (ClosesAs (teller z.telling z.actor.machine)) w text p x y)) c.self.view_is answered
