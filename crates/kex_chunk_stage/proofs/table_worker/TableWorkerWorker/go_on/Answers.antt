use Rattle.std.proofs.Common.{◌≡◌, nat_lt, length, sym, subst, ap, ◌∙◌, Bool, IfOk, ℕ, List}
use Rattle.std.proofs.lemmas.Bool.{ltb-true, ltb-false}
use Rattle.kex_pipe.specs.Working.{ReadMore}
use Rattle.kex_stage.specs.declared.oracle.Oracle.TheVariants.{Table}
use Rattle.kex_plan.specs.Plans.{teller}
use Rattle.kex_stage.specs.Stages.{SaysOf, StageFollows, refused_at}
use Rattle.kex_stage.specs.Works.{RefusesNone}
use Rattle.kex_stage.proofs.FedStages.{stage_reads}
use Rattle.kex_stage.proofs.NoRefusals.{Reads, reads_none}
use Rattle.kex_chunk_stage.specs.TableWorkers.{TableState}
use Rattle.kex_chunk_stage.proofs.table_worker.TableWorkerWorker.go_on.Goals as goal
use Rattle.kex_chunk_stage.proofs.table_worker.TableWorkerWorker.go_on.Goals.{in-Ok, in-Err-Refused, in-Err-Memory}

pub returns-clause-reads : goal.returns-clause-reads
returns-clause-reads c =
    let s = c.self.inside in
    let k = s.basis.telling in
    let o = Table s.follower in
    let piece = c.args.piece.now in
    let new = Table c.go_on.new.self in
    let b = c.go_on.new.actor in
    let x = c.args.out.now.items in
    let y = c.go_on.new.out.items in
    let answered : IfOk c.match-go_on.result (λ at. Reads k o new s.actor b x y piece at) = elim c.match-go_on.branch [
      | in-Ok w ↦
          let count = w.in-Ok.count in
          let refused : Bool = nat_lt count (length piece) in
          let at : w.refused_at.result ≡ refused_at refused c.go_on.new.self.runner.read = w.refused_at.ensures ∙ ap (λ z. refused_at refused z) w.read.ensures in
          let read : Reads k o new s.actor b x y piece (refused_at refused c.go_on.new.self.runner.read) = λ u text follows.
          stage_reads k o new s.actor b u text piece count x y follows w.in-Ok.ensures.works w.in-Ok.ensures.read w.in-Ok.ensures.machine refused
          (λ t. ltb-true count (length piece) t) (λ t. ltb-false count (length piece) t) in
          subst (λ r. IfOk r (λ at. Reads k o new s.actor b x y piece at)) (sym w.result-is) (subst (λ at. Reads k o new s.actor b x y piece at) (sym at) read)
      | in-Err-Refused w ↦
          let none = subst (λ f. RefusesNone o s.actor f) w.in-Err-Refused.field-0-is w.in-Err-Refused.ensures.refuses in
          subst (λ r. IfOk r (λ at. Reads k o new s.actor b x y piece at)) (sym w.result-is) (reads_none k o new s.actor b x y piece _ none)
      | in-Err-Memory w ↦ subst (λ r. IfOk r (λ at. Reads k o new s.actor b x y piece at)) (sym w.result-is) tt
    ] in
    subst (λ (z : TableState). IfOk c.match-go_on.result (λ at. (w text : List ℕ) → StageFollows z.telling (Table z.follower) z.actor w text → ReadMore (SaysOf (teller z.telling z.actor.machine)) (StageFollows k new b) w text piece at x y)) c.self.view_is answered
