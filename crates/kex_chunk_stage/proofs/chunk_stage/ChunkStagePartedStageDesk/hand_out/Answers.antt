use Rattle.std.proofs.Common.{◌≡◌, ◌∙◌, length, sym, ap, arith}
use Rattle.std.proofs.lemmas.List.{length-map}
use Rattle.kex_chunk_stage.specs.TableWorkers.{TableState, table_plan_of}
use Rattle.kex_chunk_stage.specs.declared.stage_desk.StageDesk.{StageDesk}
use Rattle.kex_chunk_stage.proofs.WrappedDesks.{all-wrapped}
use Rattle.kex_chunk_stage.proofs.chunk_stage.ChunkStagePartedStageDesk.hand_out.Goals as goal

pub returns-in-Ok-clause-own : goal.returns-in-Ok-clause-own
returns-in-Ok-clause-own c =
    all-wrapped (λ (x : StageDesk). x.within) (λ (d : TableState). table_plan_of d ≡ table_plan_of c.hand_out-desks.new.self.worker.worker) c.in-Ok.wrapped.items c.hand_out-desks.result.items c.in-Ok.ensures c.hand_out-desks.ensures.own

pub returns-in-Ok-clause-few : goal.returns-in-Ok-clause-few
returns-in-Ok-clause-few c =
    let long : length c.in-Ok.wrapped.items ≡ length c.hand_out-desks.result.items = sym (length-map c.in-Ok.wrapped.items (λ x. x.within)) ∙ ap length c.in-Ok.ensures in
    omega (arith, long, c.in-Ok.wrapped.ok.0, c.hand_out-desks.result.ok.0, c.hand_out-desks.ensures.few)
