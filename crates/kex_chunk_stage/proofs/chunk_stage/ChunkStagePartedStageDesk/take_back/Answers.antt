use Rattle.std.proofs.Common.{◌≡◌, ◌∙◌, length, ap, arith}
use Rattle.std.proofs.lemmas.List.{length-map}
use Rattle.kex_chunk_stage.specs.TableWorkers.{TableState, table_plan_of}
use Rattle.kex_chunk_stage.specs.declared.stage_desk.StageDesk.{StageDesk}
use Rattle.kex_chunk_stage.proofs.WrappedDesks.{all-bare}
use Rattle.kex_chunk_stage.proofs.chunk_stage.ChunkStagePartedStageDesk.take_back.Goals as goal

pub take_back-requires-clause-own : goal.take_back-requires-clause-own
take_back-requires-clause-own c =
    all-bare (λ (x : StageDesk). x.within) (λ (d : TableState). table_plan_of d ≡ table_plan_of c.args.self.now.within.worker.worker) c.args.desks.items c.in-Ok.bare.items c.in-Ok.ensures c.requires.own

pub take_back-requires-clause-few : goal.take_back-requires-clause-few
take_back-requires-clause-few c =
    let long : length c.in-Ok.bare.items ≡ length c.args.desks.items = ap length c.in-Ok.ensures ∙ length-map c.args.desks.items (λ x. x.within) in
    omega (arith, long, c.in-Ok.bare.ok.0, c.args.desks.ok.0, c.requires.few)
