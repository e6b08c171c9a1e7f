use Rattle.std.proofs.Common.{◌++◌, ◌∷◌, [], List, sym, ap, ◌∙◌, append_assoc}
use Rattle.std.proofs.lemmas.List.{map-append}
use Rattle.kex_chunk_stage.specs.TableWorkers.{TableState}
use Rattle.kex_chunk_stage.specs.declared.stage_desk.StageDesk.{StageDesk}
use Rattle.kex_chunk_stage.proofs.stage_desk.unwrap_all.Goals as goal

pub desks-preserved : goal.desks-preserved
desks-preserved c =
    let l = c.desks in
    let d : StageDesk = c.in-Some.desk in
    let before : List StageDesk = l.yielded in
    record {
      all = l.invariant.all ∙ ap (λ (z : List StageDesk). before ++ z) c.in-Some.ensures.steps.0 ∙ sym (append_assoc before (d ∷ []) c.next.new.self.rest.items);
      same = c.in_ok-push.ensures.items ∙ ap (λ (z : List TableState). z ++ d.within ∷ []) l.invariant.same ∙ sym (map-append (λ x. x.within) before (d ∷ []));
    }
