use Rattle.std.proofs.Common.{◌++◌, ◌∷◌, [], List, map, sym, ap, ◌∙◌, append_assoc}
use Rattle.std.proofs.lemmas.List.{map-append}
use Rattle.kex_chunk_stage.specs.TableWorkers.{TableState}
use Rattle.kex_chunk_stage.specs.declared.stage_desk.StageDesk.{StageDesk}
use Rattle.kex_chunk_stage.proofs.stage_desk.wrap_all.Goals as goal

pub desks-preserved : goal.desks-preserved
desks-preserved c =
    let l = c.desks in
    let d : TableState = c.in-Some.within in
    let wrapped : List StageDesk = l.wrapped.items in
    let last : StageDesk = record { within = d } in
    record {
      all = l.invariant.all ∙ ap (λ (z : List TableState). l.yielded ++ z) c.in-Some.ensures.steps.0 ∙ sym (append_assoc l.yielded (d ∷ []) c.next.new.self.rest.items);
      same = ap (λ (z : List StageDesk). map (λ x. x.within) z) c.in_ok-push.ensures.items ∙ map-append (λ x. x.within) wrapped (last ∷ []) ∙ ap (λ (z : List TableState). z ++ d ∷ []) l.invariant.same;
    }
