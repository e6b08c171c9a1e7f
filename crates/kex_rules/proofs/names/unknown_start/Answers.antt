use Rattle.std.proofs.Common.{◌≡◌, ◌+◌, ◌++◌, ◌∷◌, [], get_or, take, sym, subst, ◌∙◌}
use Rattle.std.proofs.lemmas.List.{take_more}
use Rattle.kex_model.specs.declared.program.Start.{Start}
use Rattle.kex_rules.specs.Tables.{IsLeastOffset}
use Rattle.kex_rules.proofs.DefinedNames.{UsesUnknown, first_none, is_known, uses_start, uses_more, uses_same, uses_all, whole}
use Rattle.kex_rules.proofs.names.unknown_start.Goals as goal
use Rattle.kex_rules.proofs.names.unknown_start.Goals.{then-is_unknown, else-is_unknown}

pub loop-start-init : goal.loop-start-init
loop-start-init c = uses_start c.args.program.now c.args.calls c.requires.calls

pub loop-start-preserved : goal.loop-start-preserved
loop-start-preserved c =
    let P = c.args.program.now in
    let stages = c.stages-stages.result.now in
    let i = c.loop-start.start-index in
    let none : Start = record { name = 0; at = 0 } in
    let s = get_or stages i none in
    let split : take (i + 1) stages ≡ take i stages ++ s ∷ [] = take_more stages i none c.loop-start-test.true in
    subst (λ z. IsLeastOffset (UsesUnknown P z) c.if-is_unknown.found) (sym split)
    (elim c.if-is_unknown.branch [
      | then-is_unknown w ↦ subst (λ z. IsLeastOffset (UsesUnknown P (take i stages ++ s ∷ [])) z) (sym (w.found-is ∙ w.lowest-found.ensures)) (uses_more P (take i stages) s c.loop-start.found (first_none P.definitions s.name (c.is_unknown.ensures.0 w.if-is_unknown.true)) c.loop-start.invariant)
      | else-is_unknown w ↦ subst (λ z. IsLeastOffset (UsesUnknown P (take i stages ++ s ∷ [])) z) (sym w.found-is) (uses_same P (take i stages) s c.loop-start.found (is_known P.definitions s.name c.is_unknown.result c.is_unknown.ensures w.if-is_unknown.false) c.loop-start.invariant)
    ])

pub returns : goal.returns
returns c = uses_all c.args.program.now c.loop-start.found (subst (λ z. IsLeastOffset (UsesUnknown c.args.program.now z) c.loop-start.found) (whole c.stages-stages.result.now c.loop-start.start-index c.loop-start-test.false ∙ c.stages-stages.ensures) c.loop-start.invariant)
