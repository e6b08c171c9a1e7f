use Rattle.std.proofs.Common.{◌≡◌, ◌<◌, ◌+◌, ◌++◌, ◌∷◌, [], None, length, get_or, take, sym, subst, ◌∙◌, arith}
use Rattle.std.proofs.lemmas.List.{take_more}
use Rattle.kex_model.specs.declared.program.Definition.{Definition}
use Rattle.kex_rules.specs.Rules.{IsTwice}
use Rattle.kex_rules.specs.Tables.{HasRoots, IsLeastOffset}
use Rattle.kex_rules.proofs.DefinedNames.{roots_more, roots_kept, twice_more, twice_same, first_none, first_some, name_fits, whole}
use Rattle.kex_rules.proofs.Marks.{read_any}
use Rattle.kex_rules.proofs.names.roots_of.Goals as goal
use Rattle.kex_rules.proofs.names.roots_of.Goals.{in-Some, in-None}

pub index-requires : goal.index-requires
index-requires c = omega (arith, name_fits c.args.program.now c.requires c.definitions-definitions.result.now c.definitions-definitions.ensures c.loop-definition.definition-index (record { name = 0; at = 0; root = 0 }) c.loop-definition-test.true, c.loop-definition.invariant.roots.long, c.loop-definition.roots.ok.0)

pub index_mut-requires : goal.index_mut-requires
index_mut-requires c = omega (arith, name_fits c.args.program.now c.requires c.definitions-definitions.result.now c.definitions-definitions.ensures c.loop-definition.definition-index (record { name = 0; at = 0; root = 0 }) c.loop-definition-test.true, c.loop-definition.invariant.roots.long, c.loop-definition.roots.ok.0)

pub loop-definition-preserved : goal.loop-definition-preserved
loop-definition-preserved c =
    let definitions = c.definitions-definitions.result.now in
    let i = c.loop-definition.definition-index in
    let none : Definition = record { name = 0; at = 0; root = 0 } in
    let d : Definition = get_or definitions i none in
    let before = take i definitions in
    let names = length c.args.program.now.names in
    let roots = c.loop-definition.roots.items in
    let h = c.loop-definition.invariant.roots in
    let split : take (i + 1) definitions ≡ before ++ d ∷ [] = take_more definitions i none c.loop-definition-test.true in
    let lt : d.name < names = name_fits c.args.program.now c.requires definitions c.definitions-definitions.ensures i none c.loop-definition-test.true in
    let fits : d.name < length roots = omega (arith, h.long) in
    let read : get_or roots d.name None ≡ c.index.result.now = read_any roots d.name None c.index.result.now fits ∙ sym c.index.ensures in
    elim c.match-index.branch [
      | in-Some w ↦ record {
        roots = subst (λ z. HasRoots z names c.match-index.roots.items) (sym split) (subst (λ z. HasRoots (before ++ d ∷ []) names z.items) (sym w.roots-is) (roots_kept before d names roots w.in-Some.field-0 h (read ∙ w.in-Some.is)));
        twice = subst (λ z. IsLeastOffset (IsTwice z) c.match-index.twice) (sym split) (subst (λ z. IsLeastOffset (IsTwice (before ++ d ∷ [])) z) (sym (w.twice-is ∙ w.lowest-twice.ensures)) (twice_more before d c.loop-definition.twice (first_some before d.name w.in-Some.field-0 (sym (h.each d.name) ∙ read ∙ w.in-Some.is)) c.loop-definition.invariant.twice));
      }
      | in-None w ↦ record {
        roots = subst (λ z. HasRoots z names c.match-index.roots.items) (sym split) (subst (λ z. HasRoots (before ++ d ∷ []) names z.items) (sym w.roots-is) (roots_more before d names roots lt h (read ∙ w.in-None.is)));
        twice = subst (λ z. IsLeastOffset (IsTwice z) c.match-index.twice) (sym split) (subst (λ z. IsLeastOffset (IsTwice (before ++ d ∷ [])) z) (sym w.twice-is) (twice_same before d c.loop-definition.twice (first_none before d.name (sym (h.each d.name) ∙ read ∙ w.in-None.is)) c.loop-definition.invariant.twice));
      }
    ]

pub returns-in-None-twice-clause-once : goal.returns-in-None-twice-clause-once
returns-in-None-twice-clause-once c =
    let definitions = c.definitions-definitions.result.now in
    let end : take c.loop-definition.definition-index definitions ≡ c.args.program.now.definitions = whole definitions c.loop-definition.definition-index c.loop-definition-test.false ∙ c.definitions-definitions.ensures in
    subst (λ z. IsLeastOffset (IsTwice z) None) end (subst (λ z. IsLeastOffset (IsTwice (take c.loop-definition.definition-index definitions)) z) c.in-None-twice.is c.loop-definition.invariant.twice)
