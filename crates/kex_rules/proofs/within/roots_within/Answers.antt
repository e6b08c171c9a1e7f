use Rattle.std.proofs.Common.{◌<◌, true, length, get_or, set, take, sym, ap, subst, ◌∙◌, arith}
use Rattle.std.proofs.lemmas.List.{take_more}
use Rattle.kex_model.specs.declared.program.Definition.{Definition}
use Rattle.kex_rules.proofs.DefinedNames.{root_fits, definition_among, whole}
use Rattle.kex_rules.proofs.NodeFlags.{FlagsRoots, roots_none, roots_more, roots_all}
use Rattle.kex_rules.proofs.within.roots_within.Goals as goal

pub loop-definition-init : goal.loop-definition-init
loop-definition-init c = roots_none c.args.program.now c.in_ok-within.within.items (length c.nodes.result.now) (c.in_ok-within.ensures.items_if_clones_equal (λ y e. e)) (ap length c.nodes.ensures)

pub index_mut-requires : goal.index_mut-requires
index_mut-requires c = omega (arith, root_fits c.args.program.now c.requires c.definitions-definitions.result.now c.definitions-definitions.ensures c.loop-definition.definition-index (record { name = 0; at = 0; root = 0 }) c.loop-definition-test.true, c.loop-definition.invariant.long)

pub loop-definition-preserved : goal.loop-definition-preserved
loop-definition-preserved c =
    let P = c.args.program.now in
    let definitions = c.definitions-definitions.result.now in
    let i = c.loop-definition.definition-index in
    let none : Definition = record { name = 0; at = 0; root = 0 } in
    let d : Definition = get_or definitions i none in
    let within = c.loop-definition.within.items in
    let fits : d.root < length P.nodes = root_fits P c.requires definitions c.definitions-definitions.ensures i none c.loop-definition-test.true in
    let lt : d.root < length within = omega (arith, c.loop-definition.invariant.long) in
    subst (λ z. FlagsRoots P z (set within d.root true)) (sym (take_more definitions i none c.loop-definition-test.true))
    (roots_more P (take i definitions) d within (definition_among P definitions c.definitions-definitions.ensures i none c.loop-definition-test.true) lt c.loop-definition.invariant)

pub returns : goal.returns
returns c = roots_all c.args.program.now c.loop-definition.within.items (subst (λ z. FlagsRoots c.args.program.now z c.loop-definition.within.items) (whole c.definitions-definitions.result.now c.loop-definition.definition-index c.loop-definition-test.false ∙ c.definitions-definitions.ensures) c.loop-definition.invariant)
