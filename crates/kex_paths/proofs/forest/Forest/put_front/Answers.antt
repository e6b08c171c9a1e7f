use Rattle.std.proofs.Common.{◌≡◌, ◌-◌, suc, [], ◌∷◌, Some, length, reverse, set, ap₂, subst, sym, refl, arith}
use Rattle.kex_model.specs.Labelled.{with_prefix}
use Rattle.kex_paths.specs.declared.forest.PathEdge.{PathEdge}
use Rattle.kex_paths.specs.Forests.{HasTrees, LeadsToTree, LeadToEach, last_tree, trees_before}
use Rattle.kex_paths.proofs.LastEdges.{last_front, with_label, trees_with_label, front_part}
use Rattle.kex_paths.proofs.forest.Forest.put_front.Goals as goal

pub returns-in_ok-root : goal.returns-in_ok-root
returns-in_ok-root c = λ rs has.
    let e = c.self.inside.edges in
    let roots = c.self.inside.roots.items in
    let at = c.len-count.result - 1 in
    let x = c.in-Some.root in
    let y : PathEdge = record { label = c.in_ok-root.field-0; node = x.node } in
    let long : suc at ≡ length roots = omega arith in
    let same : c.put.new.self ≡ with_label e c.args.part x = ap₂ (λ u v. record { all = u; cells = v }) c.in_ok-root.ensures.edges c.in_ok-root.ensures.cell in
    subst (λ z. LeadToEach z (reverse (set roots at (Some y))) (with_prefix (c.args.part ∷ []) (last_tree rs) ∷ trees_before rs)) (sym same)
    (last_front e (with_label e c.args.part x) roots at c.args.part c.index_mut.result.now (Some y) long c.index_mut.ensures.value
    (λ t h. front_part e c.args.part x y c.in_ok-root.ensures.number refl t (subst (λ z. LeadsToTree e z t) c.in-Some.is h))
    (trees_with_label e c.args.part x) rs (subst (λ z. HasTrees z rs) (sym c.self.view_is) has))
