use Rattle.std.proofs.Common.{◌≡◌, suc, [], ◌∷◌, ◌++◌, Some, length, ap, ap₂, reverse, sym, subst, ◌∙◌, length-append, arith}
use Rattle.std.proofs.lemmas.Result.{on_ok_weaker}
use Rattle.kex_model.specs.Labelled.{fork}
use Rattle.kex_paths.specs.declared.forest.TreeNode.TheVariants.{Fork}
use Rattle.kex_paths.specs.Forests.{no_parts, IsTreeAt, LeadsToTree, HasTrees, LeadToEach}
use Rattle.kex_paths.proofs.MoreEdges.{with_two, fork_stands, trees_with_two}
use Rattle.kex_paths.proofs.forest.Forest.add_fork.Goals as goal

pub returns : goal.returns
returns c =
    let e = c.self.inside.edges in
    let x = c.args.left in
    let y = c.args.right in
    let all : c.add-2.new.self.all ≡ (e.all ++ x ∷ []) ++ y ∷ [] = c.in_ok-right_number.ensures.edge ∙ ap (λ z. z ++ y ∷ []) c.in_ok-left_number.ensures.edge in
    let same : c.add-2.new.self ≡ with_two e x y = ap₂ (λ u v. record { all = u; cells = v }) all (c.in_ok-right_number.ensures.cells ∙ c.in_ok-left_number.ensures.cells) in
    let left : length e.all ≡ c.in_ok-left_number.left_number = sym c.in_ok-left_number.ensures.number in
    let right : suc (length e.all) ≡ c.in_ok-right_number.right_number = omega (arith, c.in_ok-right_number.ensures.number, ap length c.in_ok-left_number.ensures.edge, length-append e.all (x ∷ [])) in
    on_ok_weaker c.push_root.result
    (λ done a b rs p q has.
    let stands = fork_stands e x y a b (subst (λ z. LeadsToTree z.edges (Some x) (Some a)) (sym c.self.view_is) p) (subst (λ z. LeadsToTree z.edges (Some y) (Some b)) (sym c.self.view_is) q) in
    let numbered = subst (λ z. IsTreeAt (with_two e x y) (Fork c.in_ok-left_number.left_number z) (fork a.label a.tree b.label b.tree)) right (subst (λ z. IsTreeAt (with_two e x y) (Fork z (suc (length e.all))) (fork a.label a.tree b.label b.tree)) left stands) in
    let others = trees_with_two e x y (reverse c.self.inside.roots.items) rs (subst (λ z. HasTrees z rs) (sym c.self.view_is) has) in
    done (Some (record { label = []; tree = fork a.label a.tree b.label b.tree })) rs
    (no_parts, subst (λ z. IsTreeAt z (Fork c.in_ok-left_number.left_number c.in_ok-right_number.right_number) (fork a.label a.tree b.label b.tree)) (sym same) numbered)
    (subst (λ z. LeadToEach z (reverse c.self.inside.roots.items) rs) (sym same) others))
    c.push_root.ensures
