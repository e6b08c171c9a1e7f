use Rattle.std.proofs.Common.{◌≡◌, ◌<◌, ℕ, List, [], ◌∷◌, ◌++◌, Some, length, refl, ap, sym, subst, ◌∙◌, length-append, arith}
use Rattle.std.specs.Prelude.{slice_get}
use Rattle.kex_model.specs.Labelled.{Grown}
use Rattle.kex_sst.specs.declared.parts.Part.{Part}
use Rattle.kex_paths.specs.declared.forest.PathEdge.{PathEdge}
use Rattle.kex_paths.specs.Forests.{LeadsToTree}
use Rattle.kex_paths.specs.Spellings.{IsSpelled, is_inner, tip_in, edges_from}
use Rattle.kex_paths.specs.Updates.{AreLabels}
use Rattle.kex_paths.proofs.EdgeLabels.{one_label, labels_more}
use Rattle.kex_paths.proofs.Preorders.{spelled_start, spelled_more, spelled_as, next_edge, next_label}
use Rattle.kex_paths.proofs.tree.spell.Goals as goal
use Rattle.kex_paths.proofs.tree.spell.Goals.{In-Some}

pub loop-number-init : goal.loop-number-init
loop-number-init c = λ a h.
    let shape : c.add_node.new.shape.items ≡ is_inner c.args.root.now.node ∷ [] = c.in_ok-add_node.ensures.shape ∙ ap (λ z. z ++ is_inner c.args.root.now.node ∷ []) c.in_ok-shape.ensures.items in
    let leaves : c.add_node.new.leaves.items ≡ tip_in c.args.root.now.node = c.in_ok-add_node.ensures.leaves ∙ ap (λ z. z ++ tip_in c.args.root.now.node) c.in_ok-leaves.ensures.items in
    let pending : c.add_node.new.pending.items ≡ edges_from c.args.root.now.node = c.in_ok-add_node.ensures.pending ∙ ap (λ z. z ++ edges_from c.args.root.now.node) c.new-pending.ensures.items in (
      [],
      subst (λ z. AreLabels c.args.edges.now.cells z []) (sym c.in_ok-labels.ensures.items) tt,
      spelled_as c.args.edges.now a (is_inner c.args.root.now.node ∷ []) c.add_node.new.shape.items (tip_in c.args.root.now.node) c.add_node.new.leaves.items [] [] (edges_from c.args.root.now.node) c.add_node.new.pending.items shape leaves refl pending (spelled_start c.args.edges.now c.args.root.now a h),
    )

-- what is spelled, with the edge that is the next
spelled : (c : In-Some) (a : Grown Part ℕ) → LeadsToTree c.args.edges.now (Some c.args.root.now) (Some a) → (xs : List (List Part)) × AreLabels c.args.edges.now.cells c.loop-number.labels.items xs × IsSpelled c.args.edges.now a c.loop-number.shape.items c.loop-number.leaves.items xs (c.pop.new.self.items ++ c.in-Some.number ∷ [])
spelled c a h =
    let old = c.loop-number.invariant a h in
    (old.0, old.1, subst (λ z. IsSpelled c.args.edges.now a c.loop-number.shape.items c.loop-number.leaves.items old.0 z) c.in-Some.ensures.items old.2)

pub edge_at-edge-requires : goal.edge_at-edge-requires
edge_at-edge-requires c =
    let top = (goal.at.edge_at-edge-requires c).In-Some in
    let old = spelled top c.requires.fits.0 c.requires.fits.1 in
    subst (λ z. c.in-Some.number < length z) (sym c.all-below.ensures) (next_edge c.args.edges.now c.requires.fits.0 c.loop-number.shape.items c.loop-number.leaves.items old.0 c.pop.new.self.items c.in-Some.number old.2).0

-- the edge of the number
here : (below all : List PathEdge) (i : ℕ) (x : PathEdge) → below ≡ all → slice_get below i ≡ Some x → slice_get all i ≡ Some x
here below all i x same e = subst (λ z. slice_get z i ≡ Some x) same e

pub loop-number-smaller : goal.loop-number-smaller
loop-number-smaller c =
    let top = (goal.at.loop-number-smaller c).In-Some in
    let old = spelled top c.requires.fits.0 c.requires.fits.1 in
    let less = (next_edge c.args.edges.now c.requires.fits.0 c.loop-number.shape.items c.loop-number.leaves.items old.0 c.pop.new.self.items c.in-Some.number old.2).1 in
    let small = c.requires.fits.3 in
    let longer = ap length c.in_ok-add_node-2.ensures.shape ∙ length-append c.loop-number.shape.items (is_inner c.edge_at-edge.result.now.node ∷ []) in
    omega arith

pub loop-number-preserved : goal.loop-number-preserved
loop-number-preserved c = λ a h.
    let top = (goal.at.loop-number-preserved c).In-Some in
    let e = c.args.edges.now in
    let x = c.edge_at-edge.result.now in
    let old = spelled top a h in
    let at = here c.all-below.result.now e.all c.in-Some.number x c.all-below.ensures c.edge_at-edge.ensures in
    let label = next_label e a c.loop-number.shape.items c.loop-number.leaves.items old.0 c.pop.new.self.items c.in-Some.number x at old.2 in (
      old.0 ++ label.0 ∷ [],
      subst (λ z. AreLabels e.cells z (old.0 ++ label.0 ∷ [])) (sym c.in_ok-push.ensures.items) (labels_more e.cells c.loop-number.labels.items old.0 x.label label.0 old.1 label.1),
      spelled_as e a (c.loop-number.shape.items ++ is_inner x.node ∷ []) c.add_node-in-Some.new.shape.items (c.loop-number.leaves.items ++ tip_in x.node) c.add_node-in-Some.new.leaves.items (old.0 ++ label.0 ∷ []) (old.0 ++ label.0 ∷ []) (c.pop.new.self.items ++ edges_from x.node) c.add_node-in-Some.new.pending.items
          c.in_ok-add_node-2.ensures.shape c.in_ok-add_node-2.ensures.leaves refl c.in_ok-add_node-2.ensures.pending
          (spelled_more e a c.loop-number.shape.items c.loop-number.leaves.items old.0 c.pop.new.self.items c.in-Some.number x label.0 at (λ ys k. one_label e.cells label.0 ys label.1 k) old.2),
    )
