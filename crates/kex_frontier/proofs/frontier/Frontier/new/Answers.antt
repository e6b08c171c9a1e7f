use Rattle.std.proofs.Common.{◌≡◌, ◌∷◌, [], ◌++◌, length, replicate, false, true, refl, ap, sym, subst, ◌∙◌}
use Rattle.kex_machine.specs.Nodes.{node_moves}
use Rattle.kex_frontier.specs.Edges.{HasCodeTrees, as_is, IsKeptTree, root_label}
use Rattle.kex_frontier.specs.Going.{VisitsCodes}
use Rattle.kex_frontier.specs.Views.{edges_at}
use Rattle.kex_machine.specs.Nodes.{StaysWithin}
use Rattle.kex_frontier.specs.Frontiers.{Front}
use Rattle.kex_machine.proofs.Ranges.{stays_within, is_trim}
use Rattle.kex_frontier.proofs.FedTexts.{begins, first_kept, nothing_behind}
use Rattle.kex_frontier.proofs.frontier.Frontier.new.Goals.{In_ok-settle}
use Rattle.kex_frontier.proofs.frontier.Frontier.new.Goals as goal

pub walk-requires-clause-range : goal.walk-requires-clause-range
walk-requires-clause-range c = subst (λ z. StaysWithin z) (sym c.nodes-nodes.ensures.same) (stays_within c.machine.result.now c.nodes-nodes.ensures.in_range)

-- the first tree is alone
first_tree : (c : In_ok-settle) → HasCodeTrees as_is c.graft.new.self (c.in_ok-walk.ensures.tree.0 ∷ [])
first_tree c =
    let t = c.in_ok-walk.ensures.tree in
    subst (λ z. HasCodeTrees as_is c.graft.new.self (z ∷ [])) (nothing_behind t.0 c.take-label.result.items c.take-label.ensures) (c.in_ok-graft.ensures t.0 [] t.1 (subst (λ z. HasCodeTrees as_is z []) (sym c.new-grown.ensures) (refl, refl)))

pub invariant_of-result : goal.invariant_of-result
invariant_of-result c =
    let t = c.in_ok-walk.ensures.tree in
    let nodes : c.nodes-nodes.result.now ≡ c.args.machine.now.nodes = c.nodes-nodes.ensures.same ∙ ap (λ z. z.nodes) c.machine.ensures.same in
    record {
      trimmed = c.machine.ensures.trimmed;
      kept = λ _. subst (λ z. IsKeptTree (length z) (edges_at c.settle.new.tree.items) c.walk.new.tools.marks) nodes (first_kept (node_moves c.nodes-nodes.result.now) (length c.nodes-nodes.result.now) c.start-start.result t.0 c.walk.new.tools.marks (edges_at c.settle.new.tree.items) c.walk.new.tools.marks (subst (λ z. VisitsCodes (node_moves c.nodes-nodes.result.now) z c.start-start.result t.0 c.walk.new.tools.marks) c.in_ok-tools.ensures t.2) c.in_ok-walk.ensures.long (c.in_ok-settle.ensures.tree t.0 (first_tree c)));
    }

pub returns-clause-begins : goal.returns-clause-begins
returns-clause-begins c =
    let top = (goal.at.returns-clause-begins c).In_ok-settle in
    let t = c.in_ok-walk.ensures.tree in
    let nodes : c.nodes-nodes.result.now ≡ c.args.machine.now.nodes = c.nodes-nodes.ensures.same ∙ ap (λ z. z.nodes) c.machine.ensures.same in
    let start : c.start-start.result ≡ c.args.machine.now.start = c.start-start.ensures ∙ ap (λ z. z.start) c.machine-2.ensures.same in
    let new : Front = record { machine = c.args.machine.now; untaken = c.settle.new.code; edges = edges_at c.settle.new.tree.items; ended = false; usable = true } in
    let v = subst (λ z. VisitsCodes (node_moves c.nodes-nodes.result.now) z c.start-start.result t.0 c.walk.new.tools.marks) c.in_ok-tools.ensures t.2 in
    begins new (length c.nodes-nodes.result.now) t.0 c.walk.new.tools.marks (is_trim c.args.machine.now c.machine.ensures.trimmed)
    (subst (λ z. VisitsCodes (node_moves c.args.machine.now.nodes) (replicate (length c.nodes-nodes.result.now) false) z t.0 c.walk.new.tools.marks) start (subst (λ z. VisitsCodes (node_moves z) (replicate (length c.nodes-nodes.result.now) false) c.start-start.result t.0 c.walk.new.tools.marks) nodes v))
    (c.in_ok-settle.ensures.code t.0 (first_tree top) ∙ ap (λ z. z ++ root_label t.0) c.new-untaken.ensures)
    (c.in_ok-settle.ensures.tree t.0 (first_tree top))
