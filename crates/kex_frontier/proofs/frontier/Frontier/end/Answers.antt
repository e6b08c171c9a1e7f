use Rattle.std.proofs.Common.{◌≡◌, ◌∷◌, [], true, refl, ap, sym, subst, ◌∙◌, arith}
use Rattle.kex_model.proofs.OpenAnswers.{empty_list}
use Rattle.kex_machine.specs.Nodes.{node_moves}
use Rattle.kex_frontier.specs.Edges.{HasCodeTrees, as_is}
use Rattle.kex_machine.specs.Advancing.{first_accepting}
use Rattle.kex_frontier.specs.Views.{edges_at}
use Rattle.kex_frontier.specs.Frontiers.{Front, IsFed, IsOver}
use Rattle.kex_machine.proofs.Ranges.{is_trim}
use Rattle.kex_frontier.proofs.FedTexts.{over, over_dead, some_edges}
use Rattle.kex_frontier.proofs.frontier.Frontier.end.Goals as goal

pub returns-then-is_empty-clause-over : goal.returns-then-is_empty-clause-over
returns-then-is_empty-clause-over c =
    let none : edges_at c.self.inside.tree.items ≡ [] = ap (λ z. edges_at z) (empty_list c.self.inside.tree.items (grind (arith, c.if-is_empty.ensures, c.self.inside.tree.ok.0))) in
    let old : Front = record { machine = c.self.inside.machine.now; untaken = c.self.inside.untaken; edges = edges_at c.self.inside.tree.items; ended = c.self.inside.ended; usable = c.self.inside.usable } in
    λ w taken h. over_dead old w taken (is_trim old.machine c.self.invariant.trimmed) none (subst (λ z. IsFed z w taken) (sym c.self.view_is) h) old refl refl

pub returns-clause-over : goal.returns-clause-over
returns-clause-over c =
    let nodes : c.nodes-nodes.result.now ≡ c.self.inside.machine.now.nodes = c.nodes-nodes.ensures.same ∙ ap (λ z. z.nodes) c.machine.ensures.same in
    let some = some_edges c.self.inside.tree.items (λ e. grind (arith, c.if-is_empty.ensures, c.self.inside.tree.ok.0)) in
    let old : Front = record { machine = c.self.inside.machine.now; untaken = c.self.inside.untaken; edges = edges_at c.self.inside.tree.items; ended = c.self.inside.ended; usable = c.self.inside.usable } in
    let new : Front = record { machine = c.self.inside.machine.now; untaken = c.settle.new.code; edges = edges_at c.clear.new.self.items; ended = true; usable = true } in
    λ w taken h.
    subst (λ z. IsOver z new w taken) (sym c.end_of.ensures)
    (over old w taken (is_trim old.machine c.self.invariant.trimmed) c.in_ok-parsed.parsed new refl some
    (λ t is.
    let has = subst (λ z. HasCodeTrees as_is c.accept.new.found (first_accepting (node_moves z) t ∷ [])) nodes (c.in_ok-accept.ensures t is) in
    (c.in_ok-parsed.ensures.there (first_accepting (node_moves c.self.inside.machine.now.nodes) t) has, c.in_ok-parsed.ensures.code (first_accepting (node_moves c.self.inside.machine.now.nodes) t) has))
    (subst (λ z. IsFed z w taken) (sym c.self.view_is) h))
