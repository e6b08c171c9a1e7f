use Rattle.std.proofs.Common.{◌≡◌, ◌∷◌, [], ◌++◌, true, length, refl, ap, sym, subst, ◌∙◌, arith}
use Rattle.kex_model.proofs.OpenAnswers.{empty_list}
use Rattle.kex_machine.specs.Nodes.{node_moves, IsTrimmed}
use Rattle.kex_frontier.specs.Edges.{IsKeptTree, IsTreeBelow}
use Rattle.kex_frontier.specs.Views.{edges_at}
use Rattle.kex_frontier.specs.Going.{TreeWentOn}
use Rattle.kex_machine.specs.Nodes.{StaysWithin}
use Rattle.kex_frontier.specs.Frontiers.{Front, IsFed, IsFedBy}
use Rattle.kex_machine.proofs.Ranges.{stays_within, is_trim}
use Rattle.kex_frontier.proofs.FedTexts.{fed, fed_dead, went_kept, kept_tree, some_edges}
use Rattle.kex_frontier.proofs.frontier.Frontier.feed.Goals as goal

pub returns-then-is_empty-clause-fed : goal.returns-then-is_empty-clause-fed
returns-then-is_empty-clause-fed c =
    let none : edges_at c.self.inside.tree.items ≡ [] = ap (λ z. edges_at z) (empty_list c.self.inside.tree.items (grind (arith, c.if-is_empty.ensures, c.self.inside.tree.ok.0))) in
    λ w taken h. fed_dead c.args.self.now w taken (is_trim c.args.self.now.machine (subst (λ z. IsTrimmed z.machine) c.self.view_is c.self.invariant.trimmed)) c.args.byte (sym (ap (λ z. z.edges) c.self.view_is) ∙ none) h

pub go_on-requires-clause-range : goal.go_on-requires-clause-range
go_on-requires-clause-range c = subst (λ z. StaysWithin z) (sym c.nodes-nodes.ensures.same) (stays_within c.machine.result.now c.nodes-nodes.ensures.in_range)

pub invariant_of-self-2 : goal.invariant_of-self-2
invariant_of-self-2 c =
    let nodes : c.nodes-nodes.result.now ≡ c.self.inside.machine.now.nodes = c.nodes-nodes.ensures.same ∙ ap (λ z. z.nodes) c.machine.ensures.same in
    let some = some_edges c.self.inside.tree.items (λ e. grind (arith, c.if-is_empty.ensures, c.self.inside.tree.ok.0)) in
    let tree : IsTreeBelow (length c.self.inside.machine.now.nodes) (edges_at c.self.inside.tree.items) = kept_tree (length c.self.inside.machine.now.nodes) (edges_at c.self.inside.tree.items) c.self.inside.tools.marks (c.self.invariant.kept (ap (λ z. z.usable) c.self.view_is ∙ c.requires.usable)) some in
    record {
      trimmed = c.self.invariant.trimmed;
      kept = λ _. subst (λ z. IsKeptTree (length z) (edges_at c.go_on.new.tree.items) c.go_on.new.tools.marks) nodes (went_kept (node_moves c.nodes-nodes.result.now) (length c.nodes-nodes.result.now) c.args.byte tree.0 c.in_ok-on.on c.self.inside.untaken c.go_on.new.code (edges_at c.go_on.new.tree.items) c.go_on.new.tools.marks c.in_ok-on.ensures.long (c.in_ok-on.ensures.went tree.0 tree.1));
    }

pub returns-clause-fed : goal.returns-clause-fed
returns-clause-fed c =
    let nodes : c.nodes-nodes.result.now ≡ c.self.inside.machine.now.nodes = c.nodes-nodes.ensures.same ∙ ap (λ z. z.nodes) c.machine.ensures.same in
    let some = some_edges c.self.inside.tree.items (λ e. grind (arith, c.if-is_empty.ensures, c.self.inside.tree.ok.0)) in
    let old : Front = record { machine = c.self.inside.machine.now; untaken = c.self.inside.untaken; edges = edges_at c.self.inside.tree.items; ended = c.self.inside.ended; usable = c.self.inside.usable } in
    let new : Front = record { machine = c.self.inside.machine.now; untaken = c.go_on.new.code; edges = edges_at c.go_on.new.tree.items; ended = c.self.inside.ended; usable = true } in
    λ w taken h.
    subst (λ z. IsFedBy z new (w ++ c.args.byte ∷ []) taken) (sym c.answer_of.ensures)
    (fed old w taken (is_trim old.machine c.self.invariant.trimmed) c.args.byte (length c.nodes-nodes.result.now) c.in_ok-on.on new refl some
    (λ t is. subst (λ z. TreeWentOn (node_moves z) c.args.byte (length c.nodes-nodes.result.now) t c.in_ok-on.on c.self.inside.untaken c.go_on.new.code (edges_at c.go_on.new.tree.items)) nodes (c.in_ok-on.ensures.went t is))
    (subst (λ z. IsFed z w taken) (sym c.self.view_is) h))
