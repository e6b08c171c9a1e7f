use Rattle.std.proofs.Common.{[], ◌∷◌, ◌++◌, ap, sym, ◌∙◌}
use Rattle.kex_frontier.specs.Edges.{as_is}
use Rattle.kex_frontier.specs.Views.{edges_at}
use Rattle.kex_frontier.proofs.Forests.{only_root, has_root}
use Rattle.kex_frontier.proofs.forest.CodeForest.settle.Goals as goal

pub returns-in-Some-clause-code : goal.returns-in-Some-clause-code
returns-in-Some-clause-code c = λ r has. c.in_ok-append.ensures.added ∙ ap (λ z. c.args.code.now ++ z) (c.deref.ensures.value ∙ (only_root r c.args.self.now c.pop_edge.new.self c.in-Some.edge.label.items c.in-Some.edge.at (sym c.if-is_last_there.ensures) c.in-Some.ensures.edges has).0)

pub returns-in-Some-clause-tree : goal.returns-in-Some-clause-tree
returns-in-Some-clause-tree c = λ r has. ap (λ z. edges_at z.items) c.swap.ensures.y_after ∙ ap (λ z. z.edges) c.self.view_is ∙ c.in_ok-push_edge.ensures.edges ∙ ap (λ z. c.pop_edge.new.self.edges ++ record { label = z; at = c.in-Some.edge.at } ∷ []) c.clear-in-Some.ensures.items ∙ (only_root r c.args.self.now c.pop_edge.new.self c.in-Some.edge.label.items c.in-Some.edge.at (sym c.if-is_last_there.ensures) c.in-Some.ensures.edges has).1

pub returns-in_default-clause-there : goal.returns-in_default-clause-there
returns-in_default-clause-there c = λ r has. absurd (has_root as_is c.args.self.now (sym c.if-is_last_there.ensures) c.in_default.ensures.none (r ∷ []) has)

pub returns-in_default-clause-code : goal.returns-in_default-clause-code
returns-in_default-clause-code c = λ r has. absurd (has_root as_is c.args.self.now (sym c.if-is_last_there.ensures) c.in_default.ensures.none (r ∷ []) has)

pub returns-in_default-clause-tree : goal.returns-in_default-clause-tree
returns-in_default-clause-tree c = λ r has. absurd (has_root as_is c.args.self.now (sym c.if-is_last_there.ensures) c.in_default.ensures.none (r ∷ []) has)
