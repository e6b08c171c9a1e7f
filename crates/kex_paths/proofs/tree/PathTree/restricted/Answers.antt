use Rattle.std.proofs.Common.{◌≡◌, [], ◌∷◌, Some, false, get_or, length, sym, ap₂, subst, ◌∙◌}
use Rattle.kex_model.specs.Labelled.{shape_of}
use Rattle.kex_machine.specs.Advancing.{EachPlace}
use Rattle.kex_machine.specs.Covering.{restrict_if}
use Rattle.kex_paths.specs.Forests.{LeadsToTree}
use Rattle.kex_paths.specs.Tasks.{tokens, tokens_from, EachTip}
use Rattle.kex_paths.proofs.LeftTrees.{regs_fit, none_left, fits, gathered}
use Rattle.kex_paths.proofs.Preorders.{tokens_of_lists, each_tip}
use Rattle.kex_paths.proofs.tree.PathTree.restricted.Goals as goal

pub put_tree-requires-clause-tips : goal.put_tree-requires-clause-tips
put_tree-requires-clause-tips c =
    let s = c.shape-shape.ensures.sound in
    let text : c.deref.result.now ≡ tokens s.shape = c.deref.ensures.value ∙ c.in_ok-read_tokens.ensures ∙ ap₂ (λ u v. tokens_from u v) (c.shape-shape.ensures.same ∙ s.inner_is) (c.leaves.ensures ∙ s.places_are) ∙ tokens_of_lists s.shape in
    let places : EachPlace (length c.args.keep.now) s.shape = subst (λ z. EachPlace z s.shape) (sym c.requires.long) s.in_range in
    subst (λ z. EachTip (length c.args.keep.now) z) (sym text) (each_tip (length c.args.keep.now) s.shape places)

pub put_tree-requires-clause-labels : goal.put_tree-requires-clause-labels
put_tree-requires-clause-labels c = regs_fit c.args.self.now c.args.update.now c.deref.result.now (c.deref.ensures.value ∙ c.in_ok-read_tokens.ensures ∙ ap₂ (λ u v. tokens_from u v) c.shape-shape.ensures.same c.leaves.ensures) c.requires.tree

pub returns-in_default-clause-left : goal.returns-in_default-clause-left
returns-in_default-clause-left c = λ a is change.
    let text : c.deref.result.now ≡ tokens (shape_of a.tree) = c.deref.ensures.value ∙ c.in_ok-read_tokens.ensures ∙ ap₂ (λ u v. tokens_from u v) (c.shape-shape.ensures.same ∙ is.0) (c.leaves.ensures ∙ is.1) ∙ tokens_of_lists (shape_of a.tree) in
    none_left c.pop_root.new.self.edges c.pop_root.result (restrict_if (λ p. get_or c.args.keep.now p false) (Some a)) c.in_default.is (c.pop_root.ensures.trees (restrict_if (λ p. get_or c.args.keep.now p false) (Some a) ∷ []) (c.in_ok-put_tree.ensures a text change)).0

pub gather-requires-clause-fits : goal.gather-requires-clause-fits
gather-requires-clause-fits c =
    fits (λ p. get_or c.args.keep.now p false) c.edges.result.now c.in-Some.root c.machine-machine.result.now c.args.self.now c.args.update.now c.machine-machine.ensures c.shape-shape.ensures.sound c.requires.tree
    (λ a is change.
    let text : c.deref.result.now ≡ tokens (shape_of a.tree) = c.deref.ensures.value ∙ c.in_ok-read_tokens.ensures ∙ ap₂ (λ u v. tokens_from u v) (c.shape-shape.ensures.same ∙ is.0) (c.leaves.ensures ∙ is.1) ∙ tokens_of_lists (shape_of a.tree) in
    subst (λ z. LeadsToTree z (Some c.in-Some.root) (restrict_if (λ p. get_or c.args.keep.now p false) (Some a))) (sym c.edges.ensures) (c.in-Some.ensures.trees (restrict_if (λ p. get_or c.args.keep.now p false) (Some a) ∷ []) (c.in_ok-put_tree.ensures a text change)).0)

pub returns-clause-left : goal.returns-clause-left
returns-clause-left c = λ a is change.
    let text : c.deref.result.now ≡ tokens (shape_of a.tree) = c.deref.ensures.value ∙ c.in_ok-read_tokens.ensures ∙ ap₂ (λ u v. tokens_from u v) (c.shape-shape.ensures.same ∙ is.0) (c.leaves.ensures ∙ is.1) ∙ tokens_of_lists (shape_of a.tree) in
    gathered (λ p. get_or c.args.keep.now p false) c.edges.result.now c.in-Some.root a c.in_ok-next.next.0 c.in_ok-next.next.1 (subst (λ z. LeadsToTree z (Some c.in-Some.root) (restrict_if (λ p. get_or c.args.keep.now p false) (Some a))) (sym c.edges.ensures) (c.in-Some.ensures.trees (restrict_if (λ p. get_or c.args.keep.now p false) (Some a) ∷ []) (c.in_ok-put_tree.ensures a text change)).0) c.in_ok-next.ensures.tree
