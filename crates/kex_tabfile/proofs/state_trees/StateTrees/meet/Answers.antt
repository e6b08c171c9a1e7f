use Rattle.std.proofs.Common.{◌≡◌, ℕ, None, Some, length, refl, sym, subst, ◌∙◌, arith}
use Rattle.std.specs.Prelude.{slice_get, IfSome, MatchOption}
use Rattle.std.proofs.lemmas.Option.{slice_get_read}
use Rattle.kex_model.specs.Labelled.{Shape}
use Rattle.kex_model.proofs.Tables.{some_same}
use Rattle.kex_paths.specs.Nexts.{IsOfShape, HasClass, IsNext, FollowsTree}
use Rattle.kex_determine.specs.Determined.{MeetsInOrder}
use Rattle.kex_tabfile.specs.Writing.{AreFirstTrees, AreTreesOf}
use Rattle.kex_tabfile.proofs.StateSteps.{never_none, target_new, trees_more}
use Rattle.kex_tabfile.proofs.state_trees.StateTrees.meet.Goals as goal

pub returns-in_ok-push-clause-machine : goal.returns-in_ok-push-clause-machine
returns-in_ok-push-clause-machine c =
    let g = c.args.self.now.workspace in
    let trees = c.args.self.now.trees.items in
    let tree = c.index.result.now in
    let at : slice_get trees c.args.state ≡ Some tree = slice_get_read trees (length trees) c.args.state tree refl c.requires.state c.index.ensures in
    let same = subst (λ o. IfSome o (λ n. n.0.machine ≡ tree.machine)) c.in-Some.is c.in_ok-next.ensures.machine in
    subst (λ z. AreTreesOf g z) (sym c.in_ok-push.ensures.items) (trees_more g trees c.in-Some.tree (same ∙ c.requires.machine c.args.state tree at) c.requires.machine)

pub returns-in_ok-push-clause-met : goal.returns-in_ok-push-clause-met
returns-in_ok-push-clause-met c = λ shapes s more n first here goes order.
    let g = c.args.self.now.workspace in
    let trees = c.args.self.now.trees.items in
    let tree = c.index.result.now in
    let at : slice_get trees c.args.state ≡ Some tree = slice_get_read trees (length trees) c.args.state tree refl c.requires.state c.index.ensures in
    let of = c.requires.machine c.args.state tree at in
    let own = first c.args.state tree at in
    let one : own.0 ≡ s = some_same own.0 s (sym own.1 ∙ here) in
    let shape : IsOfShape tree s = subst (λ z. IsOfShape tree z) one own.2 in
    let same = subst (λ o. IfSome o (λ n. n.0.machine ≡ tree.machine)) c.in-Some.is c.in_ok-next.ensures.machine in
    let follows : (x : Shape ℕ) (b : ℕ) → IsOfShape tree x → HasClass tree.machine c.args.class b → FollowsTree c.in-Some.tree b x c.in-Some._update = (λ x b i h. subst (λ o. MatchOption o (IsNext tree.machine b x None) (λ n. FollowsTree n.0 b x n.1)) c.in-Some.is (c.in_ok-next.ensures.next x b i h)) in
    let is : c.args.target ≡ length trees = omega (arith, c.if-target-len.false, c.len.ensures, c.args.self.now.trees.ok.0) in
    subst (λ z. AreFirstTrees shapes z × MeetsInOrder (length z) more n) (sym c.in_ok-push.ensures.items)
    (target_new g shapes tree of s shape c.args.class c.args.target goes trees c.in-Some.tree c.in-Some._update n more same follows is first order)

pub returns-in_default-clause-met : goal.returns-in_default-clause-met
returns-in_default-clause-met c = λ shapes s more n first here goes order.
    let g = c.args.self.now.workspace in
    let trees = c.args.self.now.trees.items in
    let tree = c.index.result.now in
    let at : slice_get trees c.args.state ≡ Some tree = slice_get_read trees (length trees) c.args.state tree refl c.requires.state c.index.ensures in
    let of = c.requires.machine c.args.state tree at in
    let own = first c.args.state tree at in
    let one : own.0 ≡ s = some_same own.0 s (sym own.1 ∙ here) in
    let shape : IsOfShape tree s = subst (λ z. IsOfShape tree z) one own.2 in
    absurd (never_none g shapes tree of s shape c.args.class c.args.target goes (λ x b i h. subst (λ o. MatchOption o (IsNext tree.machine b x None) (λ n. FollowsTree n.0 b x n.1)) c.in_default.is (c.in_ok-next.ensures.next x b i h)))
