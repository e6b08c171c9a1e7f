use Rattle.std.proofs.Common.{◌≡◌, ◌+◌, ◌≤◌, [], None, Some, drop, length, sym, ap, subst, ◌∙◌, arith}
use Rattle.std.specs.Prelude.{slice_get}
use Rattle.std.proofs.lemmas.List.{drop_all}
use Rattle.std.proofs.lemmas.Option.{slice_get-get_or}
use Rattle.kex_determine.specs.Determined.{MeetsInOrder, targets_of}
use Rattle.kex_tabfile.specs.Writing.{AreFirstTrees, AreTreesOf, GoesOnTo}
use Rattle.kex_tabfile.proofs.StateSteps.{targets_some, targets_none}
use Rattle.kex_tabfile.proofs.state_trees.StateTrees.meet_all.Goals as goal
use Rattle.kex_tabfile.proofs.state_trees.StateTrees.meet_all.Goals.{in-Some+in_ok-meet, in_default}

pub loop-class-preserved : goal.loop-class-preserved
loop-class-preserved c =
    let g = c.args.self.now.workspace in
    let go = c.args.go.now in
    let i = c.loop-class.class in
    let inv = c.loop-class.invariant in
    let at : slice_get go i ≡ Some c.at.result.now = slice_get-get_or go i None (omega (arith, c.loop-class-test.true, c.len-class-end.ensures.long)) ∙ ap (λ z. Some z) (sym c.at.ensures) in
    elim c.match-at.branch [
      | in-Some+in_ok-meet w ↦ (
          let r = w.in-Some.transition in
          let here : slice_get go i ≡ Some (Some r) = at ∙ ap (λ z. Some z) w.in-Some.is in
          record {
            numbers = ap (λ z. z.numbers) w.self-is ∙ w.in_ok-meet.ensures.kept.0 ∙ inv.numbers;
            workspace = ap (λ z. z.workspace) w.self-is ∙ w.in_ok-meet.ensures.kept.1 ∙ inv.workspace;
            machine = subst (λ z. AreTreesOf g z.trees.items) (sym w.self-is) (subst (λ z. AreTreesOf z w.meet.new.self.trees.items) inv.workspace w.in_ok-meet.ensures.machine);
            longer = subst (λ z. length c.args.self.now.trees.items ≤ length z.trees.items) (sym w.self-is) (omega (arith, inv.longer, w.in_ok-meet.ensures.longer));
            met = λ shapes s n first own each order.
                let old = inv.met shapes s n first own each order in
                let goes : GoesOnTo c.loop-class.self.workspace shapes s i r.target = subst (λ z. GoesOnTo z shapes s i r.target) (sym inv.workspace) (each i r here) in
                subst (λ z. AreFirstTrees shapes z.trees.items × MeetsInOrder (length z.trees.items) (targets_of (drop (i + 1) go)) n) (sym w.self-is)
                (w.in_ok-meet.ensures.met shapes s (targets_of (drop (i + 1) go)) n old.0 own goes (subst (λ z. MeetsInOrder (length c.loop-class.self.trees.items) z n) (targets_some go i r here) old.1));
          }
          )
      | in_default w ↦ (
          let here : slice_get go i ≡ Some None = at ∙ ap (λ z. Some z) w.in_default.is in
          record {
            numbers = ap (λ z. z.numbers) w.self-is ∙ inv.numbers;
            workspace = ap (λ z. z.workspace) w.self-is ∙ inv.workspace;
            machine = subst (λ z. AreTreesOf g z.trees.items) (sym w.self-is) inv.machine;
            longer = subst (λ z. length c.args.self.now.trees.items ≤ length z.trees.items) (sym w.self-is) inv.longer;
            met = λ shapes s n first own each order.
                let old = inv.met shapes s n first own each order in
                subst (λ z. AreFirstTrees shapes z.trees.items × MeetsInOrder (length z.trees.items) (targets_of (drop (i + 1) go)) n) (sym w.self-is)
                (old.0, subst (λ z. MeetsInOrder (length c.loop-class.self.trees.items) z n) (targets_none go i here) old.1);
          }
          )
    ]

pub returns-clause-met : goal.returns-clause-met
returns-clause-met c = λ shapes s n first own each order.
    let go = c.args.go.now in
    let i = c.loop-class.class in
    let old = c.loop-class.invariant.met shapes s n first own each order in
    let none : drop i go ≡ [] = drop_all i go (omega (arith, c.loop-class-test.false, c.len-class-end.ensures.long)) in
    (old.0, subst (λ z. MeetsInOrder (length c.loop-class.self.trees.items) (targets_of z) n) none old.1)
