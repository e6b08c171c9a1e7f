use Rattle.std.proofs.Common.{◌≡◌, ℕ, ◌+◌, ◌<◌, List, Option, Some, None, length, get_or, sym, ap, subst, ◌∙◌, arith}
use Rattle.std.specs.Prelude.{All, Contains, IfSome, MatchOption, slice_get}
use Rattle.std.proofs.lemmas.List.Elements.{All-contains, All-weaker, All-push}
use Rattle.std.proofs.lemmas.List.{length_push}
use Rattle.std.proofs.lemmas.Option.{slice_get-get_or}
use Rattle.kex_byteset.specs.Classes.{class_at, class_count}
use Rattle.kex_model.specs.Labelled.{Shape}
use Rattle.kex_sst.specs.Parts.{Change}
use Rattle.kex_paths.specs.Nexts.{Outline, IsOfShape, HasClass, IsNext, FollowsTree}
use Rattle.kex_determine.specs.Numbering.{NextIs, IsMet, AreNumbered, AreTransitionsTo, Refuses, IsMetIf, HasMoreFound}
use Rattle.kex_determine.proofs.Transitions.{get_later, tree_at, next_on, next_met, one_more, one_again, transitions_as, err_as, refuses_as}
use Rattle.kex_determine.proofs.rows.transitions_of.Goals as goal
use Rattle.kex_determine.proofs.rows.transitions_of.Goals.{After-alike_among, in-Some+in_ok-repeat-in-Some, in-None+in_ok-push-in-None+in_ok-next-in-None+in_ok-transition-in-None+in_ok-push-in-None-2}

module _ (c : After-alike_among) (xs : List (Shape ℕ)) (s : Shape ℕ) (n : AreNumbered c.args.workspace.now c.args.states.now.keys.keys c.args.states.now.trees.items xs) (at : slice_get xs c.args.at ≡ Some s) where
  so_far : (ys : List (Shape ℕ)) × AreTransitionsTo c.loop-class.class c.args.workspace.now c.args.partition.now c.loop-class.states.keys.keys c.loop-class.states.trees.items xs ys s c.loop-class.go
  so_far = let q = c.loop-class.invariant.so_far xs s n at in (q.0, subst (λ z. AreTransitionsTo c.loop-class.class z c.args.partition.now c.loop-class.states.keys.keys c.loop-class.states.trees.items xs q.0 s c.loop-class.go) c.loop-class.invariant.workspace q.1)

  met : IsMet c.args.workspace.now c.index-tree.result.now s
  met = tree_at c.args.workspace.now c.loop-class.states.keys.keys c.loop-class.states.trees.items so_far.0 c.args.at s c.index-tree.result.now so_far.1.numbered (get_later c.args.workspace.now xs so_far.0 c.args.at s so_far.1.begins at) c.index-tree.ensures

  within : c.loop-class.class < class_count c.args.partition.now
  within = omega (arith, c.loop-class-test.true, c.classes-class-end.ensures.count)

  module _ (next : Option (Outline × Change)) (same : IfSome next (λ m. m.0.machine ≡ c.index-tree.result.now.machine)) (goes : (u : Shape ℕ) (b : ℕ) → IsOfShape c.index-tree.result.now u → HasClass c.index-tree.result.now.machine c.loop-class.class b → MatchOption next (IsNext c.index-tree.result.now.machine b u None) (λ m. FollowsTree m.0 b u m.1)) where
    next_is : (b : ℕ) → b < 256 → class_at c.args.partition.now b ≡ c.loop-class.class → NextIs c.args.workspace.now b s next
    next_is = next_on c.args.workspace.now c.args.partition.now c.requires.classes c.index-tree.result.now s met c.loop-class.class next same goes

    found : IsMetIf c.args.workspace.now next
    found = next_met c.args.workspace.now c.args.partition.now c.requires.classes s met.found c.loop-class.class within next next_is

pub advance_shared-requires : goal.advance_shared-requires
advance_shared-requires c =
    let k = c.requires.known in
    let top = (goal.at.advance_shared-requires c).After-alike_among in
    c.loop-class.invariant.workspace ∙ sym (met top k.0 k.1 k.2 k.3).machine

pub returns-in_err-transition-in-None-clause-err : goal.returns-in_err-transition-in-None-clause-err
returns-in_err-transition-in-None-clause-err c =
    let top = (goal.at.returns-in_err-transition-in-None-clause-err c).After-alike_among in
    let most : c.loop-class.states.most ≡ c.args.states.now.most = c.loop-class.invariant.most in
    let next = c.in_ok-next-in-None in
    err_as _ c.from_residual-in_err-transition-in-None.result c.in_err-transition-in-None.field-0.0 c.from_residual-in_err-transition-in-None.ensures.1
    (refuses_as c.args.states.now.most _ _ c.in_err-transition-in-None.field-0.0
    (λ h xs s n at. h c.args.workspace.now (so_far top xs s n at).0 (so_far top xs s n at).1.numbered (found top xs s n at next.next next.ensures.machine next.ensures.next))
    (subst (λ m. Refuses m ((g : _) (zs : List (Shape ℕ)) → AreNumbered g c.loop-class.states.keys.keys c.loop-class.states.trees.items zs → IsMetIf g next.next → HasMoreFound g m) c.in_err-transition-in-None.field-0.0) most c.in_err-transition-in-None.ensures.err))

pub repeat-requires-clause-few : goal.repeat-requires-clause-few
repeat-requires-clause-few c = omega (arith, c.loop-class.invariant.long, c.loop-class-test.true, c.classes-class-end.ensures.within.1)

pub repeat-requires-clause-before : goal.repeat-requires-clause-before
repeat-requires-clause-before c =
    let before : c.in-Some.earlier < c.loop-class.class = All-contains (λ k. k < c.loop-class.class) c.loop-class.walked.items c.in-Some.earlier c.loop-class.invariant.earlier (subst (λ z. Contains z c.in-Some.earlier) c.deref.ensures.value c.in-Some.ensures.some.0) in
    omega (arith, c.loop-class.invariant.long, before)

pub push-requires-in-None : goal.push-requires-in-None
push-requires-in-None c = omega (arith, c.loop-class.invariant.long, c.loop-class-test.true, c.classes-class-end.ensures.within.1)

pub loop-class-preserved : goal.loop-class-preserved
loop-class-preserved c =
    let top = (goal.at.loop-class-preserved c).After-alike_among in
    elim c.match-alike_among.branch [
      | in-Some+in_ok-repeat-in-Some w ↦ (
          let before : w.in-Some.earlier < c.loop-class.class = All-contains (λ k. k < c.loop-class.class) c.loop-class.walked.items w.in-Some.earlier c.loop-class.invariant.earlier (subst (λ z. Contains z w.in-Some.earlier) c.deref.ensures.value w.in-Some.ensures.some.0) in
          record {
            so_far = λ xs s n at.
                let q = so_far top xs s n at in
                let same = get_or c.loop-class.go w.in-Some.earlier None in
                let here : slice_get c.loop-class.go w.in-Some.earlier ≡ Some same = slice_get-get_or c.loop-class.go w.in-Some.earlier None (omega (arith, before, q.1.long)) in
                let r = one_again c.args.workspace.now c.args.partition.now c.requires.classes c.index-tree.result.now c.loop-class.states.keys.keys c.loop-class.states.trees.items xs q.0 s (met top xs s n at) c.loop-class.class (within top xs s n at) c.loop-class.go w.in-Some.earlier same before here w.in-Some.ensures.some.1 q.1 in
                (q.0, transitions_as (c.loop-class.class + 1) _ _ c.args.partition.now _ _ _ _ xs q.0 s _ _ (w.workspace-is ∙ c.loop-class.invariant.workspace) (ap (λ z. z.keys.keys) w.states-is) (ap (λ z. z.trees.items) w.states-is) (w.go-is ∙ w.in_ok-repeat-in-Some.ensures) r);
            long = omega (arith, ap length (w.go-is ∙ w.in_ok-repeat-in-Some.ensures), length_push c.loop-class.go (get_or c.loop-class.go w.in-Some.earlier None), c.loop-class.invariant.long);
            workspace = w.workspace-is ∙ c.loop-class.invariant.workspace;
            most = ap (λ z. z.most) w.states-is ∙ c.loop-class.invariant.most;
            within = omega (arith, ap (λ z. z.most) w.states-is, ap (λ z. length z.trees.items) w.states-is, c.loop-class.invariant.within);
            earlier = subst (λ z. All (λ k. k < c.loop-class.class + 1) z.items) (sym w.walked-is) (All-weaker (λ k. k < c.loop-class.class) (λ k. k < c.loop-class.class + 1) (λ k h. omega (arith, h)) c.loop-class.walked.items c.loop-class.invariant.earlier);
          }
          )
      | in-None+in_ok-push-in-None+in_ok-next-in-None+in_ok-transition-in-None+in_ok-push-in-None-2 w ↦ (
          let next = w.in_ok-next-in-None in
          let same : w.advance_shared.new.workspace ≡ c.args.workspace.now = next.ensures.same ∙ c.loop-class.invariant.workspace in
          let done = w.in_ok-transition-in-None in
          record {
            so_far = λ xs s n at.
                let q = so_far top xs s n at in
                let f = done.ensures.ok c.args.workspace.now q.0 q.1.numbered (found top xs s n at next.next next.ensures.machine next.ensures.next) in
                let r = one_more c.args.workspace.now c.args.partition.now c.loop-class.states.keys.keys w.follow.new.self.keys.keys c.loop-class.states.trees.items w.follow.new.self.trees.items xs q.0 f.0 s c.loop-class.class next.next c.loop-class.go done.transition q.1 f.1 (next_is top xs s n at next.next next.ensures.machine next.ensures.next) in
                (f.0, transitions_as (c.loop-class.class + 1) _ _ c.args.partition.now _ _ _ _ xs f.0 s _ _ (w.workspace-is ∙ same) (ap (λ z. z.keys.keys) w.states-is) (ap (λ z. z.trees.items) w.states-is) (w.go-is ∙ w.in_ok-push-in-None-2.ensures) r);
            long = omega (arith, ap length (w.go-is ∙ w.in_ok-push-in-None-2.ensures), length_push c.loop-class.go done.transition, c.loop-class.invariant.long);
            workspace = w.workspace-is ∙ same;
            most = ap (λ z. z.most) w.states-is ∙ done.ensures.most ∙ c.loop-class.invariant.most;
            within = omega (arith, ap (λ z. z.most) w.states-is, ap (λ z. length z.trees.items) w.states-is, done.ensures.within, done.ensures.most);
            earlier = subst (λ z. All (λ k. k < c.loop-class.class + 1) z.items) (sym w.walked-is) (subst (λ z. All (λ k. k < c.loop-class.class + 1) z) (sym w.in_ok-push-in-None.ensures.items) (All-push (λ k. k < c.loop-class.class + 1) c.loop-class.walked.items _ (All-weaker (λ k. k < c.loop-class.class) (λ k. k < c.loop-class.class + 1) (λ k h. omega (arith, h)) c.loop-class.walked.items c.loop-class.invariant.earlier) (omega arith)));
          }
          )
    ]
