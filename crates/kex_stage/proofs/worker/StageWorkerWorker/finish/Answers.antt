use Rattle.std.proofs.Common.{◌≡◌, ◌++◌, [], List, ℕ, sym, ap, subst, ◌∙◌, arith, append-nil}
use Rattle.std.specs.Prelude.{IfOk}
use Rattle.std.proofs.lemmas.List.{nil_from_length}
use Rattle.kex_pipe.specs.Working.{CameToEnd}
use Rattle.kex_stage.specs.Stages.{ClosesAs, FollowsBehind, StageState, teller_in}
use Rattle.kex_stage.proofs.WaitingBytes.{if_ok}
use Rattle.kex_stage.proofs.worker.StageWorkerWorker.finish.Goals as goal

pub returns-then-is_empty-clause-ends : goal.returns-then-is_empty-clause-ends
returns-then-is_empty-clause-ends c =
    let s = c.self.inside in
    let x = c.args.out.now.items in
    let y = c.finish.new.out.items in
    let empty : c.replace-text.result.items ≡ [] = nil_from_length c.replace-text.result.items (grind (arith, c.if-is_empty.ensures, c.replace-text.result.ok.0)) in
    let none : s.ahead.items ≡ [] = ap (λ v. v.items) (sym c.replace-text.ensures.value) ∙ empty in
    subst (λ (z : StageState). IfOk c.finish.result (λ parsed. (w text : List ℕ) → FollowsBehind z w text → CameToEnd (ClosesAs (teller_in z.team)) w text parsed x y)) c.self.view_is
    (if_ok c.finish.result (λ parsed ends w text f. subst (λ l. CameToEnd (ClosesAs (teller_in s.team)) l text parsed x y) (sym (f.all ∙ ap (λ l. f.behind ++ l) none ∙ append-nil f.behind)) (ends f.behind text f.follows)) c.finish.ensures.ends)

pub returns-clause-ends : goal.returns-clause-ends
returns-clause-ends c =
    let s = c.self.inside in
    let x = c.args.out.now.items in
    let y = c.finish_behind.new.out.items in
    let bytes : c.deref.result.now ≡ s.ahead.items = c.deref.ensures.value ∙ ap (λ v. v.items) c.replace-text.ensures.value in
    subst (λ (z : StageState). IfOk c.finish_behind.result (λ parsed. (w text : List ℕ) → FollowsBehind z w text → CameToEnd (ClosesAs (teller_in z.team)) w text parsed x y)) c.self.view_is
    (if_ok c.finish_behind.result (λ parsed ends w text f. subst (λ l. CameToEnd (ClosesAs (teller_in s.team)) l text parsed x y) (ap (λ l. f.behind ++ l) bytes ∙ sym f.all) (ends f.behind text f.follows)) c.finish_behind.ensures.ends)
