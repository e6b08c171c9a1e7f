use Rattle.std.proofs.Common.{◌≡◌, ◌++◌, [], List, ℕ, Some, None, sym, ap, subst, ◌∙◌, arith}
use Rattle.std.specs.Prelude.{IfOk}
use Rattle.std.proofs.lemmas.List.{nil_from_length}
use Rattle.kex_pipe.specs.Working.{ReadMore}
use Rattle.kex_stage.specs.Stages.{FollowsBehind, SaysOf, StageState, teller_in}
use Rattle.kex_stage.proofs.WaitingBytes.{behind_given, if_ok, reads_none_more}
use Rattle.kex_stage.specs.declared.worker.Waiting.{Waiting}
use Rattle.kex_stage.specs.declared.worker.Waiting.TheVariants.{Over}
use Rattle.kex_stage.specs.Waitings.{HasWaited, IsWaitOver}
use Rattle.kex_stage.proofs.worker.StageWorkerWorker.go_on.Goals as goal

pub returns-then-held-eq0-clause-reads : goal.returns-then-held-eq0-clause-reads
returns-then-held-eq0-clause-reads c =
    let old = c.args.self.now in
    let piece = c.args.piece.now in
    let x = c.args.out.now.items in
    let y = c.hear.new.out.items in
    let here : c.self.inside.ahead.items ≡ [] = nil_from_length c.self.inside.ahead.items (grind (arith, c.len-held.ensures, c.if-held-eq0.true, c.self.inside.ahead.ok.0)) in
    let none : old.ahead ≡ [] = ap (λ (z : StageState). z.ahead) (sym c.self.view_is) ∙ here in
    if_ok c.hear.result (λ at reads w text f. behind_given (SaysOf (teller_in old.team)) (FollowsBehind c.hear.new.self) f.behind w [] piece text at x y (f.all ∙ ap (λ l. f.behind ++ l) none) (reads f.behind text f.follows)) c.hear.ensures.reads

pub returns-in-On-clause-reads : goal.returns-in-On-clause-reads
returns-in-On-clause-reads c = λ w text f.
    let old = c.args.self.now in
    let new = c.put_off.new.self in
    let both = subst (λ o. HasWaited old new w text c.args.piece.now o) c.in-On.is (c.in_ok-put_off.ensures.waits w text f) in
    reads_none_more (SaysOf (teller_in old.team)) (FollowsBehind new) w c.args.piece.now text None c.args.out.now.items both.0 (λ _. both.1)

pub returns-in-Refused-clause-reads : goal.returns-in-Refused-clause-reads
returns-in-Refused-clause-reads c = λ w text f.
    let old = c.args.self.now in
    let new = c.put_off.new.self in
    let at = c.in-Refused.at in
    let said = subst (λ o. HasWaited old new w text c.args.piece.now o) c.in-Refused.is (c.in_ok-put_off.ensures.waits w text f) in
    reads_none_more (SaysOf (teller_in old.team)) (FollowsBehind new) w c.args.piece.now text (Some at) c.args.out.now.items said (λ e. let bad : Some at ≡ None = e in cc)

over : {P : Type 0} (o : Waiting) → o ≡ Over → (IsWaitOver o → P) → P
over o is h = h (subst (λ z. IsWaitOver z) (sym is) tt)

pub returns-clause-reads : goal.returns-clause-reads
returns-clause-reads c =
    let s = c.self-2.inside in
    let piece = c.args.piece.now in
    let x = c.args.out.now.items in
    let y = c.hear-2.new.out.items in
    let new = c.hear-2.new.self in
    let view = c.self-2.view_is ∙ over c.in_ok-put_off.field-0 c.in-Over.is c.in_ok-put_off.ensures.none in
    let all : c.deref.result.now ≡ s.ahead.items ++ piece = c.deref.ensures.value ∙ c.in_ok-extend_from_slice.ensures.items ∙ ap (λ v. v.items ++ piece) c.replace-text.ensures.value in
    subst (λ (z : StageState). IfOk c.hear-2.result (λ at. (w text : List ℕ) → FollowsBehind z w text → ReadMore (SaysOf (teller_in z.team)) (FollowsBehind new) w text piece at x y)) view
    (if_ok c.hear-2.result (λ at reads w text f. behind_given (SaysOf (teller_in s.team)) (FollowsBehind new) f.behind w s.ahead.items piece text at x y f.all (subst (λ l. ReadMore (SaysOf (teller_in s.team)) (FollowsBehind new) f.behind text l at x y) all (reads f.behind text f.follows))) c.hear-2.ensures.reads)
