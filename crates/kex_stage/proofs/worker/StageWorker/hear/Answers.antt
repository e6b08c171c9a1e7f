use Rattle.std.proofs.Common.{◌≡◌, ◌++◌, ◌-◌, length, take, drop, [], List, ℕ, None, Some, sym, ap, subst, ◌∙◌}
use Rattle.std.proofs.lemmas.List.{take_rest}
use Rattle.kex_pipe.specs.Working.{ReadMore}
use Rattle.kex_stage.specs.Hearings.{HasHeard, LeavesWaiting}
use Rattle.kex_stage.specs.Stages.{FollowsBehind, SaysOf, StageState, TeamFollows, teller_in}
use Rattle.kex_stage.proofs.WaitingBytes.{behind_none, behind_some}
use Rattle.kex_stage.proofs.worker.StageWorker.hear.Goals as goal

pub returns-in-Whole-clause-reads : goal.returns-in-Whole-clause-reads
returns-in-Whole-clause-reads c =
    let s = c.self.inside in
    let team = c.hear.new.self in
    let piece = c.args.piece.now in
    let x = c.args.out.now.items in
    let y = c.hear.new.out.items in
    let none : s.ahead.items ≡ [] = ap (λ (z : StageState). z.ahead) c.self.view_is ∙ c.requires.none in
    subst (λ (z : StageState). (w text : List ℕ) → TeamFollows z.team w text → ReadMore (SaysOf (teller_in z.team)) (FollowsBehind (record { team = team; ahead = s.ahead.items })) w text piece None x y) c.self.view_is
    (λ w text f.
    let read = subst (λ h. HasHeard s.team team w text piece h x y) c.in-Whole.is (c.in_ok-hear.ensures.heard w text f) in
    subst (λ l. ReadMore (SaysOf (teller_in s.team)) (FollowsBehind (record { team = team; ahead = l })) w text piece None x y) (sym none) (behind_none (SaysOf (teller_in s.team)) team w text piece None x y read))

pub returns-in-Refused-clause-reads : goal.returns-in-Refused-clause-reads
returns-in-Refused-clause-reads c =
    let s = c.self.inside in
    let team = c.hear.new.self in
    let piece = c.args.piece.now in
    let at = Some c.in-Refused.at in
    let x = c.args.out.now.items in
    let y = c.hear.new.out.items in
    let none : s.ahead.items ≡ [] = ap (λ (z : StageState). z.ahead) c.self.view_is ∙ c.requires.none in
    subst (λ (z : StageState). (w text : List ℕ) → TeamFollows z.team w text → ReadMore (SaysOf (teller_in z.team)) (FollowsBehind (record { team = team; ahead = s.ahead.items })) w text piece at x y) c.self.view_is
    (λ w text f.
    let read = subst (λ h. HasHeard s.team team w text piece h x y) c.in-Refused.is (c.in_ok-hear.ensures.heard w text f) in
    subst (λ l. ReadMore (SaysOf (teller_in s.team)) (FollowsBehind (record { team = team; ahead = l })) w text piece at x y) (sym none) (behind_none (SaysOf (teller_in s.team)) team w text piece at x y read))

pub returns-in_ok-extend_from_slice-in-PutOff-clause-reads : goal.returns-in_ok-extend_from_slice-in-PutOff-clause-reads
returns-in_ok-extend_from_slice-in-PutOff-clause-reads c =
    let s = c.self.inside in
    let team = c.hear.new.self in
    let piece = c.args.piece.now in
    let count = c.in-PutOff.count in
    let q = c.in-PutOff.state in
    let rest = c.extend_from_slice.new.self.items in
    let x = c.args.out.now.items in
    let y = c.hear.new.out.items in
    let before : s.ahead.items ≡ [] = ap (λ (z : StageState). z.ahead) c.self.view_is ∙ c.requires.none in
    let left : rest ≡ drop count piece = c.in_ok-extend_from_slice-in-PutOff.ensures.items ∙ ap (λ l. l ++ take (length piece - count) (drop count piece)) before ∙ take_rest piece count in
    let waits = subst (λ h. LeavesWaiting s.team team piece h) c.in-PutOff.is c.in_ok-hear.ensures.left in
    subst (λ (z : StageState). (w text : List ℕ) → TeamFollows z.team w text → ReadMore (SaysOf (teller_in z.team)) (FollowsBehind (record { team = team; ahead = rest })) w text piece None x y) c.self.view_is
    (λ w text f.
    let read = subst (λ h. HasHeard s.team team w text piece h x y) c.in-PutOff.is (c.in_ok-hear.ensures.heard w text f) in
    behind_some (teller_in s.team) team w text piece rest count q x y c.in_ok-hear.ensures.same left waits.1 read)
