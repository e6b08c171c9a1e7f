use Rattle.std.proofs.Common.{◌≡◌, ◌++◌, ◌<◌, ◌+◌, List, ℕ, Some, None, length, sym, ap, subst, arith, length-append}
use Rattle.kex_stage.specs.Ahead.{CanWait}
use Rattle.kex_stage.specs.Oracles.{read_of}
use Rattle.kex_stage.specs.Stages.{FollowsBehind, SaysOf, StageState, teller_in}
use Rattle.kex_stage.proofs.WaitingBytes.{behind_more, refused_behind, waits_on}
use Rattle.kex_stage.proofs.worker.StageWorker.put_off.Goals as goal

pub invariant_of-self-in-Quiet : goal.invariant_of-self-in-Quiet
invariant_of-self-in-Quiet c = λ _.
    let s = c.self.inside in
    let piece = c.args.piece.now in
    let all = c.extend_from_slice.new.self.items in
    let same : all ≡ s.ahead.items ++ piece = c.in_ok-extend_from_slice-in-Quiet.ensures.items in
    let some : 0 < length s.ahead.items = subst (λ (z : StageState). 0 < length z.ahead) (sym c.self.view_is) c.requires.some in
    let room : read_of s.team.oracle + length s.ahead.items + length piece < 18446744073709551616 = subst (λ (z : StageState). read_of z.team.oracle + length z.ahead + length piece < 18446744073709551616) (sym c.self.view_is) c.requires.room in
    let i = c.self.invariant some in
    let tells = c.in-Quiet.ensures in (
      subst (λ l. CanWait s.team.oracle s.team.actor l c.in-Quiet.state) (sym same) (waits_on s.team.oracle s.team.actor s.ahead.items piece s.reached c.in-Quiet.state i.0 tells),
      omega (arith, ap length same, length-append s.ahead.items piece, room),
    )

pub returns-in_ok-extend_from_slice-in-Quiet-clause-waits : goal.returns-in_ok-extend_from_slice-in-Quiet-clause-waits
returns-in_ok-extend_from_slice-in-Quiet-clause-waits c =
    let s = c.self.inside in
    let piece = c.args.piece.now in
    let all = c.extend_from_slice.new.self.items in
    let same : all ≡ s.ahead.items ++ piece = c.in_ok-extend_from_slice-in-Quiet.ensures.items in
    let some : 0 < length s.ahead.items = subst (λ (z : StageState). 0 < length z.ahead) (sym c.self.view_is) c.requires.some in
    let i = c.self.invariant some in
    subst (λ (z : StageState). (w text : List ℕ) → FollowsBehind z w text → SaysOf (teller_in z.team) (w ++ piece) None text × FollowsBehind (record { team = s.team; ahead = all }) (w ++ piece) text) c.self.view_is
    (λ w text f. subst (λ l. SaysOf (teller_in s.team) (w ++ piece) None text × FollowsBehind (record { team = s.team; ahead = l }) (w ++ piece) text) (sym same) (behind_more s.team s.ahead.items piece w text s.reached c.in-Quiet.state i.0 c.in-Quiet.ensures f))

pub returns-in-Refused-clause-waits : goal.returns-in-Refused-clause-waits
returns-in-Refused-clause-waits c =
    let s = c.self.inside in
    let piece = c.args.piece.now in
    let some : 0 < length s.ahead.items = subst (λ (z : StageState). 0 < length z.ahead) (sym c.self.view_is) c.requires.some in
    let i = c.self.invariant some in
    let at : read_of s.team.oracle + length s.ahead.items + c.in-Refused.count ≡ c.read.result + c.len.result + c.in-Refused.count = grind (arith, c.read.ensures, c.len.ensures, s.ahead.ok.0) in
    subst (λ (z : StageState). (w text : List ℕ) → FollowsBehind z w text → SaysOf (teller_in z.team) (w ++ piece) (Some (c.read.result + c.len.result + c.in-Refused.count)) text) c.self.view_is
    (λ w text f. subst (λ n. SaysOf (teller_in s.team) (w ++ piece) (Some n) text) at (refused_behind s.team s.ahead.items piece w text s.reached c.in-Refused.count i.0 c.in-Refused.ensures f))
