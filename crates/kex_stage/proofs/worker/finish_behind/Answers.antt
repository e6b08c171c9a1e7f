use Rattle.std.proofs.Common.{◌++◌, refl, subst, ◌∙◌, arith}
use Rattle.kex_pipe.specs.Working.{CameToEnd}
use Rattle.kex_stage.specs.Hearings.{HasHeard}
use Rattle.kex_stage.specs.Stages.{ClosesAs, teller_in}
use Rattle.kex_stage.proofs.WaitingBytes.{cannot_end_behind, finish_given, heard_all, if_ok, none_stops, still_follows, still_waits}
use Rattle.kex_stage.proofs.worker.finish_behind.Goals as goal

pub returns-then-not-may_end-clause-ends : goal.returns-then-not-may_end-clause-ends
returns-then-not-may_end-clause-ends c = λ w text f. cannot_end_behind c.args.team.now w c.args.bytes.now text c.args.state c.args.out.now.items f c.requires.waits (c.may_end.ensures.0 c.if-not-may_end.true)

pub returns-in-Refused-clause-ends : goal.returns-in-Refused-clause-ends
returns-in-Refused-clause-ends c = λ w text f.
    let old = c.args.team.now in
    let mid = c.finish_past.new.self in
    let new = c.hear.new.self in
    let bs = c.args.bytes.now in
    let x = c.finish_past.new.out.items in
    let y = c.hear.new.out.items in
    let none = c.in_ok-finish_past.ensures.none c.if-branch.false in
    let here = still_follows old mid w text none.0 none.1 none.2 f in
    let waits = still_waits old mid bs c.args.state none.0 none.1 c.requires.waits in
    let read = subst (λ h. HasHeard mid new w text bs h x y) c.in-Refused.is (c.in_ok-hear.ensures.heard w text here) in
    absurd (none_stops mid new w bs text c.args.state c.in-Refused.field-0 x y here waits read)

pub returns-in_default : goal.returns-in_default
returns-in_default c =
    let old = c.args.team.now in
    let mid = c.finish_past.new.self in
    let new = c.hear.new.self in
    let bs = c.args.bytes.now in
    let x = c.finish_past.new.out.items in
    let y = c.hear.new.out.items in
    let z = c.finish.new.out.items in
    let past = c.in_ok-finish_past.ensures in
    let none = past.none c.if-branch.false in
    let h = c.in_ok-hear.ensures in
    record {
      same = c.finish.ensures.same ∙ h.same ∙ past.same;
      ends = if_ok c.finish.result (λ parsed ends w text f.
          let here = still_follows old mid w text none.0 none.1 none.2 f in
          let read = heard_all mid new w text bs c.in_ok-hear.field-0 x y (h.waits refl) c.in_default.not-Refused (h.heard w text here) in
          let came = finish_given mid new w bs text parsed x y z h.same read ends in
          subst (λ o. CameToEnd (ClosesAs (teller_in old)) (w ++ bs) text parsed o z) none.3 (subst (λ t. CameToEnd (ClosesAs t) (w ++ bs) text parsed x z) past.same came)) c.finish.ensures.ends;
      read = omega (arith, c.finish.ensures.read, h.within, past.read);
    }
