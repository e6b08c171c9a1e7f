use Rattle.std.proofs.Common.{IfOk, List, ℕ, refl, sym, ap, subst, ◌∙◌}
use Rattle.kex_stage.specs.declared.team.Hearing.{Hearing}
use Rattle.kex_stage.specs.declared.team.Hearing.TheVariants.{Refused}
use Rattle.kex_stage.specs.Hearings.{HasHeard, LeavesWaiting}
use Rattle.kex_stage.specs.Oracles.{IsOracleFor, read_of}
use Rattle.kex_stage.specs.Stages.{TeamFollows, TeamState}
use Rattle.kex_stage.specs.Works.{RefusesNone}
use Rattle.kex_stage.proofs.NoRefusals.{not_refused}
use Rattle.kex_stage.proofs.WaitingBytes.{heard_by, hearing_of, left_by}
use Rattle.kex_stage.proofs.team.Team.hear.Goals as goal
use Rattle.kex_stage.proofs.team.Team.hear.Goals.{in-Ok-Whole, in-Ok-Refused, in-Ok-PutOff, in-Err-Refused, in-Err-Memory}

pub invariant_of-self : goal.invariant_of-self
invariant_of-self c =
    let m = c.self.inside.actor.machine in
    (c.go_along.ensures.learnt, subst (λ z. IsOracleFor c.self.inside.telling z c.go_along.new.self) (sym c.go_along.ensures.machine) (c.go_along.ensures.own c.self.inside.telling m c.self.invariant.1))

abbrev Heard : TeamState → TeamState → List ℕ → List ℕ → List ℕ → Hearing → Type 0
Heard old new piece x y h = (w text : List ℕ) → TeamFollows old w text → HasHeard old new w text piece h x y

pub returns-clause-heard : goal.returns-clause-heard
returns-clause-heard c =
    let s = c.self.inside in
    let piece = c.args.piece.now in
    let x = c.args.out.now.items in
    let y = c.go_along.new.out.items in
    let a = s.actor in
    let b = c.go_along.new.actor in
    let n = c.go_along.new.self in
    let old : TeamState = record { oracle = s.oracle; actor = a; telling = s.telling } in
    let new : TeamState = record { oracle = n; actor = b; telling = s.telling } in
    let answered : IfOk c.match-go_along.result (Heard old new piece x y) = elim c.match-go_along.branch [
      | in-Ok-Whole w ↦
          let k = w.in-Ok-Whole in
          let is = ap (λ by. hearing_of by (read_of n)) k.field-0-is in
          subst (λ r. IfOk r (Heard old new piece x y)) (sym w.result-is) (λ u text f. subst (λ h. HasHeard old new u text piece h x y) is (heard_by old new k.field-0 u text piece x y refl f k.ensures.machine k.ensures.works k.ensures.ahead k.ensures.read))
      | in-Ok-Refused w ↦
          let k = w.in-Ok-Refused in
          let is = ap (λ by. hearing_of by (read_of n)) k.field-0-is ∙ ap (λ at. Refused at) (sym w.read.ensures) in
          subst (λ r. IfOk r (Heard old new piece x y)) (sym w.result-is) (λ u text f. subst (λ h. HasHeard old new u text piece h x y) is (heard_by old new k.field-0 u text piece x y refl f k.ensures.machine k.ensures.works k.ensures.ahead k.ensures.read))
      | in-Ok-PutOff w ↦
          let k = w.in-Ok-PutOff in
          let is = ap (λ by. hearing_of by (read_of n)) k.field-0-is in
          subst (λ r. IfOk r (Heard old new piece x y)) (sym w.result-is) (λ u text f. subst (λ h. HasHeard old new u text piece h x y) is (heard_by old new k.field-0 u text piece x y refl f k.ensures.machine k.ensures.works k.ensures.ahead k.ensures.read))
      | in-Err-Refused w ↦
          let none = subst (λ f. RefusesNone s.oracle s.actor f) w.in-Err-Refused.field-0-is w.in-Err-Refused.ensures.refuses in
          subst (λ r. IfOk r (Heard old new piece x y)) (sym w.result-is) (λ u text f. absurd (not_refused s.telling s.oracle s.actor none u text f))
      | in-Err-Memory w ↦ subst (λ r. IfOk r (Heard old new piece x y)) (sym w.result-is) tt
    ] in
    subst (λ (z : TeamState). IfOk c.match-go_along.result (λ h. (w text : List ℕ) → TeamFollows z w text → HasHeard z new w text piece h x y)) c.self.view_is answered

pub returns-clause-left : goal.returns-clause-left
returns-clause-left c =
    let s = c.self.inside in
    let piece = c.args.piece.now in
    let old : TeamState = record { oracle = s.oracle; actor = s.actor; telling = s.telling } in
    let new : TeamState = record { oracle = c.go_along.new.self; actor = c.go_along.new.actor; telling = s.telling } in
    let left : IfOk c.match-go_along.result (LeavesWaiting old new piece) = elim c.match-go_along.branch [
      | in-Ok-Whole w ↦ subst (λ r. IfOk r (LeavesWaiting old new piece)) (sym w.result-is) tt
      | in-Ok-Refused w ↦ subst (λ r. IfOk r (LeavesWaiting old new piece)) (sym w.result-is) tt
      | in-Ok-PutOff w ↦
          let k = w.in-Ok-PutOff in
          let is = ap (λ by. hearing_of by (read_of new.oracle)) k.field-0-is in
          subst (λ r. IfOk r (LeavesWaiting old new piece)) (sym w.result-is) (subst (λ h. LeavesWaiting old new piece h) is (left_by old new k.field-0 piece k.ensures.ahead k.ensures.read))
      | in-Err-Refused w ↦ subst (λ r. IfOk r (LeavesWaiting old new piece)) (sym w.result-is) tt
      | in-Err-Memory w ↦ subst (λ r. IfOk r (LeavesWaiting old new piece)) (sym w.result-is) tt
    ] in
    subst (λ (z : TeamState). IfOk c.match-go_along.result (LeavesWaiting z new piece)) c.self.view_is left
