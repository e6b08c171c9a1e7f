use Rattle.std.proofs.Common.{◌≡◌, false, IfOk, List, ℕ, subst, sym, ◌∙◌}
use Rattle.kex_pipe.specs.Working.{CameToEnd}
use Rattle.kex_stage.specs.Stages.{ClosesAs, TeamFollows, TeamState, teller_in}
use Rattle.kex_stage.specs.Works.{RefusesNone}
use Rattle.kex_stage.proofs.FedStages.{stage_ends}
use Rattle.kex_stage.proofs.NoRefusals.{Ends, ends_none}
use Rattle.kex_stage.specs.Oracles.{IsOracleFor, learnt_of}
use Rattle.kex_stage.proofs.team.Team.finish.Goals as goal
use Rattle.kex_stage.proofs.team.Team.finish.Goals.{in-Ok, in-Err-Refused, in-Err-Memory}

pub returns-clause-ends : goal.returns-clause-ends
returns-clause-ends c =
    let s = c.self.inside in
    let x = c.args.out.now.items in
    let y = c.finish.new.out.items in
    let answered : IfOk c.match-finish.result (λ parsed. Ends s.telling s.oracle s.actor x y parsed) = elim c.match-finish.branch [
      | in-Ok w ↦ subst (λ r. IfOk r (λ parsed. Ends s.telling s.oracle s.actor x y parsed)) (sym w.result-is) (λ u text follows. stage_ends s.telling s.oracle s.actor u text x y w.in-Ok.parsed follows w.in-Ok.ensures.finishes)
      | in-Err-Refused w ↦
          let none = subst (λ f. RefusesNone s.oracle s.actor f) w.in-Err-Refused.field-0-is w.in-Err-Refused.ensures.refuses in
          subst (λ r. IfOk r (λ parsed. Ends s.telling s.oracle s.actor x y parsed)) (sym w.result-is) (ends_none s.telling s.oracle s.actor x y false none)
      | in-Err-Memory w ↦ subst (λ r. IfOk r (λ parsed. Ends s.telling s.oracle s.actor x y parsed)) (sym w.result-is) tt
    ] in
    subst (λ (z : TeamState). IfOk c.match-finish.result (λ parsed. (w text : List ℕ) → TeamFollows z w text → CameToEnd (λ u e t. ClosesAs (teller_in z) u e t) w text parsed x y)) c.self.view_is answered

pub invariant_of-self : goal.invariant_of-self
invariant_of-self c =
    let m = c.self.inside.actor.machine in
    let same = sym c.finish.ensures.machine in
    let o = c.finish.new.self in
    (subst (λ z. learnt_of o z ≡ z) same (c.finish.ensures.learnt m ∙ c.self.invariant.0), subst (λ z. IsOracleFor c.self.inside.telling z o) same (c.finish.ensures.own c.self.inside.telling m c.self.invariant.1))
