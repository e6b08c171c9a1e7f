use Rattle.std.proofs.Common.{◌≡◌, ◌++◌, true, IfOk, List, ℕ, sym, subst, ◌∙◌}
use Rattle.std.specs.Prelude.{IsTrue}
use Rattle.kex_pipe.specs.Working.{CameToEnd}
use Rattle.kex_stage.specs.Oracles.{IsOracleFor, learnt_of}
use Rattle.kex_stage.specs.Stages.{ClosesAs, TeamFollows, TeamState, teller_in}
use Rattle.kex_stage.specs.Works.{RefusesNone}
use Rattle.kex_stage.proofs.EndsPast.{comes_past}
use Rattle.kex_stage.proofs.NoRefusals.{not_refused}
use Rattle.kex_stage.proofs.team.Team.finish_past.Goals as goal
use Rattle.kex_stage.proofs.team.Team.finish_past.Goals.{in-Ok, in-Err-Refused, in-Err-Memory}

pub invariant_of-self : goal.invariant_of-self
invariant_of-self c =
    let m = c.self.inside.actor.machine in
    let same = sym c.finish_past.ensures.machine in
    let o = c.finish_past.new.self in
    (subst (λ z. learnt_of o z ≡ z) same (c.finish_past.ensures.learnt m ∙ c.self.invariant.0), subst (λ z. IsOracleFor c.self.inside.telling z o) same (c.finish_past.ensures.own c.self.inside.telling m c.self.invariant.1))

pub returns-clause-ends : goal.returns-clause-ends
returns-clause-ends c =
    let s = c.self.inside in
    let bs = c.args.bytes.now in
    let x = c.args.out.now.items in
    let y = c.finish_past.new.out.items in
    let state : TeamState = record { oracle = s.oracle; actor = s.actor; telling = s.telling } in
    let answered : IfOk c.match-finish_past.result (λ done. IsTrue done → (w text : List ℕ) → TeamFollows state w text → CameToEnd (ClosesAs (teller_in state)) (w ++ bs) text true x y) = elim c.match-finish_past.branch [
      | in-Ok w ↦ subst (λ r. IfOk r (λ done. IsTrue done → (u text : List ℕ) → TeamFollows state u text → CameToEnd (ClosesAs (teller_in state)) (u ++ bs) text true x y)) (sym w.result-is) (λ is u text follows. comes_past s.telling s.oracle s.actor u text bs x y follows (w.in-Ok.ensures.finishes is))
      | in-Err-Refused w ↦
          let none = subst (λ f. RefusesNone s.oracle s.actor f) w.in-Err-Refused.field-0-is w.in-Err-Refused.ensures.refuses in
          subst (λ r. IfOk r (λ done. IsTrue done → (u text : List ℕ) → TeamFollows state u text → CameToEnd (ClosesAs (teller_in state)) (u ++ bs) text true x y)) (sym w.result-is) (λ is u text follows. absurd (not_refused s.telling s.oracle s.actor none u text follows))
      | in-Err-Memory w ↦ subst (λ r. IfOk r (λ done. IsTrue done → (u text : List ℕ) → TeamFollows state u text → CameToEnd (ClosesAs (teller_in state)) (u ++ bs) text true x y)) (sym w.result-is) tt
    ] in
    subst (λ (z : TeamState). IfOk c.match-finish_past.result (λ done. IsTrue done → (w text : List ℕ) → TeamFollows z w text → CameToEnd (ClosesAs (teller_in z)) (w ++ bs) text true x y)) c.self.view_is answered
