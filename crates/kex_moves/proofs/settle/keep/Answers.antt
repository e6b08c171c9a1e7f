use Rattle.std.proofs.Common.{sym, subst, arith}
use Rattle.kex_action.specs.Actions.{after_action}
use Rattle.kex_moves.specs.Drafts.{IsTurn, KeepsActions}
use Rattle.kex_moves.proofs.KeptActions.{keeps_more, keeps_opened, keeps_written}
use Rattle.kex_moves.proofs.settle.keep.Goals as goal
use Rattle.kex_moves.proofs.settle.keep.Goals.{in-Opens-default, in-Writes-Some, in_default, in_default-2, in_default-3}

pub returns : goal.returns
returns c = λ b s z h.
    let nodes = c.args.machine.now.nodes in
    let old = c.args.kept.now.items in
    let new = c.push.new.self.items in
    let a = c.args.action in
    let z' = after_action nodes b a z in
    let pushed = (c.in_ok-push.ensures {u = tt}).items in
    let none = keeps_more nodes old new c.args.place a b s z pushed h in
    elim c.match-act_of.branch [
      | in-Opens-default w ↦ subst (λ p. KeepsActions nodes new p b s z') (sym w.new-is) (keeps_opened nodes old new c.args.place c.len-end.result a b s z pushed (omega (arith, c.len-end.ensures)) (subst (λ t. IsTurn t z z') w.in-Opens-default.is-0 (c.act_of.ensures b z)) h)
      | in-Writes-Some w ↦
          let more = subst (λ t. IsTurn t z z') w.in-Writes-Some.is-0 (c.act_of.ensures b z) in
          subst (λ p. KeepsActions nodes new p b s z') (sym w.new-is) (keeps_written nodes old new w.in-Writes-Some.at a more.0 b s z pushed more.1 (subst (λ p. KeepsActions nodes old p b s z) w.in-Writes-Some.is-1 h))
      | in_default w ↦ subst (λ p. KeepsActions nodes new p b s z') (sym w.new-is) none
      | in_default-2 w ↦ subst (λ p. KeepsActions nodes new p b s z') (sym w.new-is) none
      | in_default-3 w ↦ subst (λ p. KeepsActions nodes new p b s z') (sym w.new-is) none
    ]
