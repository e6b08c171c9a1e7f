use Rattle.kex_regexp.specs.Grammar.{Empty}
use Rattle.kex_regexp.specs.Machine.{take_pieces}
use Rattle.kex_regexp.proofs.ShownSteps.{memory_exit, bar_steps}
use Rattle.std.proofs.Common.{inl, inr}
use Rattle.kex_regexp.proofs.Parents.{construct_on, construct_under, held_as}
use Rattle.kex_regexp.proofs.steps.bar.Goals as goal

pub returns-in_err-branch-clause-step : goal.returns-in_err-branch-clause-step
returns-in_err-branch-clause-step c = λ base es h a. memory_exit _ _ _ c.from_residual.result c.from_residual.ensures.1 _

pub returns-clause-step : goal.returns-clause-step
returns-clause-step c = λ base es h a. bar_steps _ base _ _ c.in_ok-branch.branch (take_pieces es Empty) (c.in_ok-branch.ensures.branch base es h a) c.in_ok-push.ensures.ok

pub returns-in_err-push-clause-step : goal.returns-in_err-push-clause-step
returns-in_err-push-clause-step c = λ base es h a. memory_exit _ _ _ c.from_residual-in_err-push.result c.from_residual-in_err-push.ensures.1 _

pub returns-clause-nodes : goal.returns-clause-nodes
returns-clause-nodes c =
    let on = c.in_ok-push.ensures.ok in
    held_as _ _ _ _ _ _ (λ n h. elim h [ inl f ↦ f | inr g ↦ absurd g ]) (λ n h. elim h [ inl e ↦ inl (construct_on _ _ _ on n e) | inr f ↦ inl (construct_under _ _ _ on n f) ]) c.in_ok-branch.ensures.nodes
