use Rattle.kex_regexp.specs.Machine.{take_regex}
use Rattle.kex_regexp.proofs.ShownSteps.{memory_exit, unclosed_steps, close_steps}
use Rattle.std.proofs.Common.{inl, inr}
use Rattle.kex_regexp.proofs.Parents.{construct_taken, held_as}
use Rattle.kex_regexp.proofs.steps.close.Goals as goal

pub returns-in_err-regex-clause-step : goal.returns-in_err-regex-clause-step
returns-in_err-regex-clause-step c = λ base es h a. memory_exit _ _ _ c.from_residual.result c.from_residual.ensures.1 _

pub returns-in_default-clause-step : goal.returns-in_default-clause-step
returns-in_default-clause-step c = λ base es h a. unclosed_steps _ base _ _ c.in_ok-regex.regex (take_regex es) (c.in_ok-regex.ensures.regex base es h a) c.in_default.ensures.top

pub returns-clause-step : goal.returns-clause-step
returns-clause-step c = λ base es h a. close_steps _ base _ _ c.in_ok-regex.regex c.in-Some.from (take_regex es) (c.in_ok-regex.ensures.regex base es h a) c.in-Some.ensures.some

pub returns-clause-nodes : goal.returns-clause-nodes
returns-clause-nodes c = held_as _ _ _ _ _ _ (λ n h. elim h [ inl f ↦ f | inr g ↦ absurd g ]) (λ n h. elim h [ inl e ↦ inr e | inr f ↦ elim (construct_taken _ _ _ c.in-Some.ensures.some n f) [ inl g ↦ absurd g | inr g ↦ inl g ] ]) c.in_ok-regex.ensures.nodes
