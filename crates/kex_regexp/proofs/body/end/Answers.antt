use Rattle.std.proofs.Common.{◌∙◌, inl, inr, sym, arith}
use Rattle.std.proofs.lemmas.Bool.{eqb-true, eqb-false}
use Rattle.kex_regexp.specs.Machine.{take_regex}
use Rattle.kex_regexp.proofs.Bodies.{ends_whole, ends_open, ends_exit}
use Rattle.kex_regexp.proofs.Parents.{held_as, no_constructs}
use Rattle.kex_regexp.proofs.body.end.Goals as goal

pub returns-in_err-regex-clause-ends : goal.returns-in_err-regex-clause-ends
returns-in_err-regex-clause-ends c = λ base es h a. ends_exit _ base c.from_residual.result c.from_residual.ensures.1 _

pub returns-then-is_empty-clause-ends : goal.returns-then-is_empty-clause-ends
returns-then-is_empty-clause-ends c = λ base es h a. ends_whole _ base _ c.in_ok-regex.regex (take_regex es) (omega (arith, c.close_regex.new.constructs.ok.0, eqb-true _ _ (sym c.is_empty.ensures ∙ c.if-is_empty.true))) (c.in_ok-regex.ensures.regex base es h a)

pub returns-else-is_empty-clause-ends : goal.returns-else-is_empty-clause-ends
returns-else-is_empty-clause-ends c = λ base es h a. ends_open _ base _ c.in_ok-regex.regex (take_regex es) (λ e. eqb-false _ 0 (sym c.is_empty.ensures ∙ c.if-is_empty.false) (omega (arith, e, c.close_regex.new.constructs.ok.0))) (c.in_ok-regex.ensures.regex base es h a)

pub returns-then-is_empty-clause-nodes : goal.returns-then-is_empty-clause-nodes
returns-then-is_empty-clause-nodes c = held_as _ _ _ _ _ _ (λ n h. h) (λ n h. elim h [ inl e ↦ e | inr f ↦ absurd (no_constructs _ (omega (arith, c.close_regex.new.constructs.ok.0, eqb-true _ _ (sym c.is_empty.ensures ∙ c.if-is_empty.true))) n f) ]) c.in_ok-regex.ensures.nodes
