use Rattle.std.proofs.Common.{◌∙◌, sym, inl, inr}
use Rattle.kex_regexp.specs.Grammar.{Plain, Dot}
use Rattle.kex_regexp.proofs.Complete.{begin_byte, begin_92, begin_46, begin_91, begin_40, in_set}
use Rattle.kex_regexp.proofs.ShownSteps.{memory_exit, leaf_steps, plain_item, dot_item, to, begin_is, mark_steps, set_begins_steps, escape_begins_steps, begin_bar, begin_close, begin_none, wrong_steps}
use Rattle.kex_regexp.proofs.Parents.{construct_under, none_added}
use Rattle.kex_regexp.proofs.steps.begin.Goals as goal

pub returns-then-is_plain-clause-step : goal.returns-then-is_plain-clause-step
returns-then-is_plain-clause-step c = λ base es h a. to _ base _ _ _ _ (begin_byte es c.args.byte (sym c.is_plain.ensures ∙ c.if-is_plain.true)) (leaf_steps _ _ base _ es (Plain c.args.byte) _ _ _ c.leaf.ensures.adds h a c.leaf.ensures.ok c.leaf.ensures.err (λ n i. plain_item _ _ c.args.byte _ n c.single.ensures.bytes i))

pub returns-then-byte-eq92-clause-step : goal.returns-then-byte-eq92-clause-step
returns-then-byte-eq92-clause-step c = λ base es h a. to _ base _ _ _ _ (begin_is es c.args.byte 92 _ c.if-byte-eq92.true (begin_92 es)) (escape_begins_steps _ base _ es _ h a)

pub returns-then-byte-eq46-clause-step : goal.returns-then-byte-eq46-clause-step
returns-then-byte-eq46-clause-step c = λ base es h a. to _ base _ _ _ _ (begin_is es c.args.byte 46 _ c.if-byte-eq46.true (begin_46 es)) (leaf_steps _ _ base _ es Dot _ _ _ c.leaf-then-byte-eq46.ensures.adds h a c.leaf-then-byte-eq46.ensures.ok c.leaf-then-byte-eq46.ensures.err (λ n i. dot_item _ _ _ _ n c.empty.ensures c.complement.ensures i))

pub returns-then-byte-eq91-clause-step : goal.returns-then-byte-eq91-clause-step
unfolding in_set
returns-then-byte-eq91-clause-step c = λ base es h a. to _ base _ _ _ _ (begin_is es c.args.byte 91 _ c.if-byte-eq91.true (begin_91 es)) (set_begins_steps _ base _ es _ h a)

pub returns-in_ok-push-clause-step : goal.returns-in_ok-push-clause-step
returns-in_ok-push-clause-step c = λ base es h a. to _ base _ _ _ _ (begin_is es c.args.byte 40 _ c.if-byte-eq40.true (begin_40 es)) (mark_steps _ base _ _ es _ h a c.in_ok-push.ensures.ok)

pub returns-then-byte-eq124-clause-step : goal.returns-then-byte-eq124-clause-step
returns-then-byte-eq124-clause-step c = λ base es h a. to _ base _ _ _ _ (begin_is es c.args.byte 124 _ c.if-byte-eq124.true (begin_bar es)) (c.bar.ensures.step base es h a)

pub returns-then-byte-eq41-clause-step : goal.returns-then-byte-eq41-clause-step
returns-then-byte-eq41-clause-step c = λ base es h a. to _ base _ _ _ _ (begin_is es c.args.byte 41 _ c.if-byte-eq41.true (begin_close es)) (c.close.ensures.step base es h a)

pub returns-else-byte-eq41-clause-step : goal.returns-else-byte-eq41-clause-step
returns-else-byte-eq41-clause-step c = λ base es h a. to _ base _ _ _ _ (begin_none es c.args.byte (sym c.is_plain.ensures ∙ c.if-is_plain.false) c.if-byte-eq92.false c.if-byte-eq46.false c.if-byte-eq91.false c.if-byte-eq40.false c.if-byte-eq124.false c.if-byte-eq41.false) (wrong_steps _ base _)

pub returns-in_err-push-clause-step : goal.returns-in_err-push-clause-step
returns-in_err-push-clause-step c = λ base es h a. memory_exit _ _ _ c.from_residual.result c.from_residual.ensures.1 _

pub returns-then-is_plain-clause-nodes : goal.returns-then-is_plain-clause-nodes
returns-then-is_plain-clause-nodes c = c.leaf.ensures.nodes c.args.constructs.now.items

pub returns-then-byte-eq46-clause-nodes : goal.returns-then-byte-eq46-clause-nodes
returns-then-byte-eq46-clause-nodes c = c.leaf-then-byte-eq46.ensures.nodes c.args.constructs.now.items

pub returns-then-byte-eq92-clause-nodes : goal.returns-then-byte-eq92-clause-nodes
returns-then-byte-eq92-clause-nodes c = none_added _ _ _ (λ n h. h)

pub returns-then-byte-eq91-clause-nodes : goal.returns-then-byte-eq91-clause-nodes
returns-then-byte-eq91-clause-nodes c = none_added _ _ _ (λ n h. h)

pub returns-in_ok-push-clause-nodes : goal.returns-in_ok-push-clause-nodes
returns-in_ok-push-clause-nodes c = none_added _ _ _ (λ n h. elim h [ inl f ↦ inl (construct_under _ _ _ c.in_ok-push.ensures.ok n f) | inr g ↦ absurd g ])
