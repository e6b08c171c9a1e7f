use Rattle.std.proofs.Common.{◌∷◌, inl, inr}
use Rattle.kex_regexp.specs.Grammar.{ZeroOrMore, OneOrMore, Optional, Once}
use Rattle.kex_regexp.specs.Machine.{Read}
use Rattle.kex_regexp.proofs.ShownSteps.{memory_exit, to, behind_is, behind_star, behind_plus, behind_quest, behind_brace, behind_other, count_begins_steps, begins_turns, star_bounds, plus_bounds, quest_bounds, once_shows, once_ends}
use Rattle.kex_regexp.proofs.Bounds.{some_once}
use Rattle.kex_regexp.proofs.Parents.{construct_on, construct_under, later, none_added, turned_held}
use Rattle.kex_regexp.proofs.steps.byte_after_item.Goals as goal

pub returns-then-byte-eq42-clause-step : goal.returns-then-byte-eq42-clause-step
returns-then-byte-eq42-clause-step c = λ base es i h a x b. to _ base _ _ _ _ (behind_is i es c.args.byte 42 _ c.if-byte-eq42.true (behind_star i es)) (begins_turns _ base _ es i ZeroOrMore _ c.args.item _ c.turns.ensures h a x star_bounds)

pub returns-then-byte-eq43-clause-step : goal.returns-then-byte-eq43-clause-step
returns-then-byte-eq43-clause-step c = λ base es i h a x b. to _ base _ _ _ _ (behind_is i es c.args.byte 43 _ c.if-byte-eq43.true (behind_plus i es)) (begins_turns _ base _ es i OneOrMore _ c.args.item _ c.turns-then-byte-eq43.ensures h a x plus_bounds)

pub returns-then-byte-eq63-clause-step : goal.returns-then-byte-eq63-clause-step
returns-then-byte-eq63-clause-step c = λ base es i h a x b. to _ base _ _ _ _ (behind_is i es c.args.byte 63 _ c.if-byte-eq63.true (behind_quest i es)) (begins_turns _ base _ es i Optional _ c.args.item _ c.turns-then-byte-eq63.ensures h a x quest_bounds)

pub returns-then-byte-eq123-clause-step : goal.returns-then-byte-eq123-clause-step
returns-then-byte-eq123-clause-step c = λ base es i h a x b. to _ base _ _ _ _ (behind_is i es c.args.byte 123 _ c.if-byte-eq123.true (behind_brace i es)) (count_begins_steps _ base _ es i c.args.item _ h a b x)

pub returns-in_ok-push-clause-step : goal.returns-in_ok-push-clause-step
returns-in_ok-push-clause-step c = λ base es i h a x b. to _ base _ _ _ _ (behind_other i es c.args.byte c.if-byte-eq42.false c.if-byte-eq43.false c.if-byte-eq63.false c.if-byte-eq123.false) (c.begin.ensures.step base (Read (Once i) ∷ es) (once_shows _ base _ _ es i c.args.item h a x c.in_ok-push.ensures.ok) (once_ends base _ _ es i a b))

pub returns-in_err-push-clause-step : goal.returns-in_err-push-clause-step
returns-in_err-push-clause-step c = λ base es i h a x b. memory_exit _ _ _ c.from_residual.result c.from_residual.ensures.1 _

pub begin-requires : goal.begin-requires
begin-requires c = some_once _ _ _ c.args.item _ c.in_ok-push.ensures.ok c.requires

pub returns-then-byte-eq42-clause-nodes : goal.returns-then-byte-eq42-clause-nodes
returns-then-byte-eq42-clause-nodes c = turned_held c.args.into.now c.args.constructs.now.items c.args.item _ _ c.turns.ensures

pub returns-then-byte-eq43-clause-nodes : goal.returns-then-byte-eq43-clause-nodes
returns-then-byte-eq43-clause-nodes c = turned_held c.args.into.now c.args.constructs.now.items c.args.item _ _ c.turns-then-byte-eq43.ensures

pub returns-then-byte-eq63-clause-nodes : goal.returns-then-byte-eq63-clause-nodes
returns-then-byte-eq63-clause-nodes c = turned_held c.args.into.now c.args.constructs.now.items c.args.item _ _ c.turns-then-byte-eq63.ensures

pub returns-then-byte-eq123-clause-nodes : goal.returns-then-byte-eq123-clause-nodes
returns-then-byte-eq123-clause-nodes c = none_added _ _ _ (λ n h. h)

pub returns-in_ok-push-clause-nodes : goal.returns-in_ok-push-clause-nodes
returns-in_ok-push-clause-nodes c =
    let on = c.in_ok-push.ensures.ok in
    later c.begin.result _ _ c.args.constructs.now.items _ _ (Rattle.kex_regexp.specs.declared.wait.Wait.TheVariants.After c.args.item) Rattle.kex_regexp.specs.declared.wait.Wait.TheVariants.Ready (λ n h. elim h [ inl f ↦ inl (construct_under _ _ _ on n f) | inr e ↦ inl (construct_on _ _ _ on n e) ]) c.begin.ensures.nodes
