use Rattle.std.proofs.Common.{Option, subst, sym}
use Rattle.kex_regexp.specs.declared.escapes.EscapeOutcome.{EscapeOutcome}
use Rattle.kex_regexp.specs.declared.sets.SetOutcome.{SetOutcome}
use Rattle.kex_regexp.specs.declared.counts.CountOutcome.{CountOutcome}
use Rattle.kex_regexp.specs.Machine.{State, escape_step, set_step, count_step}
use Rattle.kex_regexp.specs.Holding.{IsSetAfter, ShowsEscape, ShowsSet, ShowsCountStep}
use Rattle.kex_regexp.proofs.Refinement.{escape_refines, set_refines, count_refines}
use Rattle.kex_regexp.proofs.ShownSteps.{to, mode_ready, mode_after, mode_turned, mode_escape, mode_set, mode_count, ready_place, after_place, turned_place, step_ready, step_after, step_turned, step_escape, step_set, step_count}
use Rattle.kex_regexp.proofs.Bounds.{some_ready, some_behind, some_turned}
use Rattle.kex_regexp.proofs.Parents.{waiting}
use Rattle.kex_regexp.proofs.steps.step.Goals as goal

pub returns-in-Ready-clause-step : goal.returns-in-Ready-clause-step
returns-in-Ready-clause-step c = λ base s st i a.
    let m = mode_ready _ _ _ (rw c.in-Ready.is at st.mode) in
    to _ base _ _ _ _ (step_ready s _ m) (c.begin.ensures.step base s.entries st.below (ready_place s base _ m a))

pub returns-in-After-clause-step : goal.returns-in-After-clause-step
returns-in-After-clause-step c = λ base s st i a.
    let m = mode_after _ _ c.in-After.item _ (rw c.in-After.is at st.mode) in
    to _ base _ _ _ _ (step_after s _ m.tree m.is) (c.byte_after_item.ensures.step base s.entries m.tree st.below m.place m.shows (after_place s base _ _ m.tree m.is m.place a))

pub returns-in-Turned-clause-step : goal.returns-in-Turned-clause-step
returns-in-Turned-clause-step c = λ base s st i a.
    let m = mode_turned _ _ c.in-Turned.turns _ (rw c.in-Turned.is at st.mode) in
    to _ base _ _ _ _ (step_turned s _ m.tree m.postfix m.is) (c.byte_after_turns.ensures.step base s.entries m.tree m.postfix st.below m.place m.shows m.turns (turned_place s base _ _ m.tree m.postfix m.is m.place a))

pub returns-in-InEscape-clause-step : goal.returns-in-InEscape-clause-step
returns-in-InEscape-clause-step c = λ base s st i a.
    let m = mode_escape _ _ c.in-InEscape.escaping _ _ (rw c.in-InEscape.is at st.mode) in
    to _ base _ _ _ _ (step_escape s _ _ m.0) (c.on_escape.ensures.step base _ s.entries (escape_step c.in-InEscape.escaping c.args.byte) st.below m.1
    (subst (λ (x : EscapeOutcome). ShowsEscape x (escape_step c.in-InEscape.escaping c.args.byte)) (sym c.escape.ensures) (escape_refines c.in-InEscape.escaping c.args.byte)))

pub returns-in-InSet-clause-step : goal.returns-in-InSet-clause-step
returns-in-InSet-clause-step c = λ base s st i a.
    let m = mode_set _ _ c.in-InSet.negated c.in-InSet.empty c.in-InSet.part _ _ (rw c.in-InSet.is at st.mode) in
    to _ base _ _ _ _ (step_set s _ _ _ _ m.0.is) (c.on_set.ensures.step base _ s.entries (set_step c.in-InSet.negated m.0.members m.0.part c.args.byte) st.below m.1
    (subst (λ (x : SetOutcome). ShowsSet x (set_step c.in-InSet.negated m.0.members m.0.part c.args.byte)) (sym c.in_set.ensures) (set_refines c.in-InSet.negated c.in-InSet.empty c.in-InSet.part m.0.members m.0.part c.args.byte m.0.empty m.0.shows))
    (subst (λ (o : Option State). IsSetAfter c.args.set.now o) (step_set s _ _ _ _ m.0.is) i))

pub returns-in-InCount-clause-step : goal.returns-in-InCount-clause-step
returns-in-InCount-clause-step c = λ base s st i a.
    let m = mode_count _ _ c.in-InCount.item c.in-InCount.count c.in-InCount.brace _ (rw c.in-InCount.is at st.mode) in
    to _ base _ _ _ _ (step_count s _ _ _ m.is) (c.on_count.ensures.step _ _ base s.entries m.tree st.below m.place m.shows (count_step m.counting c.args.byte) m.opened
    (subst (λ (x : CountOutcome). ShowsCountStep x (count_step m.counting c.args.byte)) (sym c.in_count.ensures) (count_refines c.in-InCount.count m.counting c.args.byte m.count)))

pub begin-requires : goal.begin-requires
begin-requires c = some_ready _ _ _ _ c.in-Ready.is c.requires

pub byte_after_item-requires : goal.byte_after_item-requires
byte_after_item-requires c = some_behind _ _ _ c.in-After.item _ c.in-After.is c.requires

pub byte_after_turns-requires : goal.byte_after_turns-requires
byte_after_turns-requires c = some_turned _ _ _ c.in-Turned.turns _ c.in-Turned.is c.requires

pub returns-in-Ready-clause-nodes : goal.returns-in-Ready-clause-nodes
returns-in-Ready-clause-nodes c = waiting c.args.wait _ _ _ _ _ _ c.in-Ready.is c.begin.ensures.nodes

pub returns-in-After-clause-nodes : goal.returns-in-After-clause-nodes
returns-in-After-clause-nodes c = waiting c.args.wait _ _ _ _ _ _ c.in-After.is c.byte_after_item.ensures.nodes

pub returns-in-Turned-clause-nodes : goal.returns-in-Turned-clause-nodes
returns-in-Turned-clause-nodes c = waiting c.args.wait _ _ _ _ _ _ c.in-Turned.is c.byte_after_turns.ensures.nodes

pub returns-in-InEscape-clause-nodes : goal.returns-in-InEscape-clause-nodes
returns-in-InEscape-clause-nodes c = waiting c.args.wait _ _ _ _ _ _ c.in-InEscape.is (c.on_escape.ensures.nodes c.args.constructs.now.items)

pub returns-in-InSet-clause-nodes : goal.returns-in-InSet-clause-nodes
returns-in-InSet-clause-nodes c = waiting c.args.wait _ _ _ _ _ _ c.in-InSet.is (c.on_set.ensures.nodes c.args.constructs.now.items)

pub returns-in-InCount-clause-nodes : goal.returns-in-InCount-clause-nodes
returns-in-InCount-clause-nodes c = waiting c.args.wait _ _ _ _ _ _ c.in-InCount.is (c.on_count.ensures.nodes _ c.args.constructs.now.items)
