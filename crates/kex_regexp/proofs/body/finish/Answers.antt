use Rattle.std.proofs.Common.{◌∷◌, false, inl, inr}
use Rattle.kex_regexp.specs.Grammar.{Once, Turns}
use Rattle.kex_regexp.specs.Machine.{Read}
use Rattle.kex_regexp.proofs.ShownSteps.{mode_ready, mode_after, mode_turned, mode_escape, mode_set, mode_count, ready_place, after_place, turned_place, once_shows, once_ends, eager_ends}
use Rattle.kex_regexp.proofs.Bodies.{ends_exit, ends_none, to_end, finish_ready, finish_after, finish_turned, finish_escape, finish_set, finish_count}
use Rattle.kex_regexp.proofs.Bounds.{some_ready, some_behind, some_once, some_piece, some_turned}
use Rattle.kex_regexp.proofs.Parents.{ended_as, ended_then, construct_on, construct_under}
use Rattle.kex_regexp.proofs.body.finish.Goals as goal

pub returns-in_err-push-in-After-clause-ends : goal.returns-in_err-push-in-After-clause-ends
returns-in_err-push-in-After-clause-ends c = λ base s st a. ends_exit _ base c.from_residual.result c.from_residual.ensures.1 _

pub returns-in-Ready-clause-ends : goal.returns-in-Ready-clause-ends
returns-in-Ready-clause-ends c = λ base s st a.
    let m = mode_ready _ _ _ (rw c.in-Ready.is at st.mode) in
    to_end _ base _ _ _ (finish_ready s m) (c.end.ensures.ends base s.entries st.below (ready_place s base _ m a))

pub returns-in_ok-push-in-After-clause-ends : goal.returns-in_ok-push-in-After-clause-ends
returns-in_ok-push-in-After-clause-ends c = λ base s st a.
    let m = mode_after _ _ c.in-After.item _ (rw c.in-After.is at st.mode) in
    to_end _ base _ _ _ (finish_after s m.tree m.is) (c.end-in-After.ensures.ends base (Read (Once m.tree) ∷ s.entries) (once_shows _ base _ _ s.entries m.tree c.in-After.item st.below m.place m.shows c.in_ok-push-in-After.ensures.ok) (once_ends base _ _ s.entries m.tree m.place (after_place s base _ _ m.tree m.is m.place a)))

pub returns-in-InEscape-clause-ends : goal.returns-in-InEscape-clause-ends
returns-in-InEscape-clause-ends c = λ base s st a.
    let m = mode_escape _ _ c.in-InEscape.escaping _ _ (rw c.in-InEscape.is at st.mode) in
    to_end _ base _ _ _ (finish_escape s _ m.0) (ends_none _ base)

pub returns-in-InSet-clause-ends : goal.returns-in-InSet-clause-ends
returns-in-InSet-clause-ends c = λ base s st a.
    let m = mode_set _ _ c.in-InSet.negated c.in-InSet.empty c.in-InSet.part _ _ (rw c.in-InSet.is at st.mode) in
    to_end _ base _ _ _ (finish_set s _ _ _ m.0.is) (ends_none _ base)

pub returns-in-InCount-clause-ends : goal.returns-in-InCount-clause-ends
returns-in-InCount-clause-ends c = λ base s st a.
    let m = mode_count _ _ c.in-InCount.item c.in-InCount.count c.in-InCount.brace _ (rw c.in-InCount.is at st.mode) in
    to_end _ base _ _ _ (finish_count s _ _ m.is) (ends_none _ base)

pub end-requires : goal.end-requires
end-requires c = some_ready _ _ _ _ c.in-Ready.is c.requires

pub end-requires-in-After : goal.end-requires-in-After
end-requires-in-After c = some_once _ _ _ c.in-After.item _ c.in_ok-push-in-After.ensures.ok (some_behind _ _ _ c.in-After.item _ c.in-After.is c.requires)

pub returns-in-Ready-clause-nodes : goal.returns-in-Ready-clause-nodes
returns-in-Ready-clause-nodes c = ended_as c.end.result _ _ _ _ _ c.in-Ready.is (λ n h. elim h [ inl f ↦ f | inr g ↦ absurd g ]) c.end.ensures.nodes

pub returns-in_ok-push-in-After-clause-nodes : goal.returns-in_ok-push-in-After-clause-nodes
returns-in_ok-push-in-After-clause-nodes c =
    let on = c.in_ok-push-in-After.ensures.ok in
    ended_as c.end-in-After.result _ _ c.args.constructs.now.items _ _ c.in-After.is (λ n h. elim h [ inl f ↦ construct_under _ _ _ on n f | inr e ↦ construct_on _ _ _ on n e ]) c.end-in-After.ensures.nodes

pub end_turns-requires : goal.end_turns-requires
end_turns-requires c = (c.args.at, some_turned _ _ _ c.in-Turned.turns _ c.in-Turned.is c.requires)

pub returns-in_err-end_turns-in-Turned-clause-ends : goal.returns-in_err-end_turns-in-Turned-clause-ends
returns-in_err-end_turns-in-Turned-clause-ends c = λ base s st a. ends_exit _ base c.from_residual-in_err-end_turns-in-Turned.result c.from_residual-in_err-end_turns-in-Turned.ensures.1 _

pub end-requires-in-Turned : goal.end-requires-in-Turned
end-requires-in-Turned c = some_piece _ _ c.args.constructs.now.items c.end_turns.new.constructs.items c.in-Turned.turns _ (some_turned _ _ _ c.in-Turned.turns _ c.in-Turned.is c.requires) c.in_ok-end_turns-in-Turned.ensures.shows

pub returns-in_ok-end_turns-in-Turned-clause-nodes : goal.returns-in_ok-end_turns-in-Turned-clause-nodes
returns-in_ok-end_turns-in-Turned-clause-nodes c = ended_then c.end-in-Turned.result _ _ _ _ _ _ _ c.in-Turned.is c.end-in-Turned.ensures.adds c.in_ok-end_turns-in-Turned.ensures.nodes c.end-in-Turned.ensures.nodes

pub returns-in_ok-end_turns-in-Turned-clause-ends : goal.returns-in_ok-end_turns-in-Turned-clause-ends
returns-in_ok-end_turns-in-Turned-clause-ends c = λ base s st a.
    let m = mode_turned _ _ c.in-Turned.turns _ (rw c.in-Turned.is at st.mode) in
    to_end _ base _ _ _ (finish_turned s m.tree m.postfix m.is) (c.end-in-Turned.ensures.ends base (Read (Turns m.tree m.postfix false) ∷ s.entries) (c.in_ok-end_turns-in-Turned.ensures.shows base s.entries m.tree m.postfix st.below m.place m.shows m.turns) (eager_ends base _ _ s.entries m.tree m.postfix m.place (turned_place s base _ _ m.tree m.postfix m.is m.place a)))
