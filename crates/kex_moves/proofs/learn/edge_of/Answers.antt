use Rattle.std.proofs.Common.{◌≡◌, ◌∙◌, true, [], length, Some, sym, subst}
use Rattle.std.specs.Prelude.{IfSome}
use Rattle.std.proofs.lemmas.Bool.{eqb-true}
use Rattle.kex_sst.specs.declared.table.Transition.{Transition}
use Rattle.kex_sst.specs.Tables.{transition_of}
use Rattle.kex_moves.specs.declared.edge.Edge.{Edge}
use Rattle.kex_moves.specs.Edges.{is_known}
use Rattle.kex_held.specs.Walks.{Learns}
use Rattle.kex_moves.specs.Known.{IsRight, IsLed}
use Rattle.kex_moves.proofs.PlacedTexts.{map_ok}
use Rattle.kex_moves.proofs.KnownEdges.{none_left, right_led}
use Rattle.kex_moves.proofs.learn.edge_of.Goals as goal

pub returns-clause-right : goal.returns-clause-right
returns-clause-right c =
    let t = c.args.table.now in
    let nodes = c.args.machine.now.nodes in
    let k = c.lead.new.edges in
    let p = c.args.pair in
    let l = c.in-Some-2.learnt in
    let by : Transition = record { target = c.in-Some.target; update = c.in-Some.update.now } in
    let led = λ (e : Edge). IsLed nodes k c.in-Some.target l.to l.actions.items e in
    let right = λ (e : Edge). is_known e.kind ≡ true → IsRight t nodes k p c.args.class e in
    let goes : transition_of t p.state c.args.class ≡ Some by = c.in-Some.ensures {u = tt} in
    let bare : by.update.regs ≡ [] = sym c.regs.ensures ∙ none_left c.regs.result.now (eqb-true (length c.regs.result.now) 0 (sym c.if-not-is_empty.ensures)) in
    let same : c.as_slice.result.now ≡ by.update.out = c.as_slice.ensures ∙ c.out.ensures in
    let learns : Learns nodes p.node c.as_slice.result.now l.to l.actions.items = subst (λ o. IfSome o (λ l. Learns nodes p.node c.as_slice.result.now l.to l.actions.items)) c.in-Some-2.is (c.in_ok-learnt.ensures {u = tt}).learns in
    map_ok led right c.lead.result (λ e q known. right_led t nodes k p c.args.class by c.as_slice.result.now l.to l.actions.items e goes bare same learns q known) c.lead.ensures.led
