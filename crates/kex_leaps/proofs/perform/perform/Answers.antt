use Rattle.std.proofs.Common.{◌∙◌, ◌<◌, sym, subst, ap, length, length-drop, arith}
use Rattle.kex_machine.specs.Nodes.{Graph}
use Rattle.kex_action.specs.Sheets.{state_with}
use Rattle.kex_held.specs.Acts.{after_act}
use Rattle.kex_leaps.specs.Leaps.{act_in}
use Rattle.kex_leaps.proofs.LeapEffects.{performed_all, part_within, does_rest}
use Rattle.kex_leaps.proofs.perform.perform.Goals as goal

pub perform_one-requires-clause-node : goal.perform_one-requires-clause-node
perform_one-requires-clause-node c = subst (λ m. c.args.node < length m.nodes) (sym c.acts.invariant.machine) c.requires.node

pub perform_one-requires-clause-some : goal.perform_one-requires-clause-some
perform_one-requires-clause-some c = omega (arith, c.requires.some, c.acts.invariant.room)

pub perform_one-requires-clause-within : goal.perform_one-requires-clause-within
perform_one-requires-clause-within c =
    let next = c.join-next.result in
    let rest = part_within (length c.args.piece.now) c.args.acts.now c.acts.at next.count c.requires.within in
    (does_rest c.args.acts.now c.acts.at next.count next.act c.join-next.ensures.does c.args.actor.now.machine.nodes c.args.piece.now rest).0

pub acts-preserved : goal.acts-preserved
acts-preserved c =
    let h = c.in_ok-perform_one.ensures {u = tt} in
    let nodes = c.args.actor.now.machine.nodes in
    let piece = c.args.piece.now in
    let acts = c.args.acts.now in
    let next = c.join-next.result in
    let s = state_with c.args.sheet.now c.args.out.now.items c.args.actor.now.holding in
    let z = state_with c.acts.sheet c.acts.out.items c.acts.actor.holding in
    let z' = state_with c.perform_one.new.sheet c.perform_one.new.out.items c.perform_one.new.actor.holding in
    let one = h.did ∙ ap (λ (g : Graph). after_act g.nodes (act_in piece next.act) z) c.acts.invariant.machine in
    record {
      did = performed_all nodes piece acts c.acts.at next.count next.act s z z' c.requires.within (does_rest acts c.acts.at next.count next.act c.join-next.ensures.does) c.acts.invariant.did one;
      at = omega (arith, c.join-next.ensures.within, length-drop c.acts.at acts, c.acts-test.true);
      sheet = h.sheet.0;
      room = h.sheet.1 ∙ c.acts.invariant.room;
      machine = h.same.0 ∙ c.acts.invariant.machine;
      refused = h.same.1 ∙ c.acts.invariant.refused;
      usable = h.usable;
    }
