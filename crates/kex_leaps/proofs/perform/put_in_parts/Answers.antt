use Rattle.std.proofs.Common.{◌∙◌, ◌<◌, ◌+◌, refl, sym, subst, ap, length, arith}
use Rattle.std.proofs.lemmas.List.{take_all}
use Rattle.kex_action.specs.Holdings.{with_bytes}
use Rattle.kex_action.specs.Sheets.{state_with}
use Rattle.kex_action.proofs.Sheets.{wrote}
use Rattle.kex_held.specs.Slices.{slice_between}
use Rattle.kex_leaps.proofs.LeapEffects.{wrote_none, wrote_more}
use Rattle.kex_leaps.proofs.perform.put_in_parts.Goals as goal

pub parts-init : goal.parts-init
parts-init c = record {
  did = wrote_none (state_with c.args.sheet.now c.args.out.now.items c.args.actor.now.holding);
  at = omega arith;
  some = omega (arith, c.requires.some, c.len-most.ensures);
  most = omega (arith, c.len-most.ensures, c.args.sheet.now.bytes.ok.0);
  sheet = c.requires.sheet;
  room = refl;
  machine = refl;
  refused = refl;
  usable = c.requires.usable;
}

pub make_place-requires-clause-node : goal.make_place-requires-clause-node
make_place-requires-clause-node c = subst (λ m. c.args.node < length m.nodes) (sym c.parts.invariant.machine) c.requires.node

pub make_place-requires-clause-room : goal.make_place-requires-clause-room
make_place-requires-clause-room c = omega (arith, c.min-count.ensures, c.parts.invariant.most, c.parts.invariant.room)

pub parts-preserved : goal.parts-preserved
parts-preserved c =
    let h = c.in_ok-make_place.ensures {u = tt} in
    let text = c.args.text.now in
    let at = c.parts.at in
    let n = c.min-count.result in
    let put = c.put_many.new.sheet in
    let s = state_with c.args.sheet.now c.args.out.now.items c.args.actor.now.holding in
    let z = state_with c.parts.sheet c.parts.out.items c.parts.actor.holding in
    let z' = state_with put c.make_place.new.out.items c.make_place.new.actor.holding in
    let one = wrote c.make_place.new.sheet put (slice_between text at (at + n)) c.make_place.new.out.items c.make_place.new.actor.holding h.sheet.0 c.put_many.ensures.written ∙ ap (with_bytes (slice_between text at (at + n))) h.did in
    record {
      did = wrote_more text at n s z z' c.parts.invariant.did one;
      at = omega (arith, c.min-count.ensures, c.parts-test.true);
      some = c.parts.invariant.some;
      most = c.parts.invariant.most;
      sheet = c.put_many.ensures.sheet;
      room = c.put_many.ensures.long ∙ h.sheet.1 ∙ c.parts.invariant.room;
      machine = h.same.0 ∙ c.parts.invariant.machine;
      refused = h.same.1 ∙ c.parts.invariant.refused;
      usable = h.usable;
    }

pub returns-clause-did : goal.returns-clause-did
returns-clause-did c =
    let s = state_with c.args.sheet.now c.args.out.now.items c.args.actor.now.holding in
    c.parts.invariant.did ∙ ap (λ l. with_bytes l s) (take_all c.parts.at c.args.text.now (omega (arith, c.parts-test.false)))
