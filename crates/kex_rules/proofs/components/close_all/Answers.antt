use Rattle.std.proofs.Common.{get_or, arith}
use Rattle.std.proofs.lemmas.Option.{slice_get-get_or}
use Rattle.kex_rules.proofs.LastComponent.{closes_none, closes_more, closes_whole}
use Rattle.kex_rules.proofs.components.close_all.Goals as goal

pub index_mut-requires : goal.index_mut-requires
index_mut-requires c = omega (arith, c.requires (get_or c.args.path.now c.loop-i.i 0) c.loop-i.i (slice_get-get_or c.args.path.now c.loop-i.i 0 c.loop-i-test.true), c.loop-i.invariant.long, c.loop-i.marks.ok.0)

pub loop-i-init : goal.loop-i-init
loop-i-init c = closes_none c.args.from c.args.closed c.args.path.now c.args.marks.now.items

pub loop-i-preserved : goal.loop-i-preserved
loop-i-preserved c =
    let v = get_or c.args.path.now c.loop-i.i 0 in
    let here = slice_get-get_or c.args.path.now c.loop-i.i 0 c.loop-i-test.true in
    closes_more c.args.from c.loop-i.i c.args.closed c.args.path.now c.args.marks.now.items c.loop-i.marks.items v c.loop-i.auto.i here (c.requires v c.loop-i.i here) c.loop-i.invariant

pub returns : goal.returns
returns c = closes_whole c.args.from c.loop-i.i c.args.closed c.args.path.now c.args.marks.now.items c.loop-i.marks.items c.loop-i-test.false c.loop-i.invariant
