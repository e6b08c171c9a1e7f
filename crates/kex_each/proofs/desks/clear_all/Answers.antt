use Rattle.std.proofs.Common.{◌<◌, length, get_or, map, sym, ◌∙◌, arith}
use Rattle.kex_each.proofs.DeskLists.{cleared_more, map_at, map_long, map_set, same_desk}
use Rattle.kex_each.proofs.desks.clear_all.Goals as goal

pub loop-i-preserved : goal.loop-i-preserved
loop-i-preserved g c =
    let f = g.D.LineDesk.state in
    let i = c.loop-i.i in
    let now = c.loop-i.desks in
    let r = c.index-desks-i.result in
    let old = map f c.args.desks.now in
    let long = map_long f c.args.desks.now in
    let here_long = map_long f now in
    let lt : i < length old = (let t = c.loop-i-test.true in let a = c.loop-i.auto.desks in omega (arith, t, a, long)) in
    let here : i < length (map f now) = (let t = c.loop-i-test.true in let a = c.loop-i.auto.desks in omega (arith, t, a, here_long)) in
    let d = f (get_or now i r) in
    map_set f now i c.clear.new.self ∙ cleared_more i old (map f now) (f c.clear.new.self) d lt c.loop-i.invariant (sym (map_at f now i r) ∙ same_desk i (map f now) (f r) d here) c.clear.ensures
