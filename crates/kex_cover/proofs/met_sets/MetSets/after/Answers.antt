use Rattle.std.proofs.Common.{[], Some, get_or, length, refl, ap, ◌∙◌, arith}
use Rattle.std.specs.Prelude.{slice_get}
use Rattle.std.proofs.lemmas.Option.{slice_get-get_or}
use Rattle.kex_cover.specs.Searches.{met_sets}
use Rattle.kex_cover.proofs.NextPairs.{byte_at, number_on}
use Rattle.kex_cover.proofs.SetNumbers.{get_on, item_at, known_way, sets_way, ways_long}
use Rattle.kex_cover.proofs.met_sets.MetSets.after.Goals as goal

pub index-requires-2 : goal.index-requires-2
index-requires-2 c =
    let s = c.args.self.now in
    let here = item_at s.met.items c.args.at c.index.result.now (omega (arith, c.requires.at, c.requires.met.count)) c.index.ensures in
    let long = ways_long c.args.machine.now s c.args.at c.index.result.now c.requires.met c.requires.at here in
    omega (arith, long, c.requires.class)

pub returns-in-Some-clause-after : goal.returns-in-Some-clause-after
returns-in-Some-clause-after c =
    let s = c.args.self.now in
    let m = c.index.result.now in
    let here = item_at s.met.items c.args.at m (omega (arith, c.requires.at, c.requires.met.count)) c.index.ensures in
    let long = ways_long c.args.machine.now s c.args.at m c.requires.met c.requires.at here in
    let way = item_at m.ways.items c.args.class c.index-2.result.now (omega (arith, long, c.requires.class)) c.index-2.ensures in
    known_way c.args.machine.now s c.args.at c.args.class c.in-Some.next m c.requires.met here (way ∙ ap (λ z. Some z) c.in-Some.is)

pub learn-requires : goal.learn-requires
learn-requires c =
    let s = c.work_out.new.self in
    let h = c.in_ok-next.ensures.met in
    let lt = number_on (met_sets c.args.self.now) (met_sets s) c.args.at c.in_ok-next.ensures.grows c.requires.at in
    let here = item_at s.met.items c.args.at c.index_mut.result.now (omega (arith, lt, h.count)) c.index_mut.ensures.value in
    let long = ways_long c.args.machine.now s c.args.at c.index_mut.result.now h lt here in
    let same = ap (λ z. length z.items) c.work_out.ensures.bytes in
    omega (arith, long, same, c.requires.class)

pub returns-clause-met : goal.returns-clause-met
returns-clause-met c =
    let g = c.args.machine.now in
    let s = c.args.self.now in
    let t = c.work_out.new.self in
    let h = c.in_ok-next.ensures.met in
    let lt = number_on (met_sets s) (met_sets t) c.args.at c.in_ok-next.ensures.grows c.requires.at in
    let here = item_at t.met.items c.args.at c.index_mut.result.now (omega (arith, lt, h.count)) c.index_mut.ensures.value in
    let x = get_or (met_sets s) c.args.at [] in
    let is = slice_get-get_or (met_sets s) c.args.at [] c.requires.at in
    let b = get_or s.bytes.items c.args.class 0 in
    let byte = byte_at s.bytes.items c.args.class c.requires.class in
    sets_way g t _ h h.rooms refl c.args.at c.args.class c.in_ok-next.next b x c.index_mut.result.now c.learn.new.self refl here refl c.learn.ensures.end c.learn.ensures.ways
    (get_on (met_sets s) (met_sets t) c.args.at x c.in_ok-next.ensures.grows is)
    (ap (λ z. slice_get z.items c.args.class) c.work_out.ensures.bytes ∙ byte)
    (c.in_ok-next.ensures.after x b is byte)
