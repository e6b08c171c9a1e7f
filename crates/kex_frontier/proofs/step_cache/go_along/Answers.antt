use Rattle.std.proofs.Common.{◌≡◌, ◌≤◌, ◌<◌, ◌+◌, length, take, get_or, subst, sym, arith, Some, None}
use Rattle.std.specs.Prelude.{IfSome}
use Rattle.std.proofs.lemmas.List.{take_more}
use Rattle.std.proofs.lemmas.List.Elements.{All-get_or}
use Rattle.kex_byteset.specs.Classes.{class_at, class_count}
use Rattle.kex_frontier.specs.Caches.{AreWays}
use Rattle.kex_frontier.proofs.CachedWays.{some_value, ways_more}
use Rattle.kex_frontier.proofs.step_cache.go_along.Goals as goal

pub loop-taken-preserved : goal.loop-taken-preserved
loop-taken-preserved c =
    let classes = c.args.classes.now in
    let ways = c.args.ways.now in
    let piece = c.args.piece.now in
    let taken = c.loop-taken.taken in
    let at = c.loop-taken.at in
    let byte = get_or piece taken 0 in
    let next = c.in-Some.next in
    let way : get_or ways (at + c.class_of-class.result) None ≡ Some next = c.in-Some.is in
    let lt : at + c.class_of-class.result < length ways = omega (arith, c.class_of-class.ensures.below, c.loop-taken.invariant.at) in
    let same : get_or ways (at + class_at classes byte) None ≡ Some next = subst (λ i. get_or ways (at + i) None ≡ Some next) c.class_of-class.ensures.class way in
    record {
      taken = omega (arith, c.loop-taken-test.true);
      at = some_value (λ z. z + class_count classes ≤ length ways) (get_or ways (at + c.class_of-class.result) None) next way (All-get_or (λ w. IfSome w (λ z. z + class_count classes ≤ length ways)) ways (at + c.class_of-class.result) None lt c.requires.ways);
      along = subst (λ bs. AreWays classes ways c.args.from bs next) (sym (take_more piece taken 0 c.loop-taken-test.true)) (ways_more classes ways (take taken piece) c.args.from at byte next c.loop-taken.invariant.along ((c.type_inv.piece taken).fits) same);
    }
