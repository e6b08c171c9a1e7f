use Rattle.std.proofs.Common.{[], ◌∙◌, arith}
use Rattle.std.proofs.lemmas.List.{get_or_read}
use Rattle.kex_script.proofs.Pages.{lists_next, grows_on}
use Rattle.kex_script.proofs.writer.Writer.put_all.Goals as goal

pub loop-list-preserved : goal.loop-list-preserved
loop-list-preserved c = record {
  at = lists_next c.loop-list.self c.put.new.self _ c.loop-list.list-index c.args.lists.now c.as_slice.result.now c.in_ok-put.ensures.grown c.loop-list.invariant.at c.loop-list.invariant.count c.in_ok-put.ensures.at (c.as_slice.ensures ∙ get_or_read c.args.lists.now c.loop-list.list-index c.list-item.result c.loop-list-test.true c.list-item.is []);
  count = omega (arith, c.in_ok-put.ensures.count, c.loop-list.invariant.count);
  sound = c.in_ok-put.ensures.sound;
  grown = grows_on c.loop-list.invariant.grown c.in_ok-put.ensures.grown;
}
