use Rattle.std.proofs.Common.{[], ◌∙◌}
use Rattle.std.proofs.lemmas.List.{get_or_read}
use Rattle.kex_script.proofs.Olds.{fresh_more}
use Rattle.kex_script.proofs.writer.is_fresh.Goals as goal

pub loop-list-preserved : goal.loop-list-preserved
loop-list-preserved c = fresh_more c.args.lists.now c.loop-list.list-index c.as_slice.result.now [] c.loop-list-test.true (c.as_slice.ensures ∙ get_or_read c.args.lists.now c.loop-list.list-index c.list-item.result c.loop-list-test.true c.list-item.is []) (c.reads_old.ensures c.if-reads_old.false) c.loop-list.invariant
