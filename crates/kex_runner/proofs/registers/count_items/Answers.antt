use Rattle.std.proofs.Common.{[], ◌∙◌, arith}
use Rattle.std.proofs.lemmas.List.{get_or_read}
use Rattle.kex_runner.proofs.Notes.{long_more}
use Rattle.kex_runner.proofs.registers.count_items.Goals as goal

pub loop-list-preserved : goal.loop-list-preserved
loop-list-preserved g c =
    let lists = c.regs-lists.result.now in
    let more = long_more lists c.loop-list.list-index c.as_slice-in-loop-list.result.now [] c.loop-list-test.true (c.as_slice-in-loop-list.ensures ∙ get_or_read lists c.loop-list.list-index c.list-item.result c.loop-list-test.true c.list-item.is []) in
    omega (arith, c.count_parts-in-loop-list.ensures, c.loop-list.invariant, more)
