use Rattle.std.proofs.Common.{[], get_or}
use Rattle.kex_paths.proofs.EdgeLabels.{label_at}
use Rattle.kex_paths.proofs.updates.hash_of.Goals as goal

pub hash_label-requires-in-loop-label : goal.hash_label-requires-in-loop-label
hash_label-requires-in-loop-label c =
    let i = c.loop-label.label-index in
    (get_or c.requires.1.0 i [], label_at c.args.edges.now.cells c.args.labels.now c.requires.1.0 i c.requires.1.1 c.loop-label-test.true)
