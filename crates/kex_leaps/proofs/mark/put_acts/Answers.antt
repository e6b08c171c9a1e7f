use Rattle.std.proofs.Common.{◌∙◌}
use Rattle.kex_held.specs.declared.item.HeldItem.TheVariants.{Slice}
use Rattle.kex_leaps.proofs.RowScans.{item_in, acts_more}
use Rattle.kex_leaps.proofs.mark.put_acts.Goals as goal

pub place-act-requires-clause-within : goal.place-act-requires-clause-within
place-act-requires-clause-within c = item_in _ c.args.items.now c.items.item-index (Slice 0 0) c.requires.within c.items-test.true

pub items-preserved : goal.items-preserved
items-preserved c = record { acts = c.in_ok-push.ensures {u = tt} ∙ acts_more c.args.at c.args.marks.now c.args.items.now c.items.item-index (Slice 0 0) c.args.acts.now.items c.items.acts.items c.place-act.result c.items-test.true c.items.invariant.acts c.place-act.ensures }
