use Rattle.std.proofs.Common.{◌∷◌, [], take, get_or, sym, subst}
use Rattle.std.proofs.lemmas.List.{take_more}
use Rattle.kex_held.specs.declared.item.HeldItem.TheVariants.{Slice}
use Rattle.kex_held.specs.Slices.{ListGoesOn}
use Rattle.kex_held.proofs.ListJoins.{list_more}
use Rattle.kex_held.proofs.list.push_all.Goals as goal

pub loop-item-preserved : goal.loop-item-preserved
loop-item-preserved c =
    let nodes = c.args.machine.now.nodes in
    let old = c.args.items.now.items in
    let more = c.args.more.now in
    let i = c.loop-item.item-index in
    let new = c.push.new.items.items in
    subst (λ l. ListGoesOn nodes old l new) (sym (take_more more i (Slice 0 0) c.loop-item-test.true)) (list_more nodes old (take i more) c.loop-item.items.items (get_or more i (Slice 0 0) ∷ []) new c.loop-item.invariant (c.in_ok-push.ensures {u = tt}))
