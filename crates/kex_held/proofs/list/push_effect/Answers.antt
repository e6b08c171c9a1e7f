use Rattle.std.proofs.Common.{◌∷◌, [], sym, subst}
use Rattle.kex_held.specs.declared.item.HeldItem.TheVariants.{Slice, Effect}
use Rattle.kex_held.specs.Slices.{ListGoesOn}
use Rattle.kex_held.specs.Sealed.{OpensAt}
use Rattle.kex_held.proofs.ListJoins.{list_dropped}
use Rattle.kex_held.proofs.list.push_effect.Goals as goal

pub returns-in-Some : goal.returns-in-Some
returns-in-Some c =
    let nodes = c.args.machine.now.nodes in
    let items = c.args.items.now.items in
    let z = Effect c.args.node in
    let at = c.in-Some.at in
    subst (λ l. ListGoesOn nodes items (z ∷ []) l) (sym c.truncate.ensures.items) (list_dropped nodes items at (Slice 0 0) z (subst (λ l. OpensAt nodes l at (Slice 0 0)) c.deref.ensures.value (c.in-Some.ensures {u = tt})) c.in-Drops.ensures)
