use Rattle.std.proofs.Common.{◌≡◌, ◌∙◌, Some, length, refl, sym, ap, subst}
use Rattle.std.specs.Prelude.{slice_get}
use Rattle.std.proofs.lemmas.Option.{slice_get_past, slice_get_read}
use Rattle.kex_held.specs.Slices.{ListGoesOn}
use Rattle.kex_held.specs.HeldRows.{items_if}
use Rattle.kex_held.proofs.ListJoins.{list_none}
use Rattle.kex_held.proofs.list.push_text.Goals as goal

pub returns-then-register-texts : goal.returns-then-register-texts
returns-then-register-texts c =
    let nodes = c.args.machine.now.nodes in
    let items = c.args.items.now.items in
    subst (λ o. ListGoesOn nodes items (items_if o) items) (sym (slice_get_past c.args.texts.now c.args.register c.if-register-texts.true)) (list_none nodes items)

pub returns : goal.returns
returns c =
    let nodes = c.args.machine.now.nodes in
    let items = c.args.items.now.items in
    let texts = c.args.texts.now in
    let text = c.index-texts-register.result in
    let here : slice_get texts c.args.register ≡ Some text = slice_get_read texts (length texts) c.args.register text refl c.if-register-texts.false c.index-texts-register.is in
    subst (λ l. ListGoesOn nodes items l c.push_all.new.items.items) (c.items.ensures ∙ ap items_if (sym here)) (c.in_ok-push_all.ensures {u = tt})
