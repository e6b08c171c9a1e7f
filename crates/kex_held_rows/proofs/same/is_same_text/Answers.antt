use Rattle.std.proofs.Common.{◌∙◌, sym}
use Rattle.kex_held_rows.proofs.RowBooks.{same_list}
use Rattle.kex_held_rows.proofs.same.is_same_text.Goals as goal

pub returns : goal.returns
returns c = λ yes. same_list c.args.left.now c.args.right.now (sym c.from.ensures ∙ c.if-from.false ∙ c.from-2.ensures) (sym c.to.ensures ∙ c.if-to.false ∙ c.to-else-from.ensures) (sym c.items.ensures ∙ c.are_same_items.ensures yes ∙ c.items-2.ensures)
