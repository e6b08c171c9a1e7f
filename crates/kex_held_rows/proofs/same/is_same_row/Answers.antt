use Rattle.std.proofs.Common.{◌∙◌, sym}
use Rattle.kex_held_rows.proofs.RowBooks.{same_row}
use Rattle.kex_held_rows.proofs.same.is_same_row.Goals as goal

pub returns : goal.returns
returns c = λ yes. same_row c.args.left.now c.args.right.now (sym c.state.ensures ∙ c.if-state.false ∙ c.state-2.ensures) (sym c.node.ensures ∙ c.if-node.false ∙ c.node-else-state.ensures) (sym c.marks.ensures ∙ c.if-marks.false ∙ c.marks-2.ensures) (sym c.texts.ensures ∙ c.are_same_texts.ensures yes ∙ c.texts-2.ensures)
