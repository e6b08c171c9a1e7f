use Rattle.std.proofs.Common.{◌≡◌, ◌∙◌, List, sym, ap, subst, arith}
use Rattle.kex_held.specs.Tracks.{HeldList}
use Rattle.kex_held.specs.HeldRows.{HeldRow}
use Rattle.kex_held.specs.LearntEdges.{IsRowWithin}
use Rattle.kex_held_rows.specs.Books.{bare_row}
use Rattle.kex_held_rows.proofs.book.RowLedger.bare_row_of.Goals as goal

pub row_of-requires : goal.row_of-requires
row_of-requires c =
    let row : List HeldList → HeldRow = λ l. record { state = c.args.state; node = c.args.node; marks = 0; lists = l } in
    let first : c.new-row.result ≡ bare_row c.args.state c.args.node = c.new-row.ensures ∙ ap row c.new.ensures.items in
    let b = c.args.self.now in
    subst (λ r. IsRowWithin b.table b.machine r) (sym first) (record { state = c.requires.state; node = c.requires.node; marks = omega arith; within = tt })
