use Rattle.std.proofs.Common.{sym, subst}
use Rattle.kex_held_rows.specs.Books.{RowBook, rows_in, IsNoteRight, KeepsRows}
use Rattle.kex_held_rows.proofs.RowBooks.{book_learnt}
use Rattle.kex_held_rows.proofs.book.RowLedger.learn.Goals as goal

pub invariant_of-self : goal.invariant_of-self
invariant_of-self c =
    let i = c.self.inside in
    let b : RowBook = record { table = i.table.now; machine = i.machine.now; rows = i.rows.items } in
    let old = c.args.self.now in
    let class = c.args.class in
    let note = c.in_ok-note.note in
    let said = c.in_ok-note.ensures {u = tt} in
    (book_learnt old b c.args.number class note c.put_note.new.rows.items c.self.invariant (subst (KeepsRows old) (sym c.self.view_is) said.keeps) c.requires.number c.requires.class (λ r e. subst (λ (m : RowBook). IsNoteRight old.table old.machine.nodes (rows_in m.rows) r class note) (sym c.self.view_is) (said.right r e)) c.put_note.ensures).book

pub returns : goal.returns
returns c =
    let i = c.self.inside in
    let b : RowBook = record { table = i.table.now; machine = i.machine.now; rows = i.rows.items } in
    let old = c.args.self.now in
    let class = c.args.class in
    let note = c.in_ok-note.note in
    let said = c.in_ok-note.ensures {u = tt} in
    (book_learnt old b c.args.number class note c.put_note.new.rows.items c.self.invariant (subst (KeepsRows old) (sym c.self.view_is) said.keeps) c.requires.number c.requires.class (λ r e. subst (λ (m : RowBook). IsNoteRight old.table old.machine.nodes (rows_in m.rows) r class note) (sym c.self.view_is) (said.right r e)) c.put_note.ensures).keeps
