use Rattle.std.proofs.Common.{◌≡◌, ◌∙◌, ◌++◌, ◌∷◌, [], All, Some, length, sym, ap, subst, arith}
use Rattle.std.specs.Prelude.{slice_get}
use Rattle.kex_byteset.specs.Classes.{class_count}
use Rattle.kex_held.specs.LearntEdges.{IsRowWithin}
use Rattle.kex_held_rows.specs.Books.{RowBook, rows_in, IsEntryRight, KeepsRows}
use Rattle.kex_held_rows.proofs.RowBooks.{unlearnt, book_pushed, row_pushed, keeps_pushed}
use Rattle.kex_held_rows.proofs.book.RowLedger.row_of.Goals as goal

pub invariant_of-self-2 : goal.invariant_of-self-2
invariant_of-self-2 c =
    let t = c.self.inside.table.now in
    let g = c.self.inside.machine.now in
    let xs = c.self.inside.rows.items in
    let row = c.args.row in
    let count = c.classes-classes.result in
    let new = c.push_row.new.rows.items in
    let pushed : new ≡ xs ++ unlearnt row count ∷ [] = (c.in_ok-push_row.ensures {u = tt}).ok in
    let within : IsRowWithin t g row = subst (λ (b : RowBook). IsRowWithin b.table b.machine row) (sym c.self.view_is) c.requires in
    let classes : count ≡ class_count t.classes = c.classes-classes.ensures.count ∙ ap class_count c.partition.ensures.same in
    subst (λ l. All (IsEntryRight t g (rows_in l)) l) (sym pushed) (book_pushed t g xs row count c.self.invariant within classes)

pub returns-clause-at : goal.returns-clause-at
returns-clause-at c =
    let xs = c.self.inside.rows.items in
    let row = c.args.row in
    let x = unlearnt row c.classes-classes.result in
    let new = c.push_row.new.rows.items in
    let pushed : new ≡ xs ++ x ∷ [] = (c.in_ok-push_row.ensures {u = tt}).ok in
    let number = c.in-Some-number_of.number in
    let is : number ≡ length xs = omega (arith, c.in-Some-number_of.ensures {u = tt}, c.len.ensures) in
    subst (λ n. slice_get (rows_in new) n ≡ Some row) (sym is) (subst (λ l. slice_get (rows_in l) (length xs) ≡ Some row) (sym pushed) (row_pushed xs x))

pub returns-clause-keeps : goal.returns-clause-keeps
returns-clause-keeps c =
    let xs = c.self.inside.rows.items in
    let b : RowBook = record { table = c.self.inside.table.now; machine = c.self.inside.machine.now; rows = xs } in
    let x = unlearnt c.args.row c.classes-classes.result in
    let new = c.push_row.new.rows.items in
    let pushed : new ≡ xs ++ x ∷ [] = (c.in_ok-push_row.ensures {u = tt}).ok in
    subst (λ old. KeepsRows old (record { table = b.table; machine = b.machine; rows = new })) c.self.view_is (subst (λ l. KeepsRows b (record { table = b.table; machine = b.machine; rows = l })) (sym pushed) (keeps_pushed b x))
