use Rattle.std.proofs.Common.{◌≡◌, ◌∙◌, ◌+◌, ◌++◌, ℕ, Some, IfSome, length, sym, ap₂, subst}
use Rattle.std.specs.Prelude.{slice_get}
use Rattle.kex_held.specs.Slices.{AreItemsWithin}
use Rattle.kex_held.specs.HeldRows.{HeldRow}
use Rattle.kex_held_rows.specs.Books.{rows_in, bare_row}
use Rattle.kex_held.specs.RowEnds.{IsRightEnd}
use Rattle.kex_leaps.specs.Leaps.{acts_in, AreActsWithin, leap_acts, IsLastLeap, HasScanned}
use Rattle.kex_leaps.proofs.RowScans.{row_in}
use Rattle.kex_leaps.proofs.TextEnds.{items_more, ends_in, text_ends, text_within, end_over, last_over}
use Rattle.kex_leaps.proofs.last.scan_to_end.Goals as goal

pub end_of-requires : goal.end_of-requires
end_of-requires c =
    let q = c.args.from.state in
    let n = c.args.from.node in
    let old = c.bare_row_of.new.self in
    let new = c.go_to_end.new.ledger in
    let trace = c.go_to_end.new.trace in
    let text = c.args.text.now in
    let at = subst (λ o. IfSome o (λ i. slice_get (rows_in old.rows) i ≡ Some (bare_row q n))) c.in-Some.is (c.in_ok-first.ensures {u = tt}).at in
    let found = subst (λ o. IfSome o (λ row. (q n : ℕ) → slice_get (rows_in old.rows) c.in-Some.first ≡ Some (bare_row q n) → HasScanned old.table old.machine.nodes (rows_in new.rows) q n text (length text) row trace.marks.items trace.acts.items)) c.in-Some-2.is (c.in_ok-row.ensures {u = tt}).scanned in
    let s = found q n at in
    record { number = row_in new.rows c.in-Some-2.row s.to s.is }

pub put_acts-requires-clause-within : goal.put_acts-requires-clause-within
put_acts-requires-clause-within c =
    let q = c.args.from.state in
    let n = c.args.from.node in
    let old = c.bare_row_of.new.self in
    let new = c.go_to_end.new.ledger in
    let trace = c.go_to_end.new.trace in
    let text = c.args.text.now in
    let at = subst (λ o. IfSome o (λ i. slice_get (rows_in old.rows) i ≡ Some (bare_row q n))) c.in-Some.is (c.in_ok-first.ensures {u = tt}).at in
    let found = subst (λ o. IfSome o (λ row. (q n : ℕ) → slice_get (rows_in old.rows) c.in-Some.first ≡ Some (bare_row q n) → HasScanned old.table old.machine.nodes (rows_in new.rows) q n text (length text) row trace.marks.items trace.acts.items)) c.in-Some-2.is (c.in_ok-row.ensures {u = tt}).scanned in
    let s = found q n at in
    let e = c.in-Some-3.end in
    let keeps = (c.in_ok-row.ensures {u = tt}).keeps in
    let there = subst (λ o. IfSome o (λ e. (r : HeldRow) → slice_get (rows_in new.rows) c.in-Some-2.row ≡ Some r → IsRightEnd new.table new.machine.nodes r e)) c.in-Some-3.is (c.in_ok-end.ensures {u = tt}).right s.to s.is in
    let right = end_over old.table new.table old.machine new.machine s.to e keeps.table keeps.machine there in
    let marks = trace.marks.items in
    let within = items_more (length marks) e.outs (ends_in old.table old.machine.nodes (rows_in new.rows) q n text (length text) c.in-Some-2.row marks trace.acts.items e s right) in
    subst (λ m. AreItemsWithin (length m + 2) c.outs.result.now) (sym c.deref.ensures.value) (subst (AreItemsWithin (length marks + 2)) (sym c.outs.ensures) within)

pub returns-clause-ends : goal.returns-clause-ends
returns-clause-ends c =
    let q = c.args.from.state in
    let n = c.args.from.node in
    let old = c.bare_row_of.new.self in
    let new = c.go_to_end.new.ledger in
    let trace = c.go_to_end.new.trace in
    let text = c.args.text.now in
    let at = subst (λ o. IfSome o (λ i. slice_get (rows_in old.rows) i ≡ Some (bare_row q n))) c.in-Some.is (c.in_ok-first.ensures {u = tt}).at in
    let found = subst (λ o. IfSome o (λ row. (q n : ℕ) → slice_get (rows_in old.rows) c.in-Some.first ≡ Some (bare_row q n) → HasScanned old.table old.machine.nodes (rows_in new.rows) q n text (length text) row trace.marks.items trace.acts.items)) c.in-Some-2.is (c.in_ok-row.ensures {u = tt}).scanned in
    let s = found q n at in
    let e = c.in-Some-3.end in
    let keeps = (c.in_ok-row.ensures {u = tt}).keeps in
    let there = subst (λ o. IfSome o (λ e. (r : HeldRow) → slice_get (rows_in new.rows) c.in-Some-2.row ≡ Some r → IsRightEnd new.table new.machine.nodes r e)) c.in-Some-3.is (c.in_ok-end.ensures {u = tt}).right s.to s.is in
    let right = end_over old.table new.table old.machine new.machine s.to e keeps.table keeps.machine there in
    let put = c.in_ok-put_acts.ensures {u = tt} ∙ ap₂ (λ m l. trace.acts.items ++ leap_acts (length text) m l) c.deref.ensures.value c.outs.ensures in
    let b = c.args.ledger.now in
    let first = (c.in_ok-first.ensures {u = tt}).keeps in
    let leap = text_ends old.table old.machine.nodes (rows_in new.rows) q n text c.in-Some-2.row trace.marks.items trace.acts.items e s right in
    let same = subst (λ m. IsLastLeap old.table old.machine.nodes q n text (acts_in text c.put_acts.new.acts.items) m) (sym c.node.ensures) (subst (λ l. IsLastLeap old.table old.machine.nodes q n text (acts_in text l) e.node) (sym put) leap) in
    last_over b.table old.table b.machine old.machine q n c.node.result text (acts_in text c.put_acts.new.acts.items) first.table first.machine same

pub returns-clause-acts : goal.returns-clause-acts
returns-clause-acts c =
    let q = c.args.from.state in
    let n = c.args.from.node in
    let old = c.bare_row_of.new.self in
    let new = c.go_to_end.new.ledger in
    let trace = c.go_to_end.new.trace in
    let text = c.args.text.now in
    let at = subst (λ o. IfSome o (λ i. slice_get (rows_in old.rows) i ≡ Some (bare_row q n))) c.in-Some.is (c.in_ok-first.ensures {u = tt}).at in
    let found = subst (λ o. IfSome o (λ row. (q n : ℕ) → slice_get (rows_in old.rows) c.in-Some.first ≡ Some (bare_row q n) → HasScanned old.table old.machine.nodes (rows_in new.rows) q n text (length text) row trace.marks.items trace.acts.items)) c.in-Some-2.is (c.in_ok-row.ensures {u = tt}).scanned in
    let s = found q n at in
    let e = c.in-Some-3.end in
    let keeps = (c.in_ok-row.ensures {u = tt}).keeps in
    let there = subst (λ o. IfSome o (λ e. (r : HeldRow) → slice_get (rows_in new.rows) c.in-Some-2.row ≡ Some r → IsRightEnd new.table new.machine.nodes r e)) c.in-Some-3.is (c.in_ok-end.ensures {u = tt}).right s.to s.is in
    let right = end_over old.table new.table old.machine new.machine s.to e keeps.table keeps.machine there in
    let put = c.in_ok-put_acts.ensures {u = tt} ∙ ap₂ (λ m l. trace.acts.items ++ leap_acts (length text) m l) c.deref.ensures.value c.outs.ensures in
    subst (λ l. AreActsWithin (length text) l) (sym put) (text_within old.table old.machine.nodes (rows_in new.rows) q n text c.in-Some-2.row trace.marks.items trace.acts.items e s right)
