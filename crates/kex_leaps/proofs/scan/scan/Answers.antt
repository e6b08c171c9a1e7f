use Rattle.std.proofs.Common.{◌≡◌, ◌∙◌, ◌<◌, Some, IfSome, length, take, sym, subst}
use Rattle.std.specs.Prelude.{slice_get}
use Rattle.kex_held_rows.specs.Books.{rows_in, bare_row}
use Rattle.kex_machine.specs.Nodes.{Graph}
use Rattle.kex_sst.specs.Tables.{Transducer}
use Rattle.kex_leaps.specs.Leaps.{acts_in, AreActsWithin, IsLeap}
use Rattle.kex_leaps.proofs.RowScans.{row_in, scan_leads, acts_rest}
use Rattle.kex_leaps.proofs.scan.scan.Goals as goal

pub scan_from-requires-clause-table : goal.scan_from-requires-clause-table
scan_from-requires-clause-table c = c.requires.table ∙ sym (c.in_ok-row.ensures {u = tt}).keeps.table

pub scan_from-requires-clause-first : goal.scan_from-requires-clause-first
scan_from-requires-clause-first c =
    let rows = rows_in c.bare_row_of.new.self.rows in
    let at = subst (λ o. IfSome o (λ i. slice_get rows i ≡ Some (bare_row c.args.from.state c.args.from.node))) c.in-Some.is (c.in_ok-row.ensures {u = tt}).at in
    (c.args.from.state, c.args.from.node, at)

pub row_at-to-requires : goal.row_at-to-requires
row_at-to-requires c =
    let old = c.bare_row_of.new.self in
    let new = c.scan_from.new.ledger in
    let at = subst (λ o. IfSome o (λ i. slice_get (rows_in old.rows) i ≡ Some (bare_row c.args.from.state c.args.from.node))) c.in-Some.is (c.in_ok-row.ensures {u = tt}).at in
    let s = ((c.in_ok-last.ensures {u = tt}).scanned c.args.from.state c.args.from.node at).1 in
    row_in new.rows c.in_ok-last.last.row s.to s.is

pub returns-clause-leap : goal.returns-clause-leap
returns-clause-leap c =
    let b = c.args.ledger.now in
    let old = c.bare_row_of.new.self in
    let new = c.scan_from.new.ledger in
    let piece = c.args.piece.now in
    let last = c.in_ok-last.last in
    let acts = take last.acts c.scan_from.new.trace.acts.items in
    let keeps = (c.in_ok-row.ensures {u = tt}).keeps in
    let at = subst (λ o. IfSome o (λ i. slice_get (rows_in old.rows) i ≡ Some (bare_row c.args.from.state c.args.from.node))) c.in-Some.is (c.in_ok-row.ensures {u = tt}).at in
    let found = c.in_ok-last.ensures {u = tt} in
    let s = found.scanned c.args.from.state c.args.from.node at in
    let st = scan_leads old.table old.machine.nodes (rows_in new.rows) c.args.from.state c.args.from.node piece last.at last.row s.0 acts c.row_at-to.result.now c.state.result c.node.result s.1 found.bare c.row_at-to.ensures.row c.state.ensures c.node.ensures in
    let same = subst (λ (g : Graph). IsLeap b.table g.nodes c.args.from.state c.args.from.node (take last.at piece) (acts_in piece acts) c.state.result c.node.result) keeps.machine (subst (λ (t : Transducer). IsLeap t old.machine.nodes c.args.from.state c.args.from.node (take last.at piece) (acts_in piece acts) c.state.result c.node.result) keeps.table st) in
    subst (λ l. IsLeap b.table b.machine.nodes c.args.from.state c.args.from.node (take last.at piece) (acts_in piece l) c.state.result c.node.result) (sym c.truncate.ensures.items) same

pub returns-clause-acts : goal.returns-clause-acts
returns-clause-acts c =
    let old = c.bare_row_of.new.self in
    let new = c.scan_from.new.ledger in
    let piece = c.args.piece.now in
    let last = c.in_ok-last.last in
    let at = subst (λ o. IfSome o (λ i. slice_get (rows_in old.rows) i ≡ Some (bare_row c.args.from.state c.args.from.node))) c.in-Some.is (c.in_ok-row.ensures {u = tt}).at in
    let found = c.in_ok-last.ensures {u = tt} in
    let s = found.scanned c.args.from.state c.args.from.node at in
    subst (λ l. AreActsWithin (length piece) l) (sym c.truncate.ensures.items) (acts_rest old.table old.machine.nodes (rows_in new.rows) c.args.from.state c.args.from.node piece last.at last.row s.0 (take last.acts c.scan_from.new.trace.acts.items) found.at s.1)

pub returns-clause-to : goal.returns-clause-to
returns-clause-to c =
    let b = c.args.ledger.now in
    let new = c.scan_from.new.ledger in
    let within = c.row_at-to.ensures.within in
    let t : new.table ≡ b.table = (c.in_ok-last.ensures {u = tt}).keeps.table ∙ (c.in_ok-row.ensures {u = tt}).keeps.table in
    let m : new.machine ≡ b.machine = (c.in_ok-last.ensures {u = tt}).keeps.machine ∙ (c.in_ok-row.ensures {u = tt}).keeps.machine in (
      subst (λ (t : Transducer). c.state.result < length t.states) t (subst (λ n. n < length new.table.states) (sym c.state.ensures) within.state),
      subst (λ (g : Graph). c.node.result < length g.nodes) m (subst (λ n. n < length new.machine.nodes) (sym c.node.ensures) within.node),
    )
