use Rattle.std.proofs.Common.{◌≡◌, ◌∙◌, ◌<◌, get_or, length, ap, subst, arith}
use Rattle.kex_byteset.specs.Classes.{class_at, class_count}
use Rattle.kex_sst.specs.Tables.{Transducer}
use Rattle.kex_held_rows.specs.Books.{rows_in, IsNoteRight}
use Rattle.kex_leaps.proofs.RowScans.{class_is, scan_stays}
use Rattle.kex_leaps.proofs.scan.stay.Goals as goal

pub note_at-requires-clause-class : goal.note_at-requires-clause-class
note_at-requires-clause-class c = subst (λ z. c.class_of-class.result < class_count z) (c.partition-partition.ensures.same ∙ ap (λ (t : Transducer). t.classes) c.requires.table) c.class_of-class.ensures.below

pub bytes-init : goal.bytes-init
bytes-init c = record { behind = omega arith; within = c.requires.from; stays = λ q n marks acts s. s }

pub bytes-preserved : goal.bytes-preserved
bytes-preserved c =
    let b = c.args.ledger.now in
    let piece = c.args.piece.now in
    let rows = rows_in b.rows in
    let i = c.bytes.at in
    let byte = get_or piece i 0 in
    let class = c.class_of-class.result in
    let long = subst (λ (t : Transducer). length t.classes ≡ 256) c.requires.table c.partition-partition.ensures.table.numbered.long in
    let is = class_is b.table.classes byte class long ((c.type_inv.piece i).fits) (c.class_of-class.ensures.class ∙ ap (λ z. class_at z byte) (c.partition-partition.ensures.same ∙ ap (λ (t : Transducer). t.classes) c.requires.table)) in
    record {
      behind = omega (arith, c.bytes.invariant.behind);
      within = omega (arith, c.bytes-test.true);
      stays = λ q n marks acts s0.
          let s = c.bytes.invariant.stays q n marks acts s0 in
          let stays = subst (IsNoteRight b.table b.machine.nodes rows s.to class) c.in-Stays.is (c.note_at.ensures s.to s.is) in
          scan_stays b.table b.machine.nodes rows q n piece i c.args.row class marks acts s c.bytes-test.true is stays;
    }

pub returns-in_default-clause-stays : goal.returns-in_default-clause-stays
returns-in_default-clause-stays c = c.bytes.invariant.stays

pub returns-clause-stays : goal.returns-clause-stays
returns-clause-stays c = c.bytes.invariant.stays
