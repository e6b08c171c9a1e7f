use Rattle.std.proofs.Common.{◌≡◌, ◌∙◌, ◌<◌, ◌+◌, ◌-◌, [], ◌∷◌, ◌++◌, ℕ, Some, get_or, length, ap, sym, subst, arith}
use Rattle.std.specs.Prelude.{IsTrue, slice_get}
use Rattle.std.proofs.lemmas.List.{length-take-le}
use Rattle.kex_byteset.specs.Classes.{class_at, class_count}
use Rattle.kex_sst.specs.Tables.{Transducer}
use Rattle.kex_held_rows.specs.Books.{rows_in, IsNoteRight}
use Rattle.kex_leaps.specs.declared.act.LeapAct.TheVariants.{Text}
use Rattle.kex_leaps.specs.Leaps.{HasScanned}
use Rattle.kex_leaps.specs.Leaps.{leap_acts}
use Rattle.kex_leaps.proofs.RowScans.{class_is, row_in, outs_in, keep_in, goes_at, bare_at, more_acts, scan_stays, scan_hands, one_mark, scan_marks}
use Rattle.kex_leaps.proofs.scan.scan_on.Goals as goal

pub note_at-requires-clause-number : goal.note_at-requires-clause-number
note_at-requires-clause-number c =
    let r = c.requires.scanned in
    let s = c.bytes.invariant.scanned r.0 r.1 r.2 in
    row_in c.args.ledger.now.rows c.bytes.row s.to s.is

pub note_at-requires-clause-class : goal.note_at-requires-clause-class
note_at-requires-clause-class c = subst (λ z. c.class_of-class.result < class_count z) (c.partition-partition.ensures.same ∙ ap (λ (t : Transducer). t.classes) c.requires.table) c.class_of-class.ensures.below

pub take-requires-clause-outs : goal.take-requires-clause-outs
take-requires-clause-outs c =
    let b = c.args.ledger.now in
    let r = c.requires.scanned in
    let s = c.bytes.invariant.scanned r.0 r.1 r.2 in
    let right = subst (IsNoteRight b.table b.machine.nodes (rows_in b.rows) s.to c.class_of-class.result) c.in-Goes.is (c.note_at.ensures s.to s.is) in
    outs_in b.table b.machine.nodes (rows_in b.rows) r.0 r.1 c.args.piece.now c.bytes.at c.bytes.row c.class_of-class.result c.bytes.trace.marks.items c.bytes.trace.acts.items c.in-Goes.edge s right

pub take-requires-clause-kept : goal.take-requires-clause-kept
take-requires-clause-kept c =
    let b = c.args.ledger.now in
    let r = c.requires.scanned in
    let s = c.bytes.invariant.scanned r.0 r.1 r.2 in
    let right = subst (IsNoteRight b.table b.machine.nodes (rows_in b.rows) s.to c.class_of-class.result) c.in-Goes.is (c.note_at.ensures s.to s.is) in
    keep_in b.table b.machine.nodes (rows_in b.rows) r.0 r.1 c.args.piece.now c.bytes.at c.bytes.row c.class_of-class.result c.bytes.trace.marks.items c.bytes.trace.acts.items c.in-Goes.edge s right

pub bytes-preserved-in-Stays : goal.bytes-preserved-in-Stays
bytes-preserved-in-Stays c =
    let b = c.args.ledger.now in
    let piece = c.args.piece.now in
    let rows = rows_in b.rows in
    let i = c.bytes.at in
    let byte = get_or piece i 0 in
    let class = c.class_of-class.result in
    let long = subst (λ (t : Transducer). length t.classes ≡ 256) c.requires.table c.partition-partition.ensures.table.numbered.long in
    let is = class_is b.table.classes byte class long ((c.type_inv.piece i).fits) (c.class_of-class.ensures.class ∙ ap (λ z. class_at z byte) (c.partition-partition.ensures.same ∙ ap (λ (t : Transducer). t.classes) c.requires.table)) in
    let marks = c.bytes.trace.marks.items in
    let acts = c.bytes.trace.acts.items in
    record {
      at = c.stay-at.ensures.within;
      acts = c.bytes.invariant.acts;
      scanned = λ q n s0.
          let s = c.bytes.invariant.scanned q n s0 in
          let stays = subst (IsNoteRight b.table b.machine.nodes rows s.to class) c.in-Stays.is (c.note_at.ensures s.to s.is) in
          c.stay-at.ensures.stays q n marks acts (scan_stays b.table b.machine.nodes rows q n piece i c.bytes.row class marks acts s c.bytes-test.true is stays);
    }

pub hand_on-end-requires-clause-row : goal.hand_on-end-requires-clause-row
hand_on-end-requires-clause-row c =
    let r = c.requires.scanned in
    let s = c.bytes.invariant.scanned r.0 r.1 r.2 in
    row_in c.args.ledger.now.rows c.bytes.row s.to s.is

pub hand_on-requires : goal.hand_on-requires
hand_on-requires c =
    let b = c.args.ledger.now in
    let r = c.requires.scanned in
    let s = c.bytes.invariant.scanned r.0 r.1 r.2 in
    let hands = subst (IsNoteRight b.table b.machine.nodes (rows_in b.rows) s.to c.class_of-class.result) c.in-HandsOn.is (c.note_at.ensures s.to s.is) in
    s.fits.count ∙ hands.0

pub bytes-preserved-in-HandsOn : goal.bytes-preserved-in-HandsOn
bytes-preserved-in-HandsOn c =
    let b = c.args.ledger.now in
    let piece = c.args.piece.now in
    let rows = rows_in b.rows in
    let i = c.bytes.at in
    let byte = get_or piece i 0 in
    let class = c.class_of-class.result in
    let long = subst (λ (t : Transducer). length t.classes ≡ 256) c.requires.table c.partition-partition.ensures.table.numbered.long in
    let is = class_is b.table.classes byte class long ((c.type_inv.piece i).fits) (c.class_of-class.ensures.class ∙ ap (λ z. class_at z byte) (c.partition-partition.ensures.same ∙ ap (λ (t : Transducer). t.classes) c.requires.table)) in
    let end = c.hand_on-end.result in
    let marks = c.bytes.trace.marks.items in
    let acts = c.bytes.trace.acts.items in
    let m = get_or marks 0 0 in
    let r0 = c.requires.scanned in
    let t0 = c.bytes.invariant.scanned r0.0 r0.1 r0.2 in
    let hands0 = subst (IsNoteRight b.table b.machine.nodes rows t0.to class) c.in-HandsOn.is (c.note_at.ensures t0.to t0.is) in
    let one : marks ≡ m ∷ [] = one_mark marks 0 (t0.fits.count ∙ hands0.0) in
    let did = c.in_ok-hand_on-in-HandsOn.ensures {u = tt} m one in
    record {
      at = c.hand_on-end.ensures.within;
      acts = more_acts c.args.trace.now.acts.items acts (Text m (end - 1) ∷ []) c.hand_on.new.self.acts.items c.bytes.invariant.acts did.0;
      scanned = λ q n s0.
          let s = c.bytes.invariant.scanned q n s0 in
          let hands = subst (IsNoteRight b.table b.machine.nodes rows s.to class) c.in-HandsOn.is (c.note_at.ensures s.to s.is) in
          let below : m < i + 1 = omega (arith, s.fits.rising.within 0 (omega (arith, s.fits.count, hands.0)), length-take-le i piece (omega (arith, c.bytes-test.true))) in
          let first = scan_hands b.table b.machine.nodes rows q n piece i c.bytes.row class m marks acts s c.bytes-test.true is hands one in
          let on = c.hand_on-end.ensures.hands q n acts m below (subst (λ k. HasScanned b.table b.machine.nodes rows q n piece (i + 1) c.bytes.row (k ∷ []) (acts ++ Text m k ∷ [])) (omega arith) first) in
          subst (λ l. HasScanned b.table b.machine.nodes rows q n piece end c.bytes.row l c.hand_on.new.self.acts.items) (sym did.1) (subst (λ l. HasScanned b.table b.machine.nodes rows q n piece end c.bytes.row ((end - 1) ∷ []) l) (sym did.0) on);
    }

pub bytes-preserved-in-Marks : goal.bytes-preserved-in-Marks
bytes-preserved-in-Marks c =
    let b = c.args.ledger.now in
    let piece = c.args.piece.now in
    let rows = rows_in b.rows in
    let i = c.bytes.at in
    let byte = get_or piece i 0 in
    let class = c.class_of-class.result in
    let long = subst (λ (t : Transducer). length t.classes ≡ 256) c.requires.table c.partition-partition.ensures.table.numbered.long in
    let is = class_is b.table.classes byte class long ((c.type_inv.piece i).fits) (c.class_of-class.ensures.class ∙ ap (λ z. class_at z byte) (c.partition-partition.ensures.same ∙ ap (λ (t : Transducer). t.classes) c.requires.table)) in
    let marked = c.in_ok-mark-in-Marks.ensures {u = tt} in
    let marks = c.bytes.trace.marks.items in
    let acts = c.bytes.trace.acts.items in
    record {
      at = omega (arith, c.bytes-test.true);
      acts = (c.bytes.invariant.acts.0, marked.acts ∙ c.bytes.invariant.acts.1);
      scanned = λ q n s0.
          let s = c.bytes.invariant.scanned q n s0 in
          let right = subst (IsNoteRight b.table b.machine.nodes rows s.to class) c.in-Marks.is (c.note_at.ensures s.to s.is) in
          scan_marks b.table b.machine.nodes rows q n piece i c.bytes.row class c.in-Marks.to marks c.mark.new.self.marks.items acts c.mark.new.self.acts.items s c.bytes-test.true is right marked.marks marked.acts;
    }

pub stay-at-requires-clause-row : goal.stay-at-requires-clause-row
stay-at-requires-clause-row c =
    let r = c.requires.scanned in
    let s = c.bytes.invariant.scanned r.0 r.1 r.2 in
    row_in c.args.ledger.now.rows c.bytes.row s.to s.is

pub returns-then-is_bare-clause-scanned : goal.returns-then-is_bare-clause-scanned
returns-then-is_bare-clause-scanned c =
    let b = c.args.ledger.now in
    let piece = c.args.piece.now in
    let rows = rows_in b.rows in
    let e = c.in-Goes.edge in
    let i = c.bytes.at in
    let byte = get_or piece i 0 in
    let class = c.class_of-class.result in
    let long = subst (λ (t : Transducer). length t.classes ≡ 256) c.requires.table c.partition-partition.ensures.table.numbered.long in
    let is = class_is b.table.classes byte class long ((c.type_inv.piece i).fits) (c.class_of-class.ensures.class ∙ ap (λ z. class_at z byte) (c.partition-partition.ensures.same ∙ ap (λ (t : Transducer). t.classes) c.requires.table)) in
    let took = c.in_ok-take-in-Goes.ensures {u = tt} in
    let marks = c.bytes.trace.marks.items in
    let acts = c.bytes.trace.acts.items in
    let marks' = c.take.new.self.marks.items in
    let acts' = c.take.new.self.acts.items in
    let gone : (q n : ℕ) → HasScanned b.table b.machine.nodes rows q n piece c.args.from.at c.args.from.row c.args.trace.now.marks.items c.args.trace.now.acts.items → HasScanned b.table b.machine.nodes rows q n piece (i + 1) e.to marks' acts' = λ q n s0.
    let s = c.bytes.invariant.scanned q n s0 in
    let right = subst (IsNoteRight b.table b.machine.nodes rows s.to class) c.in-Goes.is (c.note_at.ensures s.to s.is) in
    goes_at b.table b.machine.nodes rows q n piece i c.bytes.row class marks marks' acts acts' e s c.bytes-test.true is right took.marks took.acts in
    λ q n s0. subst (λ row. HasScanned b.table b.machine.nodes rows q n piece (i + 1) row marks' acts') (sym c.to-row.ensures) (gone q n s0)

pub returns-then-is_bare-clause-bare : goal.returns-then-is_bare-clause-bare
returns-then-is_bare-clause-bare c = λ yes r here.
    let b = c.args.ledger.now in
    let rows = rows_in b.rows in
    let class = c.class_of-class.result in
    let q = c.requires.scanned in
    let s = c.bytes.invariant.scanned q.0 q.1 q.2 in
    let right = subst (IsNoteRight b.table b.machine.nodes rows s.to class) c.in-Goes.is (c.note_at.ensures s.to s.is) in
    let bare = right.3 (subst IsTrue c.is_bare.ensures c.if-is_bare.true) in
    bare_at rows c.in-Goes.edge.to right.0 r right.1 (subst (λ n. slice_get rows n ≡ Some r) c.to-row.ensures here) bare

pub bytes-preserved : goal.bytes-preserved
bytes-preserved c =
    let b = c.args.ledger.now in
    let piece = c.args.piece.now in
    let rows = rows_in b.rows in
    let e = c.in-Goes.edge in
    let i = c.bytes.at in
    let byte = get_or piece i 0 in
    let class = c.class_of-class.result in
    let long = subst (λ (t : Transducer). length t.classes ≡ 256) c.requires.table c.partition-partition.ensures.table.numbered.long in
    let is = class_is b.table.classes byte class long ((c.type_inv.piece i).fits) (c.class_of-class.ensures.class ∙ ap (λ z. class_at z byte) (c.partition-partition.ensures.same ∙ ap (λ (t : Transducer). t.classes) c.requires.table)) in
    let took = c.in_ok-take-in-Goes.ensures {u = tt} in
    let marks = c.bytes.trace.marks.items in
    let acts = c.bytes.trace.acts.items in
    let marks' = c.take.new.self.marks.items in
    let acts' = c.take.new.self.acts.items in
    let gone : (q n : ℕ) → HasScanned b.table b.machine.nodes rows q n piece c.args.from.at c.args.from.row c.args.trace.now.marks.items c.args.trace.now.acts.items → HasScanned b.table b.machine.nodes rows q n piece (i + 1) e.to marks' acts' = λ q n s0.
    let s = c.bytes.invariant.scanned q n s0 in
    let right = subst (IsNoteRight b.table b.machine.nodes rows s.to class) c.in-Goes.is (c.note_at.ensures s.to s.is) in
    goes_at b.table b.machine.nodes rows q n piece i c.bytes.row class marks marks' acts acts' e s c.bytes-test.true is right took.marks took.acts in
    record {
      at = omega (arith, c.bytes-test.true);
      acts = more_acts (c.args.trace.now.acts.items) acts (leap_acts i marks e.outs) acts' c.bytes.invariant.acts took.acts;
      scanned = λ q n s0. subst (λ row. HasScanned b.table b.machine.nodes rows q n piece (i + 1) row marks' acts') (sym c.to-row.ensures) (gone q n s0);
    }

pub returns-clause-scanned : goal.returns-clause-scanned
returns-clause-scanned c = c.bytes.invariant.scanned

pub returns-clause-at : goal.returns-clause-at
returns-clause-at c = c.bytes.invariant.at
