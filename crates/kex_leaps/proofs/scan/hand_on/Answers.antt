use Rattle.std.proofs.Common.{◌≡◌, ◌∙◌, ◌<◌, ◌+◌, ◌++◌, ◌∷◌, [], get_or, length, ap, subst, arith}
use Rattle.kex_byteset.specs.Classes.{class_at, class_count}
use Rattle.kex_sst.specs.Tables.{Transducer}
use Rattle.kex_held_rows.specs.Books.{rows_in, IsNoteRight}
use Rattle.kex_leaps.specs.declared.act.LeapAct.TheVariants.{Text}
use Rattle.kex_leaps.specs.Leaps.{HasScanned}
use Rattle.kex_leaps.proofs.RowScans.{class_is, scan_hands_on}
use Rattle.kex_leaps.proofs.scan.hand_on.Goals as goal

pub note_at-requires-clause-class : goal.note_at-requires-clause-class
note_at-requires-clause-class c = subst (λ z. c.class_of-class.result < class_count z) (c.partition-partition.ensures.same ∙ ap (λ (t : Transducer). t.classes) c.requires.table) c.class_of-class.ensures.below

pub bytes-init : goal.bytes-init
bytes-init c = record { behind = omega arith; within = c.requires.from; hands = λ q n acts first le s. s }

pub bytes-preserved : goal.bytes-preserved
bytes-preserved c =
    let b = c.args.ledger.now in
    let piece = c.args.piece.now in
    let rows = rows_in b.rows in
    let i = c.bytes.at in
    let byte = get_or piece i 0 in
    let class = c.class_of-class.result in
    let long = subst (λ (t : Transducer). length t.classes ≡ 256) c.requires.table c.partition-partition.ensures.table.numbered.long in
    let is = class_is b.table.classes byte class long ((c.type_inv.piece i).fits) (c.class_of-class.ensures.class ∙ ap (λ z. class_at z byte) (c.partition-partition.ensures.same ∙ ap (λ (t : Transducer). t.classes) c.requires.table)) in
    record {
      behind = omega (arith, c.bytes.invariant.behind);
      within = omega (arith, c.bytes-test.true);
      hands = λ q n acts first less s0.
          let s = c.bytes.invariant.hands q n acts first less s0 in
          let hands = subst (IsNoteRight b.table b.machine.nodes rows s.to class) c.in-HandsOn.is (c.note_at.ensures s.to s.is) in
          subst (λ m. HasScanned b.table b.machine.nodes rows q n piece (i + 1) c.args.row (m ∷ []) (acts ++ Text first m ∷ [])) (omega arith) (scan_hands_on b.table b.machine.nodes rows q n piece first i c.args.row class acts (omega (arith, less, c.bytes.invariant.behind)) s c.bytes-test.true is hands);
    }

pub returns-in_default-clause-hands : goal.returns-in_default-clause-hands
returns-in_default-clause-hands c = c.bytes.invariant.hands

pub returns-clause-hands : goal.returns-clause-hands
returns-clause-hands c = c.bytes.invariant.hands
