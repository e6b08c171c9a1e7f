use Rattle.std.proofs.Common.{◌≡◌, ℕ, ◌+◌, ◌-◌, ◌*◌, ◌/◌, ◌<◌, ◌≤◌, ◌++◌, false, All, drop, take, List, [], Some, length, get_or, refl, sym, ap, ap₂, subst, ◌∙◌, arith}
use Rattle.std.specs.Prelude.{slice_get}
use Rattle.std.specs.Vec.{vec_capacity, vec_len}
use Rattle.std.proofs.Math.Nat.{mul-div_cancel, mul-le-mul}
use Rattle.std.proofs.lemmas.List.{length-drop, length-take}
use Rattle.std.proofs.lemmas.Option.{slice_get-get_or, slice_get_read}
use Rattle.kex_byteset.specs.Classes.{class_at, class_count}
use Rattle.kex_sst.specs.Tables.{Row}
use Rattle.kex_script.specs.Scripts.{entry_at}
use Rattle.kex_runner.specs.declared.quiet.Quiet.{Quiet}
use Rattle.kex_runner.specs.Noting.{contents, noted_by}
use Rattle.kex_runner.specs.Following.{IsTablePlace}
use Rattle.kex_runner.specs.Quiet.{IsQuiet, StaysAt, staying}
use Rattle.kex_runner.proofs.ByteSteps.{Goes, goes_none, place_in_range}
use Rattle.kex_runner.proofs.QuietUpdates.{told, whole_next, place_quiet, goes_quiet, stays_on, stays_each, byte_within}
use Rattle.kex_runner.proofs.registers.Registers.go_quiet.Goals as goal
use Rattle.kex_runner.proofs.registers.Registers.go_quiet.Goals.{After-push_reserved}

pub overflow_mul-row : goal.overflow_mul-row
overflow_mul-row c =
    let lt = place_in_range c.requires.runner.sound.place in
    let few = c.requires.runner.sound.table.few in
    let narrow = c.requires.guide.narrow in
    let state : c.args.state.now ≤ 4294967296 = omega (arith, lt, few) in
    let most = mul-le-mul state narrow in
    omega (arith, most)

pub overflow_add-row : goal.overflow_add-row
overflow_add-row c =
    let lt = place_in_range c.requires.runner.sound.place in
    let few = c.requires.runner.sound.table.few in
    let narrow = c.requires.guide.narrow in
    let state : c.args.state.now ≤ 4294967296 = omega (arith, lt, few) in
    let most = mul-le-mul state narrow in
    omega (arith, most, narrow)

pub quiet-init : goal.quiet-init
quiet-init c =
    let t = c.args.table.now in
    let g = c.args.guide.now in
    let w = g.width in
    let state = c.args.state.now in
    let regs = contents g.script c.args.self.now in
    let same : c.replace-notes.result.items ≡ c.args.self.now.notes.items = ap (λ v. v.items) c.replace-notes.ensures.value ∙ c.try_reserve.ensures.items in
    let back : state ≡ state * w / w = sym (mul-div_cancel state c.requires.guide.some) in
    let holds : regs ≡ noted_by g.script c.args.self.now.base.items c.replace-notes.result.items = ap (λ z. noted_by g.script c.args.self.now.base.items z) (sym same) in
    record {
      count = omega arith;
      within = omega (arith, c.if-row-guide.false, ap length c.as_slice-quiets.ensures.value);
      whole = ap (λ z. z * w) back;
      room = subst (λ v. vec_len v + (c.min-room.result - 0) ≤ vec_capacity v) (sym c.replace-notes.ensures.value) (omega (arith, c.in_ok-try_reserve.ensures.ok));
      place = subst (λ z. IsTablePlace t z (noted_by g.script c.args.self.now.base.items c.replace-notes.result.items)) back (subst (λ z. IsTablePlace t state z) holds c.requires.runner.sound.place);
      goes = subst (λ z. Goes t state regs c.args.piece.now 0 z (noted_by g.script c.args.self.now.base.items c.replace-notes.result.items) [] []) back (subst (λ z. Goes t state regs c.args.piece.now 0 state z [] []) holds (goes_none t state regs c.args.piece.now []));
    }

module _ (c : After-push_reserved) where
  abbrev class : ℕ
  class = c.class_of.result

  abbrev all : List Quiet
  all = c.as_slice-quiets.result.now

  abbrev none : Quiet
  none = record { row = 0; update = 0 }

  abbrev quiet : Quiet
  quiet = get_or all (c.quiet.row + c.from.result) none

  few : class < class_count c.args.table.now.classes
  few = subst (λ z. class < class_count z) c.partition-partition.ensures.same c.class_of.ensures.below

  told_there : IsQuiet (entry_at c.args.guide.now.script (c.quiet.row / c.args.guide.now.width) class) c.args.guide.now.width (length c.args.guide.now.quiets.items) quiet
  told_there =
      let g = c.args.guide.now in
      let row = c.quiet.row in
      let lt : class < g.width = omega (arith, few, c.requires.guide.wide) in
      let same = c.as_slice-quiets.ensures.value in
      let inside : row + c.from.result < length all = omega (arith, lt, c.quiet.invariant.within, c.from.ensures, ap length same) in
      let at : slice_get g.quiets.items (row + class) ≡ Some quiet = subst (λ z. slice_get z (row + class) ≡ Some quiet) same (subst (λ z. slice_get all (row + z) ≡ Some quiet) c.from.ensures (slice_get-get_or all (row + c.from.result) none inside)) in
      told c.args.table.now g c.requires.runner.sound.table c.requires.runner.script c.requires.guide row class quiet c.quiet.invariant.whole lt at c.if-quiet.false

  placed : IsTablePlace c.args.table.now (quiet.row / c.args.guide.now.width) (noted_by c.args.guide.now.script c.args.self.now.base.items c.push_reserved.new.self.items)
  placed =
      let t = c.args.table.now in
      let g = c.args.guide.now in
      subst (λ z. IsTablePlace t (quiet.row / g.width) (noted_by g.script c.args.self.now.base.items z)) (sym c.push_reserved.ensures.items)
      (place_quiet t g c.requires.runner.sound.table c.requires.runner.script c.requires.guide c.args.self.now.base.items c.quiet.notes.items c.quiet.row class (get_or c.args.piece.now c.quiet.count 0) false quiet told_there few c.quiet.invariant.place)

  gone : Goes c.args.table.now c.args.state.now (contents c.args.guide.now.script c.args.self.now) c.args.piece.now (c.quiet.count + 1) (quiet.row / c.args.guide.now.width) (noted_by c.args.guide.now.script c.args.self.now.base.items c.push_reserved.new.self.items) [] []
  gone =
      let t = c.args.table.now in
      let g = c.args.guide.now in
      let b = get_or c.args.piece.now c.quiet.count 0 in
      let long : c.quiet.count < length c.args.piece.now = omega (arith, c.quiet-test.true, c.min-room.ensures) in
      subst (λ z. Goes t c.args.state.now (contents g.script c.args.self.now) c.args.piece.now (c.quiet.count + 1) (quiet.row / g.width) (noted_by g.script c.args.self.now.base.items z) [] []) (sym c.push_reserved.ensures.items)
      (goes_quiet t g c.requires.runner.sound.table c.requires.runner.script c.requires.guide c.args.self.now.base.items c.quiet.notes.items c.quiet.row class b false quiet told_there few c.args.state.now (contents g.script c.args.self.now) c.args.piece.now c.quiet.count long refl (c.type_inv.piece c.quiet.count).fits (c.class_of.ensures.class ∙ ap (λ z. class_at z b) c.partition-partition.ensures.same) c.quiet.invariant.goes)

pub quiet-preserved : goal.quiet-preserved
quiet-preserved c =
    let top = (goal.at.quiet-preserved c).After-push_reserved in
    let t = c.args.table.now in
    let g = c.args.guide.now in
    record {
      count = omega (arith, c.quiet-test.true);
      within = (told_there top).within;
      whole = whole_next t g c.requires.runner.sound.table c.requires.runner.script c.requires.guide (entry_at g.script (c.quiet.row / g.width) (class top)) (quiet top) (told_there top);
      room = omega (arith, c.quiet.invariant.room, c.push_reserved.ensures.len, c.push_reserved.ensures.capacity, c.quiet-test.true);
      place = placed top;
      goes = gone top;
    }

pub stay-count-requires-clause-row : goal.stay-count-requires-clause-row
stay-count-requires-clause-row c =
    omega (arith, c.quiet.invariant.within, c.requires.guide.wide, ap length c.as_slice-quiets.ensures.value, ap class_count c.partition-partition.ensures.same)

pub quiet-preserved-then-next-row : goal.quiet-preserved-then-next-row
quiet-preserved-then-next-row c =
    let top = (goal.at.quiet-preserved-then-next-row c).After-push_reserved in
    let t = c.args.table.now in
    let g = c.args.guide.now in
    let base = c.args.self.now.base.items in
    let row = c.quiet.row in
    let q = quiet top in
    let w = g.width in
    let from = c.quiet.count + 1 in
    let to = c.min-room.result in
    let rest = take (to - from) (drop from c.args.piece.now) in
    let same : q.row ≡ row = c.if-next-row.true in
    let back : q.row / w ≡ row / w = ap (λ z. z / w) same in
    let notes = c.push_reserved.new.self.items in
    let regs = contents g.script c.args.self.now in
    let n = c.stay-count.result in
    let long : length rest ≡ to - from = omega (arith, length-take (to - from) (drop from c.args.piece.now), length-drop from c.args.piece.now, c.min-room.ensures) in
    let fits : from + length rest ≤ length c.args.piece.now = omega (arith, long, c.min-room.ensures, c.quiet-test.true) in
    let at = byte_within c.args.piece.now from to in
    let few_more = c.stay-count.ensures.count in
    let quiets = c.as_slice-quiets.ensures.value in
    let classes = c.partition-partition.ensures.same in
    let stays = subst (λ z. All (StaysAt z t.classes row) (take n rest)) quiets (subst (λ z. All (StaysAt c.as_slice-quiets.result.now z row) (take n rest)) classes c.stay-count.ensures.stays) in
    let noted : c.stay-count.new.notes.items ≡ notes ++ staying g.quiets.items t.classes row (take n rest) = c.stay-count.ensures.notes ∙ ap₂ (λ x y. notes ++ staying x y row (take n rest)) quiets classes in
    let all = stays_on t g c.requires.runner.sound.table c.requires.runner.script c.requires.guide base notes row c.quiet.invariant.whole (λ e. c.if-quiet.false (same ∙ e)) c.quiet.invariant.within c.args.state.now regs c.args.piece.now rest from fits at (λ k lt. subst (λ z. z < 256) (sym (at k lt)) (c.type_inv.piece (from + k)).fits) n few_more (stays_each g.quiets.items t.classes rest row n few_more stays)
    (subst (λ z. IsTablePlace t z (noted_by g.script base notes)) back (placed top)) (subst (λ z. Goes t c.args.state.now regs c.args.piece.now from z (noted_by g.script base notes) [] []) back (gone top)) in
    record {
      count = omega (arith, few_more, long, c.quiet-test.true);
      within = c.quiet.invariant.within;
      whole = c.quiet.invariant.whole;
      room = omega (arith, c.stay-count.ensures.room, long, few_more, c.quiet-test.true);
      place = subst (λ z. IsTablePlace t (row / w) (noted_by g.script base z)) (sym noted) all.0;
      goes = subst (λ z. Goes t c.args.state.now regs c.args.piece.now (from + n) (row / w) (noted_by g.script base z) [] []) (sym noted) all.1;
    }

pub overflow_cast-state : goal.overflow_cast-state
overflow_cast-state c =
    let lt = place_in_range c.quiet.invariant.place in
    omega (arith, lt, c.requires.runner.sound.table.few)

pub offset_bounds-states-now : goal.offset_bounds-states-now
offset_bounds-states-now c =
    let lt = place_in_range c.quiet.invariant.place in
    omega (arith, lt, c.requires.runner.sound.table.few)

pub bounds-states-now : goal.bounds-states-now
bounds-states-now c =
    let lt = place_in_range c.quiet.invariant.place in
    omega (arith, lt, ap length c.states.ensures.same)

pub returns-clause-runner : goal.returns-clause-runner
returns-clause-runner c =
    let t = c.args.table.now in
    let state = c.state_of-now.result in
    let p = subst (λ z. IsTablePlace t z (noted_by c.args.guide.now.script c.args.self.now.base.items c.quiet.notes.items)) (sym c.state_of-now.ensures) c.quiet.invariant.place in
    let s = c.index-states-now.result in
    let at : slice_get t.states state ≡ Some s = slice_get_read t.states (length t.states) state s refl (place_in_range p) (subst (λ z. s ≡ get_or z state s) c.states.ensures.same c.index-states-now.is) in
    record {
      sound = record { table = c.requires.runner.sound.table; place = p };
      script = c.requires.runner.script;
      counted = c.registers.ensures ∙ ap (λ (z : Row). z.registers) (same (sym at ∙ p.at)) ∙ sym p.count;
    }
  where
    same : {x y : Row} → Some x ≡ Some y → x ≡ y
    same e = cc
