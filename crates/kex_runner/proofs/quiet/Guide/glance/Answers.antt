use Rattle.std.proofs.Common.{◌≡◌, ◌+◌, ◌*◌, ◌/◌, ◌<◌, [], Some, length, get_or, take, refl, sym, ap, subst, ◌∙◌, arith}
use Rattle.std.specs.Prelude.{slice_get}
use Rattle.std.proofs.Math.Nat.{mul-div_cancel}
use Rattle.std.proofs.lemmas.Option.{slice_get-get_or}
use Rattle.kex_byteset.specs.Classes.{class_at, class_count}
use Rattle.kex_script.specs.Scripts.{entry_at}
use Rattle.kex_runner.specs.declared.quiet.Quiet.{Quiet}
use Rattle.kex_runner.specs.Quiet.{GoesQuietly, IsQuiet}
use Rattle.kex_runner.proofs.QuietUpdates.{told, whole_next, target_few, quietly_more}
use Rattle.kex_runner.proofs.quiet.Guide.glance.Goals as goal
use Rattle.kex_runner.proofs.quiet.Guide.glance.Goals.{After-from}

pub returns-then-row-self-clause-quiet : goal.returns-then-row-self-clause-quiet
returns-then-row-self-clause-quiet c = λ d held. (held, refl)

pub loop-count-init : goal.loop-count-init
loop-count-init c =
    let w = c.args.self.now.width in
    let back : c.args.state * w / w ≡ c.args.state = mul-div_cancel c.args.state c.requires.guide.some in
    record {
      count = omega arith;
      within = omega (arith, c.if-row-self.false, ap length c.as_slice-quiets.ensures.value);
      whole = ap (λ z. z * w) (sym back);
      few = subst (λ z. z < 4294967296) (sym back) c.ranges.state.fits;
      quiet = subst (λ z. GoesQuietly c.args.table.now c.args.state z []) (sym back) (λ d held. (held, refl));
    }

module _ (c : After-from) where
  few : c.class_of.result < class_count c.args.table.now.classes
  few = subst (λ z. c.class_of.result < class_count z) c.partition-partition.ensures.same c.class_of.ensures.below

  inside : c.loop-count.row + c.from.result < length c.as_slice-quiets.result.now
  inside = omega (arith, few, c.requires.guide.wide, c.loop-count.invariant.within, c.from.ensures, ap length c.as_slice-quiets.ensures.value)

pub overflow_add-quiet : goal.overflow_add-quiet
overflow_add-quiet c = let lt = inside c in omega (arith, lt, c.as_slice-quiets.ensures.len)

pub offset_bounds-quiets-row : goal.offset_bounds-quiets-row
offset_bounds-quiets-row c = let lt = inside c in omega (arith, lt, c.as_slice-quiets.ensures.len)

pub bounds-quiets-row : goal.bounds-quiets-row
bounds-quiets-row c = inside c

pub loop-count-preserved : goal.loop-count-preserved
loop-count-preserved c =
    let t = c.args.table.now in
    let g = c.args.self.now in
    let table = c.requires.guide.script.table in
    let script = c.requires.guide.script in
    let row = c.loop-count.row in
    let class = c.class_of.result in
    let count = c.loop-count.count in
    let piece = c.args.piece.now in
    let all = c.as_slice-quiets.result.now in
    let none : Quiet = record { row = 0; update = 0 } in
    let q = get_or all (row + c.from.result) none in
    let top = (goal.at.loop-count-preserved c).After-from in
    let lt : class < g.width = omega (arith, few top, c.requires.guide.wide) in
    let at : slice_get g.quiets.items (row + class) ≡ Some q = subst (λ z. slice_get z (row + class) ≡ Some q) c.as_slice-quiets.ensures.value (subst (λ z. slice_get all (row + z) ≡ Some q) c.from.ensures (slice_get-get_or all (row + c.from.result) none (inside top))) in
    let h : IsQuiet (entry_at g.script (row / g.width) class) g.width (length g.quiets.items) q = told t g table script c.requires.guide row class q c.loop-count.invariant.whole lt at c.if-quiet.false in
    record {
      count = omega (arith, c.loop-count-test.true);
      within = h.within;
      whole = whole_next t g table script c.requires.guide (entry_at g.script (row / g.width) class) q h;
      few = target_few t g table script c.requires.guide row class q h (few top);
      quiet = quietly_more t g table script c.requires.guide row class (get_or piece count 0) c.args.state q piece count h (few top) c.loop-count-test.true refl (c.type_inv.piece count).fits (c.class_of.ensures.class ∙ ap (λ z. class_at z (get_or piece count 0)) c.partition-partition.ensures.same) c.loop-count.invariant.quiet;
    }

pub overflow_cast-result : goal.overflow_cast-result
overflow_cast-result c = omega (arith, c.state_of.ensures, c.loop-count.invariant.few)

pub returns-clause-count : goal.returns-clause-count
returns-clause-count c = c.loop-count.invariant.count

pub returns-clause-quiet : goal.returns-clause-quiet
returns-clause-quiet c = subst (λ z. GoesQuietly c.args.table.now c.args.state z (take c.loop-count.count c.args.piece.now)) (sym c.state_of.ensures) c.loop-count.invariant.quiet
