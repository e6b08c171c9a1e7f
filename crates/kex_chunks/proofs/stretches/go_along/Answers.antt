use Rattle.std.proofs.Common.{get_or, refl, sym, ap, ◌∙◌}
use Rattle.kex_byteset.specs.Classes.{class_at}
use Rattle.kex_sst.specs.declared.summary.Course.TheVariants.{Goes}
use Rattle.kex_sst.specs.declared.table.Transition.{Transition}
use Rattle.kex_sst.specs.Parts.{olds, olds_in}
use Rattle.kex_sst.specs.Series.{identity}
use Rattle.kex_sst.proofs.Courses.{different_right, some_below}
use Rattle.kex_sst.proofs.Passes.{leads_to}
use Rattle.kex_chunks.proofs.Alongs.{along_next, along_stop, by_byte}
use Rattle.kex_chunks.proofs.stretches.go_along.Goals as goal

pub returns-in_default : goal.returns-in_default
returns-in_default c =
    let t = c.args.table.now in
    let b = get_or c.args.text.now c.loop-i.i 0 in
    let by = by_byte t c.loop-i.now b c.class_of-class.result c.partition.ensures.table ((c.type_inv.text c.loop-i.i).fits) (c.class_of-class.ensures.class ∙ ap (λ z. class_at z b) c.partition.ensures.same) in
    λ row at. sym (along_stop t (Goes c.args.state (identity row.registers)) c.args.text.now c.loop-i.i b c.loop-i.now c.loop-i.draft c.loop-i-test.true refl (c.loop-i.invariant.course row at) (by ∙ c.in_default.ensures))

pub push-requires : goal.push-requires
push-requires c =
    let t = c.args.table.now in
    let r : Transition = record { target = c.in-Some.target; update = c.in-Some.update.now } in
    let h = leads_to t c.partition.ensures.table c.loop-i.now c.class_of-class.result r c.in-Some.ensures in
    different_right (olds r.update.out) (olds_in r.update.regs) h.2.update.once

pub loop-i-preserved : goal.loop-i-preserved
loop-i-preserved c =
    let t = c.args.table.now in
    let b = get_or c.args.text.now c.loop-i.i 0 in
    let by = by_byte t c.loop-i.now b c.class_of-class.result c.partition.ensures.table ((c.type_inv.text c.loop-i.i).fits) (c.class_of-class.ensures.class ∙ ap (λ z. class_at z b) c.partition.ensures.same) in
    let r : Transition = record { target = c.in-Some.target; update = c.in-Some.update.now } in
    let h = leads_to t c.partition.ensures.table c.loop-i.now c.class_of-class.result r c.in-Some.ensures in
    record {
      now = some_below t.states r.target h.2.at;
      course = λ row at.
          along_next t (Goes c.args.state (identity row.registers)) c.args.text.now c.loop-i.i b c.loop-i.now c.loop-i.draft c.loop-i-test.true refl (c.loop-i.invariant.course row at) r (by ∙ c.in-Some.ensures)
          ∙ ap (λ z. Goes r.target z) (sym c.in_ok-push.ensures);
    }
