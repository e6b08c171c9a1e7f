use Rattle.std.proofs.Common.{◌≡◌, ◌<◌, Some, get_or, refl, ap, subst, sym, ◌∙◌, arith}
use Rattle.kex_byteset.specs.Classes.{class_at, class_count}
use Rattle.kex_sst.specs.declared.table.Transition.{Transition}
use Rattle.kex_sst.specs.Parts.{item_count}
use Rattle.kex_script.specs.Pieces.{code_over}
use Rattle.kex_runner.specs.Noting.{contents}
use Rattle.kex_runner.proofs.ByteSteps.{goes_next, goes_nowhere, next_by_class, items_next, items_stop}
use Rattle.kex_runner.proofs.ScriptSteps.{told_by, step_at, runner_next}
use Rattle.kex_runner.proofs.place.TablePlace.follow.Goals as goal

pub returns-in_default-clause-follows : goal.returns-in_default-clause-follows
returns-in_default-clause-follows g c =
    let s = c.args.script.now in
    let t = c.args.table.now in
    let class = c.class_of-class.result in
    let b = get_or c.args.piece.now c.loop-i.i 0 in
    let lt : class < class_count t.classes = subst (λ z. class < class_count z) c.partition.ensures.same c.class_of-class.ensures.below in
    let by = next_by_class t c.loop-i.self.state b class c.partition.ensures.table ((c.type_inv.piece c.loop-i.i).fits) (c.class_of-class.ensures.class ∙ ap (λ z. class_at z b) c.partition.ensures.same) in
    record {
      within = omega (arith, c.loop-i-test.true);
      more = c.loop-i.invariant.goes.more;
      code = c.loop-i.invariant.goes.code;
      goes = c.loop-i.invariant.goes.goes;
      stops = λ d lt. goes_nowhere t c.args.self.now.state (contents s c.args.self.now.registers) c.args.piece.now c.loop-i.i c.loop-i.self.state (contents s c.loop-i.self.registers) (code_over s.words c.args.pieces.now.items) (code_over s.words c.loop-i.pieces.items) b c.loop-i-test.true refl (by ∙ c.in_default.ensures) c.loop-i.invariant.goes d;
    }

pub returns-in_default-clause-steps : goal.returns-in_default-clause-steps
returns-in_default-clause-steps g c =
    let s = c.args.script.now in
    let t = c.args.table.now in
    let class = c.class_of-class.result in
    let b = get_or c.args.piece.now c.loop-i.i 0 in
    let lt : class < class_count t.classes = subst (λ z. class < class_count z) c.partition.ensures.same c.class_of-class.ensures.below in
    let by = next_by_class t c.loop-i.self.state b class c.partition.ensures.table ((c.type_inv.piece c.loop-i.i).fits) (c.class_of-class.ensures.class ∙ ap (λ z. class_at z b) c.partition.ensures.same) in
    let none = items_stop t c.loop-i.self.state c.args.piece.now c.loop-i.i b c.loop-i-test.true refl (by ∙ c.in_default.ensures) in
    omega (arith, none, c.loop-i.invariant.steps)

pub take-requires-clause-entry : goal.take-requires-clause-entry
take-requires-clause-entry g c =
    let s = c.args.script.now in
    let t = c.args.table.now in
    let e = c.entry-entry.result in
    let class = c.class_of-class.result in
    let b = get_or c.args.piece.now c.loop-i.i 0 in
    let lt : class < class_count t.classes = subst (λ z. class < class_count z) c.partition.ensures.same c.class_of-class.ensures.below in
    let r : Transition = record { target = c.in-Some.field-0-0; update = c.in-Some.update.now } in
    let k = step_at s t c.loop-i.self.state class e r c.loop-i.invariant.runner.script lt c.entry-entry.ensures c.in-Some.ensures in
    k.update

pub loop-i-preserved : goal.loop-i-preserved
loop-i-preserved g c =
    let s = c.args.script.now in
    let t = c.args.table.now in
    let e = c.entry-entry.result in
    let class = c.class_of-class.result in
    let b = get_or c.args.piece.now c.loop-i.i 0 in
    let lt : class < class_count t.classes = subst (λ z. class < class_count z) c.partition.ensures.same c.class_of-class.ensures.below in
    let by = next_by_class t c.loop-i.self.state b class c.partition.ensures.table ((c.type_inv.piece c.loop-i.i).fits) (c.class_of-class.ensures.class ∙ ap (λ z. class_at z b) c.partition.ensures.same) in
    let r : Transition = record { target = c.in-Some.field-0-0; update = c.in-Some.update.now } in
    let k = step_at s t c.loop-i.self.state class e r c.loop-i.invariant.runner.script lt c.entry-entry.ensures c.in-Some.ensures in
    let items = items_next t c.loop-i.self.state c.args.piece.now c.loop-i.i b (told_by s e) c.loop-i-test.true refl (by ∙ k.at) in
    let told = ap (λ (z : Transition). item_count z.update) (same (sym c.in-Some.ensures ∙ k.at)) in
    record {
      goes = goes_next t c.args.self.now.state (contents s c.args.self.now.registers) c.args.piece.now c.loop-i.i c.loop-i.self.state (contents s c.loop-i.self.registers) (code_over s.words c.args.pieces.now.items) (code_over s.words c.loop-i.pieces.items) b c.loop-i-test.true refl (told_by s e) (contents s c.take.new.self) (code_over s.words c.take.new.pieces.items) (by ∙ k.at) c.in_ok-take.ensures.registers c.in_ok-take.ensures.pieces c.loop-i.invariant.goes;
      known = c.in_ok-take.ensures.known;
      runner = runner_next t s c.loop-i.self.state class b e c.loop-i.self.registers c.take.new.self c.loop-i.invariant.runner k c.in_ok-take.ensures.registers c.take.ensures.counted;
      steps = omega (arith, items, told, c.count_items.ensures, c.loop-i.invariant.steps);
    }
  where
    same : {x y : Transition} → Some x ≡ Some y → x ≡ y
    same e = cc
