use Rattle.std.proofs.Common.{◌+◌, [], ◌∷◌, ◌++◌, length, sym, ap, subst, ◌∙◌, arith}
use Rattle.kex_machine.specs.Advancing.{EachPlace}
use Rattle.kex_paths.proofs.LeftTrees.{lists_same}
use Rattle.kex_tabfile.specs.Lines.{tree_text}
use Rattle.kex_tabfile.specs.declared.trees.TreeMark.TheVariants.{Comma}
use Rattle.kex_tabfile.proofs.TreeTails.{still_in, tip_of, past_tip, into_fork, writes_as, written}
use Rattle.kex_tabfile.proofs.trees.push_tree.Goals as goal
use Rattle.kex_tabfile.proofs.trees.push_tree.Goals.{then-inner+in_ok-push+in_ok-push-2+in_ok-push-3, else-inner+in_ok-push_number+in_ok-push_marks}

pub offset_bounds-leaves-leaf : goal.offset_bounds-leaves-leaf
offset_bounds-leaves-leaf c =
    let t = c.requires in
    let o = still_in _ _ _ _ _ _ _ _ _ c.loop-inner-test.true (c.loop-inner.invariant t.0 t.1 t.2 t.3) in
    let h = tip_of _ _ _ _ _ _ _ _ _ c.loop-inner-test.true c.if-inner.false o in
    omega (arith, h.within)

pub bounds-leaves-leaf : goal.bounds-leaves-leaf
bounds-leaves-leaf c =
    let t = c.requires in
    let o = still_in _ _ _ _ _ _ _ _ _ c.loop-inner-test.true (c.loop-inner.invariant t.0 t.1 t.2 t.3) in
    (tip_of _ _ _ _ _ _ _ _ _ c.loop-inner-test.true c.if-inner.false o).within

pub bounds-numbers-leaves : goal.bounds-numbers-leaves
bounds-numbers-leaves c =
    let t = c.requires in
    let o = still_in _ _ _ _ _ _ _ _ _ c.loop-inner-test.true (c.loop-inner.invariant t.0 t.1 t.2 t.3) in
    let h = tip_of _ _ _ _ _ _ _ _ _ c.loop-inner-test.true c.if-inner.false o in
    omega (arith, h.read_there, h.fits)

pub overflow_add-leaf : goal.overflow_add-leaf
overflow_add-leaf c =
    let t = c.requires in
    let o = still_in _ _ _ _ _ _ _ _ _ c.loop-inner-test.true (c.loop-inner.invariant t.0 t.1 t.2 t.3) in
    let h = tip_of _ _ _ _ _ _ _ _ _ c.loop-inner-test.true c.if-inner.false o in
    omega (arith, h.within)

pub loop-inner-preserved : goal.loop-inner-preserved
loop-inner-preserved c = λ s e f each.
    let numbers = c.args.numbers.now in
    let shape = c.args.shape.now in
    let leaves = c.args.leaves.now in
    let whole = c.args.line.now.items ++ tree_text numbers s in
    let i = c.loop-inner.inner-index in
    let leaf = c.loop-inner.leaf in
    let marks = c.loop-inner.pending.items in
    let line = c.loop-inner.line.items in
    let o = still_in numbers (length numbers) shape leaves whole i leaf marks line c.loop-inner-test.true (c.loop-inner.invariant s e f each) in
    elim c.if-inner.branch [
      | then-inner+in_ok-push+in_ok-push-2+in_ok-push-3 w ↦ writes_as numbers (length numbers) shape leaves whole (i + 1) leaf c.if-inner.leaf w.push-then-inner-2.new.self.items c.if-inner.pending.items w.push.new.self.items c.if-inner.line.items
          w.leaf-is (ap (λ v. v.items) w.pending-is) (ap (λ v. v.items) w.line-is)
          (into_fork numbers (length numbers) shape leaves whole i leaf marks line w.push.new.self.items w.push-then-inner-2.new.self.items c.loop-inner-test.true w.if-inner.true o w.in_ok-push.ensures.items (w.in_ok-push-3.ensures.items ∙ ap (λ z. z ++ Comma ∷ []) w.in_ok-push-2.ensures.items))
      | else-inner+in_ok-push_number+in_ok-push_marks w ↦ (
          let t = tip_of numbers (length numbers) shape leaves whole i leaf marks line c.loop-inner-test.true w.if-inner.false o in
          writes_as numbers (length numbers) shape leaves whole (i + 1) (leaf + 1) c.if-inner.leaf w.push_marks.new.pending.items c.if-inner.pending.items w.push_marks.new.line.items c.if-inner.line.items
          w.leaf-is (ap (λ v. v.items) w.pending-is) (ap (λ v. v.items) w.line-is)
          (past_tip numbers (length numbers) shape leaves whole i leaf marks line o t w.push_number.new.line.items w.push_marks.new.line.items w.push_marks.new.pending.items w.in_ok-push_number.ensures (w.in_ok-push_marks.ensures numbers o.tail o.marked))
          )
    ]

pub returns : goal.returns
returns c = λ s e f.
    let t = c.requires in
    let same = lists_same t.0 s (sym t.1 ∙ e) (sym t.2 ∙ f) in
    let each = subst (λ z. EachPlace (length c.args.numbers.now) z) same t.3 in
    written c.args.numbers.now (length c.args.numbers.now) c.args.shape.now c.args.leaves.now (c.args.line.now.items ++ tree_text c.args.numbers.now s) c.loop-inner.inner-index c.loop-inner.leaf c.loop-inner.pending.items c.loop-inner.line.items c.loop-inner-test.false (c.loop-inner.invariant s e f each)
