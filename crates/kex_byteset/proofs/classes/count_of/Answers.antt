use Rattle.std.proofs.Common.{◌≡◌, ◌+◌, take, max, arith, ap, sym, ◌∙◌}
use Rattle.std.proofs.lemmas.List.{take_all}
use Rattle.std.proofs.Math.Nat.{max-eq_left, max-eq_right}
use Rattle.kex_byteset.specs.Classes.{class_count}
use Rattle.kex_byteset.proofs.Partitions.{count_more, below_count}
use Rattle.kex_byteset.proofs.classes.count_of.Goals as goal
use Rattle.kex_byteset.proofs.classes.count_of.Goals.{then-count-past, else-count-past}

pub loop-class-preserved : goal.loop-class-preserved
loop-class-preserved c =
    let count = c.loop-class.count in
    let more : class_count (take (c.loop-class.class-index + 1) c.args.classes.now) ≡ max count (c.from-past.result + 1) =
    count_more c.args.classes.now c.loop-class.class-index (omega (arith, c.told-classes, c.loop-class-test.true)) ∙ (λ i. max (sym c.loop-class.invariant.counted i) (sym c.from-past.ensures i + 1)) in
    elim c.if-count-past.branch [
      | then-count-past w ↦ record { counted = w.count-is ∙ sym (max-eq_right {n = count} {m = c.from-past.result + 1} (omega (arith, w.if-count-past.true))) ∙ sym more; few = omega (arith, w.count-is, c.from-past.ensures, c.fits-classes c.loop-class.class-index) }
      | else-count-past w ↦ record { counted = w.count-is ∙ sym (max-eq_left {n = count} {m = c.from-past.result + 1} (omega (arith, w.if-count-past.false))) ∙ sym more; few = omega (arith, w.count-is, c.loop-class.invariant.few) }
    ]

counted : (c : goal.After-loop-class) → c.loop-class.count ≡ class_count c.args.classes.now
counted c = c.loop-class.invariant.counted ∙ ap class_count (take_all c.loop-class.class-index c.args.classes.now (omega (arith, c.told-classes, c.loop-class-test.false)))

pub returns-clause-count : goal.returns-clause-count
returns-clause-count c = counted c

pub returns-clause-within : goal.returns-clause-within
returns-clause-within c = (omega (arith, counted c, below_count c.args.classes.now 0 (omega (arith, c.told-classes))), c.loop-class.invariant.few)
