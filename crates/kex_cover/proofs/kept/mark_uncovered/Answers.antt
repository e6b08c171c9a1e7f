use Rattle.std.proofs.Common.{◌+◌, true, get_or, length, sym, ap, subst, ◌∙◌, arith, length-set}
use Rattle.std.proofs.lemmas.Option.{slice_get-get_or}
use Rattle.kex_cover.specs.Keeping.{AreToldTo, ToldAt}
use Rattle.kex_cover.specs.Optimal.{AsksMore}
use Rattle.kex_cover.specs.Searches.{RefusesPairs}
use Rattle.kex_cover.proofs.LeafMarks.{AskedTo, asked_more, more_at, told_covered, told_uncovered}
use Rattle.kex_cover.proofs.MarkedPlaces.{get_among}
use Rattle.kex_cover.proofs.PairSteps.{err_as, refuses_more}
use Rattle.kex_cover.proofs.kept.mark_uncovered.Goals as goal
use Rattle.kex_cover.proofs.kept.mark_uncovered.Goals.{then-not-branch, else-not-branch}

pub returns-in_err-is_covered-clause-refused : goal.returns-in_err-is_covered-clause-refused
returns-in_err-is_covered-clause-refused c =
    let g = c.args.machine.now in
    let leaves = c.args.leaves.now in
    let more : RefusesPairs c.loop-at.questions.pairs.most (AsksMore g c.loop-at.questions.pairs.most leaves) c.in_err-is_covered.field-0.0 =
    refuses_more c.loop-at.questions.pairs.most c.in_err-is_covered.field-0.0 (λ h. more_at g c.loop-at.questions.pairs.most leaves c.loop-at.at (omega arith) h) c.in_err-is_covered.ensures.refused in
    err_as _ c.from_residual.result c.in_err-is_covered.field-0.0 c.from_residual.ensures.1 (subst (λ m. RefusesPairs m (AsksMore g m leaves) c.in_err-is_covered.field-0.0) c.loop-at.invariant.most more)

pub mark-requires : goal.mark-requires
mark-requires c =
    let lt = (c.requires.waiting (get_or c.args.leaves.now c.loop-at.at 0) (get_among c.args.leaves.now c.loop-at.at (omega arith))).0 in
    omega (arith, lt, c.loop-at.invariant.long)

pub loop-at-preserved : goal.loop-at-preserved
loop-at-preserved c =
    let g = c.args.machine.now in
    let leaves = c.args.leaves.now in
    let at = c.loop-at.at in
    let told : ToldAt g leaves at c.in_ok-is_covered.field-0 = c.in_ok-is_covered.ensures.told in
    let here = get_among leaves at (omega arith) in
    let lt = (c.requires.waiting (get_or leaves at 0) here).0 in
    record {
      told = elim c.if-not-branch.branch [
        | then-not-branch w ↦ subst (λ z. AreToldTo g (at + 1) leaves z) (sym (w.marks-is ∙ w.mark.ensures.marked)) (told_uncovered g leaves at c.loop-at.marks c.loop-at.invariant.told (get_or leaves at 0) (slice_get-get_or leaves at 0 (omega arith)) c.requires.different (omega (arith, lt, c.loop-at.invariant.long)) (subst (λ z. ToldAt g leaves at z) w.if-not-branch.true told))
        | else-not-branch w ↦ subst (λ z. AreToldTo g (at + 1) leaves z) (sym w.marks-is) (told_covered g leaves at c.loop-at.marks c.loop-at.invariant.told (subst (λ z. ToldAt g leaves at z) w.if-not-branch.false told))
      ];
      asked = subst (λ m. AskedTo g m leaves (at + 1)) (sym c.in_ok-is_covered.ensures.most) (asked_more g c.loop-at.questions.pairs.most leaves at c.loop-at.invariant.asked c.in_ok-is_covered.ensures.count);
      kept = c.in_ok-is_covered.ensures.kept;
      most = c.in_ok-is_covered.ensures.most ∙ c.loop-at.invariant.most;
      long = elim c.if-not-branch.branch [
        | then-not-branch w ↦ ap length (w.marks-is ∙ w.mark.ensures.marked) ∙ length-set c.loop-at.marks (get_or leaves at 0) true ∙ c.loop-at.invariant.long
        | else-not-branch w ↦ ap length w.marks-is ∙ c.loop-at.invariant.long
      ];
    }
