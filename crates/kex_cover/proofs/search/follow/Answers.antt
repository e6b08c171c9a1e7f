use Rattle.std.proofs.Common.{subst, ◌∙◌, ap, arith}
use Rattle.std.specs.Prelude.{slice_get}
use Rattle.std.proofs.lemmas.Option.{slice_get_within}
use Rattle.kex_cover.specs.Searches.{HasMoreFrom, RefusesPairs, pairs_met}
use Rattle.kex_cover.proofs.PairSteps.{err_as, refuses_more, more_grown, grows_on, followed_more}
use Rattle.kex_cover.proofs.search.follow.Goals as goal

pub returns-in_err-follow_class-clause-err : goal.returns-in_err-follow_class-clause-err
returns-in_err-follow_class-clause-err c =
    let g = c.args.machine.now in
    let us = pairs_met c.args.sets.now c.args.pairs.now in
    let err = c.in_err-follow_class.field-0.0 in
    let more : RefusesPairs c.loop-class.pairs.most (HasMoreFrom g c.loop-class.pairs.most us) err =
    refuses_more c.loop-class.pairs.most err (more_grown g us (pairs_met c.loop-class.sets c.loop-class.pairs) c.loop-class.pairs.most c.loop-class.invariant.grows) c.in_err-follow_class.ensures.err in
    err_as _ c.from_residual.result err c.from_residual.ensures.1 (subst (λ m. RefusesPairs m (HasMoreFrom g m us) err) c.loop-class.invariant.most more)

pub loop-class-preserved : goal.loop-class-preserved
loop-class-preserved c =
    let g = c.args.machine.now in
    let us = pairs_met c.args.sets.now c.args.pairs.now in
    let vs = pairs_met c.loop-class.sets c.loop-class.pairs in
    let ws = pairs_met c.follow_class.new.sets c.follow_class.new.pairs in
    record {
      most = c.follow_class.ensures.most ∙ c.loop-class.invariant.most;
      bytes = c.follow_class.ensures.bytes ∙ c.loop-class.invariant.bytes;
      kept = c.in_ok-follow_class.ensures.kept;
      grows = grows_on g us vs ws c.loop-class.invariant.grows c.in_ok-follow_class.ensures.grows;
      done = followed_more g c.loop-class.class c.args.sets.now.bytes.items us vs ws c.args.at c.loop-class.invariant.grows c.in_ok-follow_class.ensures.grows c.loop-class.invariant.done (λ u b e f. c.in_ok-follow_class.ensures.done u b e (ap (λ z. slice_get z.items c.loop-class.class) c.loop-class.invariant.bytes ∙ f));
    }

pub returns-clause-done : goal.returns-clause-done
returns-clause-done c = λ u k b e f. let lt = slice_get_within c.args.sets.now.bytes.items k _ f in c.loop-class.invariant.done u k b (omega (arith, lt)) e f
