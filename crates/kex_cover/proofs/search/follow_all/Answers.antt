use Rattle.std.proofs.Common.{◌<◌, length, subst, ap, ◌∙◌, arith}
use Rattle.std.specs.Prelude.{slice_get}
use Rattle.std.proofs.lemmas.List.{length-map}
use Rattle.kex_cover.specs.Searches.{HasMoreFrom, RefusesPairs, met_sets, pair_sets, pairs_met}
use Rattle.kex_cover.proofs.PairSteps.{err_as, refuses_more, more_grown, grows_on, followed_on, among_get, at_least}
use Rattle.kex_cover.proofs.search.follow_all.Goals as goal

pub returns-in_err-follow-clause-err : goal.returns-in_err-follow-clause-err
returns-in_err-follow-clause-err c =
    let g = c.args.machine.now in
    let us = pairs_met c.args.sets.now c.args.pairs.now in
    let err = c.in_err-follow.field-0.0 in
    let more : RefusesPairs c.pairs.pairs.most (HasMoreFrom g c.pairs.pairs.most us) err =
    refuses_more c.pairs.pairs.most err (more_grown g us (pairs_met c.pairs.sets c.pairs.pairs) c.pairs.pairs.most c.pairs.invariant.grows) c.in_err-follow.ensures.err in
    err_as _ c.from_residual.result err c.from_residual.ensures.1 (subst (λ m. RefusesPairs m (HasMoreFrom g m us) err) c.pairs.invariant.most more)

pub pairs-preserved : goal.pairs-preserved
pairs-preserved c =
    let g = c.args.machine.now in
    let us = pairs_met c.args.sets.now c.args.pairs.now in
    let vs = pairs_met c.pairs.sets c.pairs.pairs in
    let ws = pairs_met c.follow.new.sets c.follow.new.pairs in
    let lt : c.pairs.at < length c.pairs.pairs.met.keys = omega arith in
    record {
      most = c.follow.ensures.most ∙ c.pairs.invariant.most;
      bytes = c.follow.ensures.bytes ∙ c.pairs.invariant.bytes;
      within = let more = at_least g c.pairs.sets c.follow.new.sets c.pairs.pairs c.follow.new.pairs c.pairs.at c.in_ok-follow.ensures.grows lt in omega (arith, more);
      kept = c.in_ok-follow.ensures.kept;
      grows = grows_on g us vs ws c.pairs.invariant.grows c.in_ok-follow.ensures.grows;
      done = followed_on g c.args.sets.now.bytes.items vs ws c.pairs.at c.in_ok-follow.ensures.grows c.pairs.invariant.done
          (let long = length-map c.pairs.pairs.met.keys (pair_sets (met_sets c.pairs.sets)) in omega (arith, lt, long))
          (λ u k b e f. c.in_ok-follow.ensures.done u k b e (ap (λ z. slice_get z.items k) c.pairs.invariant.bytes ∙ f));
    }

pub returns-clause-done : goal.returns-clause-done
returns-clause-done c = λ u k b i f.
    let r = among_get (pairs_met c.pairs.sets c.pairs.pairs) u i in
    let long = length-map c.pairs.pairs.met.keys (pair_sets (met_sets c.pairs.sets)) in
    let less = r.1 in
    c.pairs.invariant.done r.0 (omega (arith, less, long)) u k b r.2 f
