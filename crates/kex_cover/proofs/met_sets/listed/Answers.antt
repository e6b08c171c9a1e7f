use Rattle.std.proofs.Common.{◌+◌, Some, None, sym, subst, ap, ◌∙◌, arith}
use Rattle.std.proofs.lemmas.Option.{slice_get-get_or}
use Rattle.kex_cover.specs.Searches.{AreListedTo}
use Rattle.kex_cover.proofs.SetNumbers.{listed_some, listed_none}
use Rattle.kex_cover.proofs.met_sets.listed.Goals as goal
use Rattle.kex_cover.proofs.met_sets.listed.Goals.{in-Some+in_ok-push, in_default}

pub loop-sample-preserved : goal.loop-sample-preserved
loop-sample-preserved c = elim c.match-sample.branch [
  | in-Some+in_ok-push w ↦ subst (λ z. AreListedTo (c.loop-sample.sample-index + 1) c.args.samples.now z.items) (sym w.bytes-is) (subst (AreListedTo (c.loop-sample.sample-index + 1) c.args.samples.now) (sym w.in_ok-push.ensures.items) (listed_some c.loop-sample.sample-index c.args.samples.now c.loop-sample.bytes.items w.in-Some.byte c.loop-sample.invariant (slice_get-get_or c.args.samples.now c.loop-sample.sample-index None (omega arith) ∙ ap (λ z. Some z) w.in-Some.is)))
  | in_default w ↦ subst (λ z. AreListedTo (c.loop-sample.sample-index + 1) c.args.samples.now z.items) (sym w.bytes-is) (listed_none c.loop-sample.sample-index c.args.samples.now c.loop-sample.bytes.items c.loop-sample.invariant (slice_get-get_or c.args.samples.now c.loop-sample.sample-index None (omega arith) ∙ ap (λ z. Some z) w.in_default.is))
]
