use Rattle.std.proofs.Common.{length, subst, arith}
use Rattle.std.proofs.lemmas.Option.{slice_get_within}
use Rattle.kex_cover.specs.Searches.{HaveRoom}
use Rattle.kex_cover.proofs.SetNumbers.{none_met}
use Rattle.kex_cover.proofs.met_sets.MetSets.new.Goals as goal

pub returns : goal.returns
returns c = none_met c.args.machine.now _ (subst (λ z. HaveRoom (length z) c.in_ok-rows.rows) c.nodes.ensures.same c.in_ok-rows.ensures)
    (record {
      classes = c.partition.result.now;
      has = c.partition.ensures;
      samples = c.samples_of-samples.result;
      are = c.samples_of-samples.ensures;
      listed = λ k b e. let lt = slice_get_within c.samples_of-samples.result k _ e in c.in_ok-bytes.ensures k b (let long = c.samples_of-samples.ensures.long in omega (arith, lt, long)) e;
    })
    c.new-2.ensures.empty c.new-3.ensures.items
