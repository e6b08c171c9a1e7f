use Rattle.kex_sst.proofs.Courses as lemmas
use Rattle.kex_sst.proofs.summaries.join.Goals as goal

pub returns : goal.returns
returns c = record { determined = lemmas.determined; associative = lemmas.associative }
