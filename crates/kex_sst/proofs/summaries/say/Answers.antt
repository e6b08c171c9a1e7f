use Rattle.kex_sst.proofs.Courses as lemmas
use Rattle.kex_sst.proofs.summaries.say.Goals as goal

pub returns : goal.returns
returns c = lemmas.says
