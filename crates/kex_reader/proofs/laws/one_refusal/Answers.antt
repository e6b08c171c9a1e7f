use Rattle.kex_reader.proofs.Exact as exact
use Rattle.kex_reader.proofs.laws.one_refusal.Goals as goal

pub returns-clause-refusal : goal.returns-clause-refusal
returns-clause-refusal c = λ text. exact.one_refusal text (c.one_cut.ensures.tokens text) (c.one_cut.ensures.bad text) (c.one_cut.ensures.either text)

pub returns-clause-either : goal.returns-clause-either
returns-clause-either c = λ text. exact.not_refused text (c.one_cut.ensures.tokens text) (c.one_cut.ensures.bad text) (c.one_cut.ensures.either text)
