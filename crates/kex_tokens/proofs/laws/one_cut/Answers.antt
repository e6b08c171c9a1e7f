use Rattle.kex_tokens.proofs.Front.{one_longest}
use Rattle.kex_tokens.proofs.Cuts.{one_cut, one_bad, no_cut_and_bad}
use Rattle.kex_tokens.proofs.laws.one_cut.Goals as goal

pub returns : goal.returns
returns c = record { longest = one_longest; tokens = one_cut; bad = one_bad; either = no_cut_and_bad }
