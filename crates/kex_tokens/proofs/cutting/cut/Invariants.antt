use Rattle.std.proofs.Common.{length, ◌-◌}
use Rattle.kex_tokens.proofs.Cuts.{IsCutTo}
use Rattle.kex_tokens.proofs.cutting.cut.Given as goal

abbrev pub invariant-loop-at : goal.invariant-loop-at
invariant-loop-at l = IsCutTo l.text l.at l.tokens.items

abbrev pub decreases-loop-at : goal.decreases-loop-at
decreases-loop-at l = length l.text - l.at
