use Rattle.std.proofs.Common.{◌≡◌, length}
use Rattle.kex_chunks.proofs.feeding.summaries_of.Given as goal

abbrev pub invariant-parts : goal.invariant-parts
invariant-parts g l = length l.all.items ≡ l._part
