use Rattle.kex_paths.specs.Tasks.{tokens_from}
use Rattle.kex_paths.proofs.Preorders.{IsRead}
use Rattle.kex_paths.proofs.tree.read_tokens.Given as goal

abbrev pub invariant-loop-inner : goal.invariant-loop-inner
invariant-loop-inner l = IsRead l.shape l.leaves (tokens_from l.shape l.leaves) l.tokens.items l.inner-index l.leaf
