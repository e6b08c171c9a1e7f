use Rattle.std.proofs.Common.{◌≡◌, map, take}
use Rattle.kex_paths.specs.Spellings.{token_number}
use Rattle.kex_paths.proofs.tree.PathTree.key.Given as goal

abbrev pub invariant-loop-token : goal.invariant-loop-token
invariant-loop-token l = l.key.items ≡ map token_number (take l.token-index l.token-items)
