use Rattle.std.proofs.Common.{◌≤◌, ◌∷◌, length, take}
use Rattle.kex_code.specs.Prefixes.{IsCommonLength}
use Rattle.kex_code.proofs.prefix.lcp.Given as goal

abbrev pub invariant-loop-code : goal.invariant-loop-code
invariant-loop-code l = record {
  within : l.agreed ≤ length l.first;
  so_far : IsCommonLength (l.first ∷ take l.code-index l.codes) l.agreed;
}
