use Rattle.std.proofs.Common.{◌≡◌, take}
use Rattle.kex_constants.specs.Clearing.{cleared_parts}
use Rattle.kex_constants.proofs.rewrite.replace.Given as goal

abbrev pub invariant-loop-part : goal.invariant-loop-part
invariant-loop-part l = l.list ≡ cleared_parts l.known (take l.part-index l.part-items)
