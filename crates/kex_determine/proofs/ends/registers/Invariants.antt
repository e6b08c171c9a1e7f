use Rattle.std.proofs.Common.{◌≡◌, map, take}
use Rattle.kex_sst.specs.declared.parts.Part.TheVariants.{Old}
use Rattle.kex_determine.proofs.ends.registers.Given as goal

abbrev pub invariant-loop-number : goal.invariant-loop-number
invariant-loop-number l = l.parts ≡ map (λ i. Old i) (take l.number-index l.numbers)
