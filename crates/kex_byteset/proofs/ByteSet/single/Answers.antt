use Rattle.std.proofs.Common.{arith, ap}
use Rattle.std.specs.Prelude.{◌==◌, ◌||◌}
use Rattle.kex_byteset.proofs.Flags.{one_set, in_words, same_set}
use Rattle.kex_byteset.proofs.ByteSet.single.Goals as goal

pub returns-clause-flags : goal.returns-clause-flags
returns-clause-flags c =
    let byte = c.args.byte in
    same_set _ _ (λ b. b == byte)
    (in_words _ _ (λ b. b == byte) c.insert.ensures (λ b lt. ap (λ x. x || (b == byte)) (c.empty-one.ensures.bytes b lt)))
    (one_set byte (omega (arith, c.ranges.byte.fits)))
