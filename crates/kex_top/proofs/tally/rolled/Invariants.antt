use Rattle.std.proofs.Common.{◌≡◌, ◌<◌, ◌^◌, take}
use Rattle.kex_top.specs.Trials.{rolling_sum}
use Rattle.kex_top.proofs.tally.rolled.Given as goal

abbrev pub invariant-bytes : goal.invariant-bytes
invariant-bytes l = record {
  fits : l.sum < 2 ^ 32;
  value : l.sum ≡ rolling_sum l.start (take l.byte-index l.bytes);
}
