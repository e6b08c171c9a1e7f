use Rattle.std.proofs.Common.{◌≡◌, take}
use Rattle.kex_sst.specs.Series.{series_of}
use Rattle.kex_sst.proofs.series.Series.push_all.Given as goal

abbrev pub invariant-loop-update : goal.invariant-loop-update
invariant-loop-update l = l.self ≡ series_of l.initial.self (take l.update-index l.more)
