use Rattle.std.proofs.Common.{◌≡◌, ◌++◌, length, take}
use Rattle.kex_sst.specs.Parts.{Change, parts_code}
use Rattle.kex_sst.specs.Series.{series_of}
use Rattle.kex_runner.specs.Noting.{contents, next_registers}
use Rattle.kex_runner.proofs.registers.Registers.take_series.Given as goal

abbrev pub invariant-more : goal.invariant-more
invariant-more l =
    (first : Change) × (l.series ≡ series_of first l.more)
    × (l.code ≡ l.fn.code ++ parts_code (contents l.script l.fn.self) 0 (series_of first (take l.update-index l.more)).out)
    × (contents l.script l.made ≡ next_registers (series_of first (take l.update-index l.more)) 0 (contents l.script l.fn.self))
    × (l.made.count ≡ length (contents l.script l.made))
