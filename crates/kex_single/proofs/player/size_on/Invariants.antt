use Rattle.std.proofs.Common.{◌≡◌, ◌+◌, ◌-◌, ◌^◌, length, min, take}
use Rattle.kex_code.specs.Texts.{text_of}
use Rattle.kex_single.proofs.player.size_on.Given as goal

abbrev pub invariant-loop-symbol : goal.invariant-loop-symbol
invariant-loop-symbol l = l.total ≡ min (l.count + length (text_of (take l.symbol-index l.symbols))) (2 ^ 64 - 1)
