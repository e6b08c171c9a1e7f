use Rattle.std.proofs.Common.{◌≡◌, ◌++◌, take}
use Rattle.kex_code.specs.Texts.{text_of}
use Rattle.kex_code.proofs.text.write_text.Given as goal

abbrev pub invariant-loop-symbol : goal.invariant-loop-symbol
invariant-loop-symbol l = l.out.items ≡ l.fn.out.items ++ text_of (take l.symbol-index l.symbols)
