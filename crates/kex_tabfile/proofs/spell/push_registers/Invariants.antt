use Rattle.std.proofs.Common.{◌≡◌, ◌++◌, take}
use Rattle.kex_tabfile.specs.Lines.{registers_text}
use Rattle.kex_tabfile.proofs.spell.push_registers.Given as goal

abbrev pub invariant-loop-parts : goal.invariant-loop-parts
invariant-loop-parts l = l.line.items ≡ l.fn.line.items ++ registers_text (take l.parts-index l.registers)
