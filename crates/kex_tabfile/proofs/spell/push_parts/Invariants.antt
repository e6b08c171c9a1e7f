use Rattle.std.proofs.Common.{◌≡◌, ◌++◌, take}
use Rattle.kex_tabfile.specs.Lines.{parts_text}
use Rattle.kex_tabfile.proofs.spell.push_parts.Given as goal

abbrev pub invariant-loop-part : goal.invariant-loop-part
invariant-loop-part l = l.line.items ≡ l.fn.line.items ++ parts_text (take l.part-index l.parts)
