use Rattle.std.proofs.Common.{◌≡◌, ◌++◌, [], take}
use Rattle.kex_sst.specs.Parts.{parts_code}
use Rattle.kex_moves.proofs.spell.spell.Given as goal

abbrev pub invariant-loop-part : goal.invariant-loop-part
invariant-loop-part l = l.symbols.items ≡ l.fn.symbols.items ++ parts_code [] l.piece.byte (take l.part-index l.part-items)
