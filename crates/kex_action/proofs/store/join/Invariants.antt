use Rattle.std.proofs.Common.{◌≡◌, ◌++◌, take}
use Rattle.kex_code.specs.Registers.{pieces_text}
use Rattle.kex_action.proofs.store.join.Given as goal

abbrev pub invariant-loop-piece : goal.invariant-loop-piece
invariant-loop-piece l = l.into ≡ l.initial.into ++ pieces_text (take l.piece-index l.pieces) l.registers
