use Rattle.std.proofs.Common.{◌≡◌, ◌++◌, take}
use Rattle.kex_code.specs.Texts.{text_of}
use Rattle.kex_script.specs.Pieces.{code_over}
use Rattle.kex_single.proofs.table_codes.write_pieces.Given as goal

abbrev pub invariant-loop-piece : goal.invariant-loop-piece
invariant-loop-piece l = l.out.items ≡ l.fn.out.items ++ text_of (code_over l.words (take l.piece-index l.pieces))
