use Rattle.std.proofs.Common.{◌≡◌, ◌++◌, take}
use Rattle.kex_script.specs.Pieces.{code_over}
use Rattle.kex_runner.proofs.spelling.spell.Given as goal

abbrev pub invariant-loop-piece : goal.invariant-loop-piece
invariant-loop-piece l = l.code ≡ l.initial.code ++ code_over l.words (take l.piece-index l.pieces)
