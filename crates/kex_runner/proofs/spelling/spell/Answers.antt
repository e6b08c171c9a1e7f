use Rattle.std.proofs.Common.{◌∙◌}
use Rattle.kex_runner.proofs.Pieces.{spelled_more}
use Rattle.kex_runner.proofs.spelling.spell.Goals as goal

pub loop-piece-preserved : goal.loop-piece-preserved
loop-piece-preserved c = c.in_ok-spell_piece.ensures ∙ spelled_more c.args.words.now c.args.pieces.now c.loop-piece.piece-index (record { word = 0; byte = 0 }) c.args.code.now c.loop-piece.code c.loop-piece-test.true c.loop-piece.invariant
