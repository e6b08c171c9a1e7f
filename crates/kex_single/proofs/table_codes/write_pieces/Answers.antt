use Rattle.std.proofs.Common.{[], ◌+◌, get_or, refl, take, ◌∙◌}
use Rattle.kex_script.specs.Pieces.{code_over, word_code}
use Rattle.kex_script.specs.declared.piece.ByteWord.{ByteWord}
use Rattle.kex_runner.proofs.Pieces.{spelled_more}
use Rattle.kex_single.proofs.TableCodes.{text_on}
use Rattle.kex_single.proofs.table_codes.write_pieces.Goals as goal

pub loop-piece-preserved : goal.loop-piece-preserved
loop-piece-preserved c =
    let i = c.loop-piece.piece-index in
    let words = c.args.words.now in
    let pieces = c.args.pieces.now in
    let none : ByteWord = record { word = 0; byte = 0 } in
    c.in_ok-write_piece.ensures ∙ text_on c.args.out.now.items c.loop-piece.out.items (code_over words (take i pieces)) (word_code words (get_or pieces i none)) (code_over words (take (i + 1) pieces)) c.loop-piece.invariant (spelled_more words pieces i none [] (code_over words (take i pieces)) c.loop-piece-test.true refl)
