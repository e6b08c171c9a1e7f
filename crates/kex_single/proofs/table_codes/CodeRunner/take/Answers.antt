use Rattle.std.proofs.Common.{take, ap₂, ◌∙◌, ◌++◌}
use Rattle.kex_code.specs.Texts.{text_of}
use Rattle.kex_script.specs.Pieces.{code_over}
use Rattle.kex_single.proofs.TableCodes.{writes_once}
use Rattle.kex_single.proofs.table_codes.CodeRunner.take.Goals as goal

pub returns-clause-fed : goal.returns-clause-fed
returns-clause-fed c =
    let h = c.in_ok-held in
    writes_once h.held.fed c.args.self.now.runner c.hold.new.self (take h.held.taken c.args.piece.now) c.args.out.now.items c.write_pieces.new.out.items _ h.ensures.fed
    (c.in_ok-write_pieces.ensures ∙ ap₂ (λ words pieces. c.args.out.now.items ++ text_of (code_over words pieces)) (c.words.ensures ∙ h.ensures.words) c.deref.ensures.value)
