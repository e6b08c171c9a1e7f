use Rattle.std.proofs.Common.{◌+◌, length, drop, take, refl, subst}
use Rattle.std.proofs.lemmas.List.{take_rest}
use Rattle.kex_tabfile.specs.Readers.{ReadsBytes}
use Rattle.kex_tabfile.proofs.ReaderSteps.{line_read}
use Rattle.kex_tabfile.proofs.reader.TableReader.take.Goals as goal

pub returns-clause-read : goal.returns-clause-read
returns-clause-read c =
    let bytes = c.self.inside.bytes.now in
    let at = c.self.inside.at in
    subst (λ z. ReadsBytes z c.args.line.now (record { before = take (at + length c.args.line.now) bytes; rest = drop (at + length c.args.line.now) bytes })) c.self.view_is
    (line_read bytes at c.args.line.now _ _ (take_rest bytes at) (c.if-not-begins.ensures.yes refl))
