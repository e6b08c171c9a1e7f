use Rattle.std.proofs.Common.{◌≡◌, ◌+◌, ◌-◌, ◌∷◌, ◌++◌, [], length, get_or, drop, take, refl, subst, arith}
use Rattle.std.proofs.lemmas.List.{take_rest}
use Rattle.kex_tabfile.specs.Readers.{ReadsBytes}
use Rattle.kex_tabfile.proofs.ReaderSteps.{text_read}
use Rattle.kex_tabfile.proofs.reader.TableReader.take_text.Goals as goal

pub returns-clause-read : goal.returns-clause-read
returns-clause-read c =
    let bytes = c.self.inside.bytes.now in
    let at = c.self.inside.at in
    let line = c.args.line.now in
    let size = c.args.size in
    let left = take (length bytes - at) (drop at bytes) in
    let behind = take (length left - length line) (drop (length line) left) in
    let text = take size behind in
    let to = at + (length line + size + 1) in
    let feed : get_or behind size 0 ≡ 10 = omega (arith, c.if-behind-size-ne10.false) in
    let r = text_read bytes at to size line left behind text (take_rest bytes at) (c.if-not-begins.ensures.yes refl) (take_rest left (length line)) refl c.if-size-behind.false feed refl in
    (r.0, subst (λ z. ReadsBytes z (line ++ (text ++ 10 ∷ [])) (record { before = take to bytes; rest = drop to bytes })) c.self.view_is r.1)
