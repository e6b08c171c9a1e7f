use Rattle.std.proofs.Common.{◌<◌, ◌∙◌, sym, ap, [], get_or, length}
use Rattle.std.proofs.lemmas.Bool.{ltb-true}
use Rattle.kex_code.specs.Registers.{content_of}
use Rattle.kex_action.proofs.Buffers.{get_or-any}
use Rattle.kex_action.proofs.Sheets.{wrote_register}
use Rattle.kex_action.proofs.store.Store.write_on.Goals as goal

pub returns-in-Some-clause-did : goal.returns-in-Some-clause-did
returns-in-Some-clause-did c = λ t out.
    let all = c.deref.result.now in
    let has = c.in-Some.register.now in
    let within : c.args.r < length all = ltb-true c.args.r (length all) (sym c.in-Some.ensures.lookup.0) in
    let holds = c.in-Some.ensures.lookup.1 ∙ get_or-any all c.args.r has [] within ∙ ap (λ l. get_or l c.args.r []) c.deref.ensures.value ∙ ap (λ h. content_of h.registers c.args.r) c.self.view_is in
    wrote_register c.args.sheet.now c.write_buffer.new.self has out c.args.r c.args.self.now c.requires (c.write_buffer.ensures.written t) holds
