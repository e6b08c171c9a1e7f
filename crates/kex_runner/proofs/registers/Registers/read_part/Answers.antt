use Rattle.std.proofs.Common.{◌++◌, [], get_or, sym, ap, ap₂, ◌∙◌}
use Rattle.kex_sst.specs.Parts.{value}
use Rattle.kex_runner.specs.Noting.{contents, noted_by, spelled_back}
use Rattle.kex_runner.proofs.Pieces.{spelled_back-append}
use Rattle.kex_runner.proofs.registers.Registers.read_part.Goals as goal

pub returns-in_ok-extend_from_slice-in-Old-clause-read : goal.returns-in_ok-extend_from_slice-in-Old-clause-read
returns-in_ok-extend_from_slice-in-Old-clause-read c =
    let s = c.args.script.now in
    let back = c.args.back.now.items in
    ap (λ z. spelled_back s.words z) c.in_ok-extend_from_slice-in-Old.ensures.items
    ∙ spelled_back-append s.words back c.deref-in-Old-2.result.now
    ∙ ap (λ z. z ++ spelled_back s.words back)
    (ap (λ z. spelled_back s.words z) c.deref-in-Old-2.ensures.value
    ∙ c.in_ok-read_register-in-Old.ensures
    ∙ ap₂ (λ y z. get_or (noted_by s y z) c.in-Old.register []) c.deref.ensures.value c.deref-in-Old.ensures.value
    ∙ ap (λ z. value (contents s c.args.self.now) 0 z) (sym c.in-Old.is))
