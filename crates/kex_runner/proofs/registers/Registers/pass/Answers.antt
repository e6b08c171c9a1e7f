use Rattle.std.proofs.Common.{◌++◌, ap, ap₂, ◌∙◌}
use Rattle.std.proofs.lemmas.Result.{on_ok_weaker}
use Rattle.kex_sst.specs.Parts.{parts_code}
use Rattle.kex_script.specs.Pieces.{code_over}
use Rattle.kex_script.specs.Scripts.{list_at}
use Rattle.kex_runner.specs.Noting.{contents, noted_by}
use Rattle.kex_runner.proofs.registers.Registers.pass.Goals as goal

pub returns-clause-pieces : goal.returns-clause-pieces
returns-clause-pieces c =
    let s = c.args.script.now in
    let old = code_over s.words c.args.pieces.now.items in
    let list = list_at s c.passed-list.result in
    on_ok_weaker c.pass_list.result (λ e. e ∙ ap (λ z. old ++ z) (ap₂ (λ y z. parts_code (noted_by s y z) c.args.byte list) c.deref.ensures.value c.deref-2.ensures.value ∙ ap (λ z. parts_code (contents s c.args.self.now) c.args.byte z) c.passed-list.ensures)) c.pass_list.ensures.passed
