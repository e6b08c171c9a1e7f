use Rattle.std.proofs.Common.{◌++◌, reverse, ap, ◌∙◌}
use Rattle.std.proofs.lemmas.Result.{on_ok_weaker}
use Rattle.kex_script.specs.Pieces.{code_over}
use Rattle.kex_runner.proofs.Pieces.{spelled-append}
use Rattle.kex_runner.proofs.history.History.pass_read.Goals as goal

pub returns : goal.returns
returns c =
    let s = c.args.self.now.script.now in
    let old = c.args.pieces.now.items in
    on_ok_weaker c.hand_on.result (λ e. ap (λ z. code_over s.words z) e ∙ spelled-append s.words old (reverse c.read_list.new.reading.back.items) ∙ ap (λ z. code_over s.words old ++ z) c.in_ok-read_list.ensures) c.hand_on.ensures
