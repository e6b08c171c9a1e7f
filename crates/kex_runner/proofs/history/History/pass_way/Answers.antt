use Rattle.std.proofs.Common.{◌≡◌, ◌++◌, reverse, take, ap, ◌∙◌}
use Rattle.std.proofs.lemmas.List.{reverse-reverse}
use Rattle.std.proofs.lemmas.Result.{on_ok_weaker}
use Rattle.kex_sst.specs.Parts.{parts_code}
use Rattle.kex_script.specs.Pieces.{code_over}
use Rattle.kex_runner.specs.Noting.{registers_after, settled_of, spelled_back, updates_of}
use Rattle.kex_runner.proofs.Pieces.{spelled-append}
use Rattle.kex_runner.proofs.history.History.pass_way.Goals as goal

pub returns : goal.returns
returns c =
    let s = c.args.self.now.script.now in
    let old = c.args.pieces.now.items in
    let way = parts_code (registers_after (settled_of s c.args.self.now.base.now) (take c.args.after (updates_of s c.args.self.now.notes.now))) 0 c.args.way.now in
    let said : c.reverse.new.self.items ≡ reverse c.args.said.now = c.reverse.ensures.items ∙ ap (λ z. reverse z) (c.in_ok-extend_from_slice.ensures.items ∙ ap (λ z. z ++ c.args.said.now) c.clear.ensures.items) in
    on_ok_weaker c.hand_on.result (λ e. ap (λ z. code_over s.words z) e ∙ spelled-append s.words old (reverse c.read_way.new.reading.back.items) ∙ ap (λ z. code_over s.words old ++ z) (c.in_ok-read_way.ensures ∙ ap (λ z. way ++ spelled_back s.words z) said ∙ ap (λ z. way ++ code_over s.words z) (reverse-reverse c.args.said.now))) c.hand_on.ensures
