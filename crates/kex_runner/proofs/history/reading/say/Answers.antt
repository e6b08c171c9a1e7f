use Rattle.std.proofs.Common.{[], Some, ◌++◌, ap, subst, ◌∙◌}
use Rattle.std.proofs.lemmas.Option.{get_or_from_slice_get}
use Rattle.kex_sst.specs.Parts.{parts_code}
use Rattle.kex_script.specs.Scripts.{IsWord}
use Rattle.kex_runner.specs.Noting.{spelled_back}
use Rattle.kex_runner.proofs.Pieces.{spelled_back_more}
use Rattle.kex_runner.proofs.history.reading.say.Goals as goal

pub returns-in_ok-push-in-Some : goal.returns-in_ok-push-in-Some
returns-in_ok-push-in-Some c = λ words w is.
    let at : IsWord words (Some c.in-Some.word) w = subst (λ z. IsWord words z w) c.in-Some.is is in
    ap (λ z. spelled_back words z) c.in_ok-push-in-Some.ensures.items
    ∙ spelled_back_more words c.args.back.now.items (record { word = c.in-Some.word; byte = c.args.byte })
    ∙ ap (λ z. parts_code [] c.args.byte z ++ spelled_back words c.args.back.now.items) (get_or_from_slice_get words c.in-Some.word w [] at)
