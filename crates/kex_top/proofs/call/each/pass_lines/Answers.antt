use Rattle.std.proofs.Common.{◌++◌, List, ℕ, ap, ◌∙◌}
use Rattle.std.specs.List.{concat}
use Rattle.std.proofs.lemmas.Result.{err_from_is_err_and}
use Rattle.kex_ports.proofs.Known.{appends-nothing, appends-same, front-same}
use Rattle.kex_top.proofs.call.each.pass_lines.Goals as goal

pub returns-in_err-read-clause-passes : goal.returns-in_err-read-clause-passes
returns-in_err-read-clause-passes g c =
    let r = err_from_is_err_and c.from_residual.result c.from_residual.ensures.1 in
    rw (r.1, r.2) (λ w was. appends-nothing _)

pub returns-in_err-write_all-clause-passes : goal.returns-in_err-write_all-clause-passes
returns-in_err-write_all-clause-passes g c =
    let r = err_from_is_err_and c.from_residual-in_err-write_all.result c.from_residual-in_err-write_all.ensures.1 in
    rw (r.1, r.2) (λ w was.
    let x = c.in_ok-read.ensures.answers w was in
    record {
      texts = x.texts;
      answers = x.answers;
      appended = front-same _ _ _ _ (c.deref.ensures.value ∙ x.written ∙ ap (λ (z : List ℕ). z ++ concat x.texts) c.clear.ensures.items) c.in_err-write_all.ensures.failed;
    })

pub returns-clause-passes : goal.returns-clause-passes
returns-clause-passes g c = λ w was.
    let x = c.in_ok-read.ensures.answers w was in
    record {
      texts = x.texts;
      answers = x.answers;
      appended = appends-same _ _ _ _ (c.deref.ensures.value ∙ x.written ∙ ap (λ (z : List ℕ). z ++ concat x.texts) c.clear.ensures.items) c.in_ok-write_all.ensures.written;
    }
