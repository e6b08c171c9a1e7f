use Rattle.std.proofs.Common.{take, sym, ap, ap₂, ◌∙◌}
use Rattle.std.proofs.lemmas.List.{take_more}
use Rattle.kex_sst.specs.Series.{series_of, then_update}
use Rattle.kex_sst.proofs.Courses.{series_push}
use Rattle.kex_sst.proofs.series.Series.push_all.Goals as goal

pub loop-update-preserved : goal.loop-update-preserved
loop-update-preserved c =
    let item = c.update-item.result in
    let more = c.args.more.now in
    let i = c.loop-update.update-index in
    c.in_ok-push.ensures
    ∙ ap₂ (λ u v. then_update u v) c.loop-update.invariant (c.in_ok-copy.ensures ∙ c.update-item.is)
    ∙ sym (series_push c.args.self.now (take i more) _)
    ∙ ap (λ z. series_of c.args.self.now z) (sym (take_more more i item c.loop-update-test.true))
