use Rattle.std.proofs.Common.{◌≡◌, sym, ap, ap₂, ◌∙◌}
use Rattle.kex_sst.specs.Series.{series_of, then_update}
use Rattle.kex_sst.proofs.Courses.{series_then}
use Rattle.kex_sst.proofs.series.Series.then.Goals as goal

pub returns : goal.returns
returns c =
    let front : c.push_all.new.self ≡ c.args.self.now =
    c.in_ok-push_all.ensures
    ∙ ap₂ (λ u v. series_of u v) (c.new-all.ensures ∙ c.in_ok-copy.ensures) c.deref.ensures.value
    ∙ c.self.view_is in
    c.in_ok-push_all-2.ensures
    ∙ ap (λ z. series_of z c.updates.result.1.now) (c.in_ok-push.ensures ∙ ap₂ (λ u v. then_update u v) front c.in_ok-copy-2.ensures)
    ∙ series_then c.args.self.now c.updates.result.0.now c.updates.result.1.now
    ∙ ap (λ z. then_update c.args.self.now z) (sym c.updates.ensures)
