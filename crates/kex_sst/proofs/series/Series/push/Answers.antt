use Rattle.std.proofs.Common.{ap, ◌∙◌}
use Rattle.kex_sst.specs.Series.{series_of, then_update}
use Rattle.kex_sst.proofs.Courses.{series_push}
use Rattle.kex_sst.proofs.series.Series.push.Goals as goal

pub returns : goal.returns
returns c =
    ap (λ z. series_of c.self.inside.first z) c.in_ok-push.ensures.items
    ∙ series_push c.self.inside.first c.self.inside.more.items c.args.next
    ∙ ap (λ z. then_update z c.args.next) c.self.view_is
