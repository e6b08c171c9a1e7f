use Rattle.std.proofs.Common.{take, ap, subst}
use Rattle.kex_runner.specs.Quiet.{GoesQuietly}
use Rattle.kex_runner.proofs.runner.Runner.glance.Goals as goal

pub returns-clause-quiet : goal.returns-clause-quiet
returns-clause-quiet c =
    let seen = c.glance.result in
    subst (λ z. GoesQuietly z c.args.state seen.state (take seen.count c.args.piece.now)) (ap (λ z. z.table) c.self.view_is) c.glance.ensures.quiet
