use Rattle.std.proofs.Common.{subst}
use Rattle.std.proofs.lemmas.List.{take_all}
use Rattle.kex_runner.specs.Quiet.{GoesQuietly}
use Rattle.kex_stage.proofs.follower.Follower.glance.Goals as goal

pub returns : goal.returns
returns c =
    let seen = c.glance-seen.result in
    subst (λ l. GoesQuietly c.args.self.now.runner.table c.args.state seen.state l) (take_all seen.count c.args.piece.now c.if-seen-piece.false) c.glance-seen.ensures.quiet
