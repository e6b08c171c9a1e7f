use Rattle.kex_moves.proofs.SheetRuns.{same_grows}
use Rattle.kex_moves.proofs.along.learn_at.Goals as goal

pub returns-in-Plain-clause-rows : goal.returns-in-Plain-clause-rows
returns-in-Plain-clause-rows c = same_grows c.args.edges.now

pub returns-in_default-clause-rows : goal.returns-in_default-clause-rows
returns-in_default-clause-rows c = same_grows c.args.edges.now
