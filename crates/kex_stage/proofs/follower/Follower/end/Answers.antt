use Rattle.std.proofs.Common.{subst}
use Rattle.kex_runner.specs.Running.{RunnerEnds}
use Rattle.kex_stage.proofs.ByTable.{table_ends, table_cut}
use Rattle.kex_stage.proofs.follower.Follower.end.Goals as goal

pub returns-in-Parsed-clause-tells : goal.returns-in-Parsed-clause-tells
returns-in-Parsed-clause-tells c = table_ends c.args.self.now c.args.code.now c.end.new.code (subst (λ z. RunnerEnds z c.args.self.now.runner c.args.code.now c.end.new.code) c.in-Parsed.is c.in_ok-end.ensures.over)

pub returns-in-Cut-clause-tells : goal.returns-in-Cut-clause-tells
returns-in-Cut-clause-tells c = table_cut c.args.self.now c.args.code.now c.end.new.code (subst (λ z. RunnerEnds z c.args.self.now.runner c.args.code.now c.end.new.code) c.in-Cut.is c.in_ok-end.ensures.over)
