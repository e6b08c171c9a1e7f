use Rattle.std.proofs.Common.{◌∙◌}
use Rattle.kex_stage.proofs.ByPaths as by_paths
use Rattle.kex_stage.proofs.ByTable as by_table
use Rattle.kex_stage.proofs.oracle.Oracle.new.Goals as goal

pub returns-in_ok-follower-in-Some-clause-good : goal.returns-in_ok-follower-in-Some-clause-good
returns-in_ok-follower-in-Some-clause-good c = by_table.begins_good c.args.plan.now.telling c.args.plan.now.machine c.in-Some.route c.machine-machine.ensures.trimmed c.in-Some.ensures

pub returns-in_ok-frontier-in-None-clause-good : goal.returns-in_ok-frontier-in-None-clause-good
returns-in_ok-frontier-in-None-clause-good c = by_paths.begins_good c.in_ok-frontier-in-None.frontier c.args.plan.now.machine (c.in_ok-frontier-in-None.ensures.machine ∙ c.machine-machine.ensures.same) c.in_ok-frontier-in-None.ensures.begins
