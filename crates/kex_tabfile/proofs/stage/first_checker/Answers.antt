use Rattle.kex_tabfile.proofs.StageSteps.{start_known}
use Rattle.kex_tabfile.proofs.stage.first_checker.Goals as goal

pub returns-clause-targets : goal.returns-clause-targets
returns-clause-targets c = λ s is. start_known c.args.machine.now c.new-targets.result c.meet.new.self c.args.tree c.in_ok-meet.field-0 s c.new-targets.ensures c.in_ok-meet.ensures.yes c.in_ok-meet.ensures.no c.requires is
