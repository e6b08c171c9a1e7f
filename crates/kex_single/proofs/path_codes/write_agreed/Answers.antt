use Rattle.std.proofs.Common.{◌++◌, subst}
use Rattle.kex_machine.specs.Answers.{IsSaid}
use Rattle.kex_frontier.specs.Frontiers.{IsFed}
use Rattle.kex_single.proofs.path_codes.write_agreed.Goals as goal

pub returns-clause-fed : goal.returns-clause-fed
returns-clause-fed c = λ w d h. subst (λ z. IsFed c.take_code-code.new.self w (d ++ z) × IsSaid c.args.oracle.now.machine w (d ++ z)) c.take_code-code.ensures.value (c.take_code-code.ensures.fed w d h)
