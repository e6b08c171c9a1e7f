use Rattle.std.proofs.Common.{List, All, sym, subst}
use Rattle.std.specs.Prelude.{IfSome}
use Rattle.kex_sst.specs.declared.parts.Part.{Part}
use Rattle.kex_script.specs.Scripts.{Sheet}
use Rattle.kex_runner.specs.Ways.{IsWayStep, IsStepIf, split_in}
use Rattle.kex_runner.proofs.WayLemmas.{step_said}
use Rattle.kex_runner.proofs.ways.known_step.Goals as goal

pub returns : goal.returns
returns c = subst (λ o. IfSome o (λ x. (s : Sheet) (ways : List (List Part)) → All (IsStepIf s ways) c.args.steps.now → IsWayStep s ways c.args.way c.args.update x)) (sym c.split.ensures) (step_said (split_in c.in_ok-kept.field-0) c.args.steps.now c.args.way c.args.update c.in_ok-kept.ensures.step)
