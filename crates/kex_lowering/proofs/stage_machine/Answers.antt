use Rattle.kex_lowering.specs.Refusals.{of_trim}
use Rattle.kex_lowering.specs.Stages.{IsWhy}
use Rattle.kex_lowering.proofs.PairedNodes.{carries}
use Rattle.kex_lowering.proofs.Causes.{why, if_err}
use Rattle.kex_lowering.proofs.stage_machine.Goals as goal

pub returns-in_err-trimmed-clause-refused : goal.returns-in_err-trimmed-clause-refused
returns-in_err-trimmed-clause-refused c =
    let e = c.in_err-trimmed.field-0.0 in
    let made = c.in_ok-machine.ensures in
    if_err c.from_residual-in_err-trimmed.result (of_trim e) (λ x. IsWhy c.args.program.now c.args.root c.args.max_places x) c.from_residual-in_err-trimmed.ensures.1 (why c.args.program.now c.args.root c.args.max_places c.in_ok-machine.machine e made.machine made.fits c.in_err-trimmed.ensures.refused)

pub returns-clause-carries : goal.returns-clause-carries
returns-clause-carries c = carries c.args.program.now c.args.root c.in_ok-machine.machine c.in_ok-trimmed.trimmed c.in_ok-machine.ensures.machine c.in_ok-trimmed.ensures.trimmed

pub returns-clause-kept : goal.returns-clause-kept
returns-clause-kept c = record { whole = c.in_ok-machine.machine; of_places = c.in_ok-machine.ensures.machine; trimmed = c.in_ok-trimmed.ensures.trimmed }
