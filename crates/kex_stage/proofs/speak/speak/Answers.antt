use Rattle.std.proofs.Common.{subst}
use Rattle.kex_action.specs.Faults.{AfterFault}
use Rattle.kex_moves.proofs.StoppedCodes.{stopped_refuses}
use Rattle.kex_stage.proofs.speak.speak.Goals as goal

pub returns-in-Err-NotACode-clause-refused : goal.returns-in-Err-NotACode-clause-refused
returns-in-Err-NotACode-clause-refused c = λ e.
    let fault = c.in-Err-NotACode in
    let old = c.args.actor.now in
    let new = c.take.new.self in
    let symbols = c.args.symbols.now in
    let x = c.args.out.now.items in
    let y = c.take.new.out.items in
    stopped_refuses fault.field-0-0 old new symbols x y (subst (λ f. AfterFault f old new symbols x y) fault.field-0-is fault.ensures.err)
