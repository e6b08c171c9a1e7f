use Rattle.kex_stage.proofs.ActorOutputs.{finishes}
use Rattle.kex_stage.specs.Works.{RefusesNone}
use Rattle.kex_stage.proofs.NoRefusals.{end_none, if_fault}
use Rattle.kex_stage.proofs.oracle.Oracle.finish.Goals as goal

pub returns-clause-finishes : goal.returns-clause-finishes
returns-clause-finishes c =
    finishes c.in_ok-parsed.parsed c.args.self.now c.args.actor.now c.speak.new.actor c.clear.new.self c.end.new.code c.as_slice.result.now c.args.out.now.items c.speak.new.out.items c.clear.ensures c.as_slice.ensures c.in_ok-speak.ensures.machine c.in_ok-parsed.ensures.tells c.in_ok-speak.ensures.took

pub returns-in_err-speak-clause-refuses : goal.returns-in_err-speak-clause-refuses
returns-in_err-speak-clause-refuses c =
    let fault = c.in_err-speak.field-0.0 in
    if_fault c.from_residual-in_err-speak.result fault (λ e. RefusesNone c.args.self.now c.args.actor.now e) c.from_residual-in_err-speak.ensures.1
    (end_none c.in_ok-parsed.parsed c.args.self.now c.args.actor.now c.clear.new.self c.end.new.code c.as_slice.result.now fault c.clear.ensures c.as_slice.ensures c.in_ok-parsed.ensures.tells c.in_err-speak.ensures.refused)
