use Rattle.kex_stage.specs.declared.oracle.Oracle.TheVariants.{Paths}
use Rattle.kex_stage.proofs.ActorOutputs.{works}
use Rattle.kex_stage.specs.Works.{RefusesNone}
use Rattle.kex_stage.proofs.NoRefusals.{if_fault, told_none}
use Rattle.kex_stage.proofs.paths.Paths.go_on.Goals as goal

pub returns-clause-works : goal.returns-clause-works
returns-clause-works c =
    works (Paths c.args.self.now) (Paths c.hear.new.self) c.args.actor.now c.speak.new.actor c.args.piece.now c.in_ok-count.count c.clear.new.self c.hear.new.code c.as_slice.result.now c.args.out.now.items c.speak.new.out.items c.clear.ensures c.as_slice.ensures c.in_ok-speak.ensures.machine c.in_ok-count.ensures.tells c.in_ok-speak.ensures.took

pub returns-in_err-speak-clause-refuses : goal.returns-in_err-speak-clause-refuses
returns-in_err-speak-clause-refuses c =
    let fault = c.in_err-speak.field-0.0 in
    if_fault c.from_residual-in_err-speak.result fault (λ e. RefusesNone (Paths c.args.self.now) c.args.actor.now e) c.from_residual-in_err-speak.ensures.1
    (told_none (Paths c.args.self.now) (Paths c.hear.new.self) c.args.actor.now c.args.piece.now c.in_ok-count.count c.clear.new.self c.hear.new.code c.as_slice.result.now fault c.clear.ensures c.as_slice.ensures c.in_ok-count.ensures.tells c.in_err-speak.ensures.refused)
