use Rattle.std.proofs.Common.{◌≡◌, ◌∙◌, ◌++◌, ap, subst}
use Rattle.kex_script.specs.Pieces.{word_code}
use Rattle.kex_action.specs.Faults.{AfterFault}
use Rattle.kex_moves.specs.Speech.{RefusesCode}
use Rattle.kex_moves.proofs.StoppedCodes.{stopped_refuses}
use Rattle.kex_moves.proofs.spell.take_word.Goals as goal

pub returns-in-Err-NotACode-clause-refused : goal.returns-in-Err-NotACode-clause-refused
returns-in-Err-NotACode-clause-refused c = λ e.
    let fault = c.in-Err-NotACode in
    let code = word_code c.args.words.now c.args.piece in
    let said : c.deref.result.now ≡ code = c.deref.ensures.value ∙ c.in_ok-spell.ensures {u = tt} ∙ ap (λ z. z ++ code) c.clear.ensures.items in
    let stopped = subst (λ f. AfterFault f c.args.actor.now c.take.new.self c.deref.result.now c.args.out.now.items c.take.new.out.items) fault.field-0-is fault.ensures.err in
    subst (λ z. RefusesCode c.args.actor.now z) said (stopped_refuses fault.field-0-0 c.args.actor.now c.take.new.self c.deref.result.now c.args.out.now.items c.take.new.out.items stopped)
