use Rattle.std.proofs.Common.{◌∙◌, ◌++◌, ◌-◌, length, take, drop, sym, ap}
use Rattle.std.proofs.lemmas.List.{take_rest, take-append-drop}
use Rattle.kex_action.specs.Deeds.{after_deeds}
use Rattle.kex_action.specs.Sheets.{state_with}
use Rattle.kex_action.proofs.Deeds.{deeds-append}
use Rattle.kex_action.proofs.Sheets.{blank_state}
use Rattle.kex_moves.proofs.along.act.Goals as goal

pub returns-in_ok-act_rest-clause-did : goal.returns-in_ok-act_rest-clause-did
returns-in_ok-act_rest-clause-did c =
    let deeds = c.acts_of-deeds.result.now in
    let n = c.in_ok-count.count in
    let rest = take (length deeds - n) (drop n deeds) in
    let first = c.in_ok-count.ensures {u = tt} in
    let then = c.in_ok-act_rest.ensures {u = tt} in
    let nodes = c.args.actor.now.machine.nodes in
    let out = c.args.out.now.items in
    let z = state_with c.args.sheet.now out c.args.actor.now.holding in
    blank_state c.act_rest.new.sheet c.act_rest.new.out.items c.act_rest.new.actor.holding then.none
    ∙ then.did
    ∙ ap (λ g. after_deeds g.nodes c.args.byte rest (state_with c.act_on.new.sheet out c.act_on.new.self.holding)) first.same.0
    ∙ ap (after_deeds nodes c.args.byte rest) (first.did out)
    ∙ sym (deeds-append nodes c.args.byte (take n deeds) rest z)
    ∙ ap (λ l. after_deeds nodes c.args.byte l z) (ap (λ l. take n deeds ++ l) (take_rest deeds n) ∙ take-append-drop n deeds ∙ c.acts_of-deeds.ensures)
