use Rattle.std.proofs.Common.{◌∙◌, sym, ap}
use Rattle.kex_model.specs.Acting.{after_effect}
use Rattle.kex_machine.specs.Nodes.{effect_of}
use Rattle.kex_action.specs.Holdings.{with_bytes}
use Rattle.kex_action.specs.Sheets.{state_with}
use Rattle.kex_action.proofs.Sheets.{wrote, sets, joins}
use Rattle.kex_model.specs.Moves.{set_to, add_to}
use Rattle.kex_action.proofs.store.Store.perform_on.Goals as goal

pub returns-in-Lit-clause-did : goal.returns-in-Lit-clause-did
returns-in-Lit-clause-did c = λ t out. let z = state_with c.args.sheet.now out c.args.self.now in wrote c.args.sheet.now c.write.new.self c.as_slice.result.now out c.args.self.now c.requires.sheet (c.write.ensures.written t) ∙ ap (λ b. with_bytes b z) c.as_slice.ensures ∙ sym (ap (λ e. after_effect (effect_of e) z) c.in-Lit.is)

pub returns-in_ok-set-in-Set-clause-did : goal.returns-in_ok-set-in-Set-clause-did
returns-in_ok-set-in-Set-clause-did c = λ t out. let z = state_with c.args.sheet.now out c.args.self.now in sets c.args.sheet.now out c.args.self.now c.set.new.self c.in-Set.r c.as_slice-in-Set.result.now (c.in_ok-set-in-Set.ensures {u = tt}) ∙ ap (λ ps. after_effect (set_to c.in-Set.r ps) z) c.as_slice-in-Set.ensures ∙ sym (ap (λ e. after_effect (effect_of e) z) c.in-Set.is)

pub returns-in_ok-add-in-Add-clause-did : goal.returns-in_ok-add-in-Add-clause-did
returns-in_ok-add-in-Add-clause-did c = λ t out. let z = state_with c.args.sheet.now out c.args.self.now in joins c.args.sheet.now out c.args.self.now c.add.new.self c.in-Add.r c.as_slice-in-Add.result.now (c.in_ok-add-in-Add.ensures {u = tt}) ∙ ap (λ ps. after_effect (add_to c.in-Add.r ps) z) c.as_slice-in-Add.ensures ∙ sym (ap (λ e. after_effect (effect_of e) z) c.in-Add.is)
