use Rattle.std.proofs.Common.{◌∙◌, ◌∷◌, [], sym, ap}
use Rattle.kex_action.specs.Deeds.{after_deed}
use Rattle.kex_action.specs.Sheets.{state_with}
use Rattle.kex_action.proofs.Sheets.{wrote}
use Rattle.kex_action.proofs.deed.act_at.Goals as goal

pub returns-in-Byte-clause-did : goal.returns-in-Byte-clause-did
returns-in-Byte-clause-did c = λ t out. let z = state_with c.args.sheet.now out c.args.store.now in wrote c.args.sheet.now c.write_byte.new.self (c.args.byte ∷ []) out c.args.store.now c.requires.sheet (c.write_byte.ensures.written t) ∙ sym (ap (λ d. after_deed c.args.machine.now.nodes c.args.byte d z) c.in-Byte.is)

pub returns-in-Put-clause-did : goal.returns-in-Put-clause-did
returns-in-Put-clause-did c = λ t out. let z = state_with c.args.sheet.now out c.args.store.now in wrote c.args.sheet.now c.write_byte-in-Put.new.self (c.in-Put.put ∷ []) out c.args.store.now c.requires.sheet (c.write_byte-in-Put.ensures.written t) ∙ sym (ap (λ d. after_deed c.args.machine.now.nodes c.args.byte d z) c.in-Put.is)
