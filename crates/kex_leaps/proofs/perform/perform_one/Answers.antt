use Rattle.std.proofs.Common.{◌≡◌, sym, subst}
use Rattle.kex_held.specs.Acts.{after_act}
use Rattle.kex_held.specs.Slices.{slice_between}
use Rattle.kex_action.specs.Sheets.{state_with}
use Rattle.kex_action.proofs.Sheets.{wrote}
use Rattle.kex_leaps.specs.Leaps.{act_in}
use Rattle.kex_leaps.proofs.perform.perform_one.Goals as goal

pub returns-else-to-from-clause-did : goal.returns-else-to-from-clause-did
returns-else-to-from-clause-did c =
    let piece = c.args.piece.now in
    let out = c.args.out.now.items in
    let holding = c.args.actor.now.holding in
    let s = state_with c.args.sheet.now out holding in
    let text = slice_between piece c.in-Text.from c.in-Text.to in
    subst (λ x. state_with c.put_on.new.sheet out holding ≡ after_act c.args.actor.now.machine.nodes (act_in piece x) s) (sym c.in-Text.is)
    (wrote c.args.sheet.now c.put_on.new.sheet text out holding c.requires.sheet c.put_on.ensures.written)
