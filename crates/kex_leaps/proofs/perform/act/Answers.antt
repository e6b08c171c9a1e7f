use Rattle.std.proofs.Common.{◌∙◌, ap}
use Rattle.kex_machine.specs.Nodes.{Graph}
use Rattle.kex_action.specs.Deeds.{after_deed}
use Rattle.kex_action.specs.Sheets.{state_with}
use Rattle.kex_action.proofs.Buffers.{on_ok}
use Rattle.kex_leaps.proofs.perform.act.Goals as goal

pub returns-then-branch-clause-did : goal.returns-then-branch-clause-did
returns-then-branch-clause-did c =
    let out = c.args.out.now.items in
    (c.in_ok-act_at.ensures {u = tt}).did c.if-branch.true out ∙ c.deed_of-deed.ensures 0 (state_with c.args.sheet.now out c.args.actor.now.holding)

pub returns-clause-did : goal.returns-clause-did
returns-clause-did c =
    let h = c.in_ok-act_at.ensures {u = tt} in
    let out = c.args.out.now.items in
    let deed = c.deed_of-deed.result in
    let mid = state_with c.act_at.new.sheet out c.act_at.new.self.holding in
    on_ok c.act_behind.result c.act_behind.ensures.did (λ did.
    did
    ∙ ap (λ (g : Graph). after_deed g.nodes 0 deed mid) h.same.0
    ∙ ap (after_deed c.args.actor.now.machine.nodes 0 deed) (h.stays c.if-branch.false out)
    ∙ c.deed_of-deed.ensures 0 (state_with c.args.sheet.now out c.args.actor.now.holding))
