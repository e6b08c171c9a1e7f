use Rattle.std.proofs.Common.{◌+◌, ◌-◌, refl, subst, sym}
use Rattle.kex_model.specs.Acting.{after_effect}
use Rattle.kex_machine.specs.Nodes.{effect_of}
use Rattle.kex_moves.specs.Drafts.{Drafts}
use Rattle.kex_moves.proofs.DraftSteps.{draft, drafts_opened, drafts_dropped}
use Rattle.kex_moves.proofs.settle.add_effect.Goals as goal

pub returns-in-Open-clause-drafts : goal.returns-in-Open-clause-drafts
returns-in-Open-clause-drafts c = λ b s z h.
    let d = c.args.draft in
    let bytes = c.args.bytes.now.items in
    subst (λ e. Drafts bytes (draft d.place (d.depth + 1)) b s (after_effect (effect_of e) z)) (sym c.in-Open.is) (drafts_opened bytes d (d.depth + 1) b s z refl h)

pub returns-in-Drop-clause-drafts : goal.returns-in-Drop-clause-drafts
returns-in-Drop-clause-drafts c = λ b s z h.
    let d = c.args.draft in
    let bytes = c.args.bytes.now.items in
    subst (λ e. Drafts bytes (draft d.place (d.depth - 1)) b s (after_effect (effect_of e) z)) (sym c.in-Drop.is) (drafts_dropped bytes d (d.depth - 1) b s z c.if-draft-gt0.true refl h)
