use Rattle.std.proofs.Common.{◌∙◌, set, sym, ap, arith}
use Rattle.kex_moves.proofs.PlacedTexts.{set_more, more_room}
use Rattle.kex_moves.proofs.DraftSteps.{drafts_hidden, drafts_more}
use Rattle.kex_moves.proofs.settle.add_literal.Goals as goal

pub returns-then-draft-gt0-clause-drafts : goal.returns-then-draft-gt0-clause-drafts
returns-then-draft-gt0-clause-drafts c = λ b s z h. drafts_hidden c.args.bytes.now.items c.args.literal.now c.args.draft b s z c.if-draft-gt0.true h

pub returns-clause-drafts : goal.returns-clause-drafts
returns-clause-drafts c = λ b s z h.
    let old = c.args.bytes.now.items in
    let more = c.args.literal.now in
    let p = c.args.draft.place in
    drafts_more old more c.extend_from_slice.new.self.items c.args.draft b s z (omega arith) (sym (set_more old more p b (more_room old more p c.requires (omega arith))) ∙ ap (λ l. set l p b) (sym (c.in_ok-extend_from_slice.ensures {u = tt}).items)) h
