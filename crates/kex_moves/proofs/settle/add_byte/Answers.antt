use Rattle.std.proofs.Common.{◌∙◌, ◌∷◌, [], set, sym, ap, arith}
use Rattle.kex_moves.proofs.PlacedTexts.{byte_text}
use Rattle.kex_moves.proofs.DraftSteps.{drafts_hidden, drafts_written}
use Rattle.kex_moves.proofs.settle.add_byte.Goals as goal

pub returns-then-draft-gt0-clause-drafts : goal.returns-then-draft-gt0-clause-drafts
returns-then-draft-gt0-clause-drafts c = λ b s z h. drafts_hidden c.args.bytes.now.items (b ∷ []) c.args.draft b s z c.if-draft-gt0.true h

pub returns-clause-drafts : goal.returns-clause-drafts
returns-clause-drafts c = λ b s z h.
    let old = c.args.bytes.now.items in
    let new = c.push.new.self.items in
    let p = c.len-at.result in
    drafts_written old (b ∷ []) new c.args.draft p b s z (omega arith) (byte_text c.args.draft.place p b old c.requires c.if-draft-lt16.false (omega (arith, c.len-at.ensures)) ∙ ap (λ l. set l p b) (sym (c.in_ok-push.ensures {u = tt}).items)) h
