use Rattle.std.proofs.Common.{◌∙◌, ◌++◌, ⊎_elim, sym, ap, ap₂, subst, take, append_assoc, add-one}
use Rattle.kex_code.specs.Codes.{IsAmong}
use Rattle.kex_code.specs.Registers.{pieces_text}
use Rattle.kex_action.proofs.Buffers.{among_at, joined-more}
use Rattle.kex_action.proofs.store.join.Goals as goal

pub bytes_of-requires : goal.bytes_of-requires
bytes_of-requires c = λ r. ⊎_elim (λ e. c.requires r (subst (λ q. IsAmong c.args.pieces.now q) e (among_at c.args.pieces.now c.loop-piece.piece-index c.piece-item.result c.loop-piece-test.true c.piece-item.is))) (λ h. absurd h)

pub loop-piece-preserved : goal.loop-piece-preserved
loop-piece-preserved c =
    c.in_ok-append.ensures {u = tt}
    ∙ ap₂ (λ x y. x ++ y) c.loop-piece.invariant c.bytes_of.ensures
    ∙ append_assoc c.args.into.now _ _
    ∙ ap (λ x. c.args.into.now ++ x) (sym (joined-more c.args.pieces.now c.loop-piece.piece-index c.piece-item.result c.args.registers.now c.loop-piece-test.true c.piece-item.is) ∙ ap (λ i. pieces_text (take i c.args.pieces.now) c.args.registers.now) (sym (add-one c.loop-piece.piece-index)))
