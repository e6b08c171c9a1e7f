use Rattle.std.proofs.Common.{refl, subst, inl, inr}
use Rattle.kex_reader.proofs.Steps.{memory_exit}
use Rattle.kex_reader.specs.Syntax.{word}
use Rattle.kex_reader.proofs.Modes.{first_wrong, first_on, next_wrong, next_on}
use Rattle.kex_reader.specs.declared.inside.TermWait.TheVariants.{Assigning}
use Rattle.kex_reader.specs.Stands.{IsHeld}
use Rattle.kex_reader.proofs.Uses.{beside, piece_on, pieces_are, pieces_under}
use Rattle.kex_reader.proofs.inside.part.Goals as goal

pub returns-in_err-read-clause-first : goal.returns-in_err-read-clause-first
returns-in_err-read-clause-first c = λ place base fs es append r h m. memory_exit c.piece.new.draft place base fs c.from_residual.result c.from_residual.ensures.1 _

pub returns-in_err-read-clause-next : goal.returns-in_err-read-clause-next
returns-in_err-read-clause-next c = λ n place base fs es append r p ps h m. memory_exit c.piece.new.draft place base fs c.from_residual.result c.from_residual.ensures.1 _

pub returns-in_default-clause-first : goal.returns-in_default-clause-first
returns-in_default-clause-first c = λ place base fs es append r h m. first_wrong c.args.draft.now c.piece.new.draft place base fs es c.args.assignment append r c.args.word.kind c.args.word.spelling.now (subst (λ o. Rattle.kex_reader.specs.Stands.PieceShows (Rattle.kex_reader.specs.Stands.part_of (word c.args.word.kind c.args.word.spelling.now)) c.piece.new.draft o) c.in_default.is c.in_ok-read.ensures.read)

pub returns-in_default-clause-next : goal.returns-in_default-clause-next
returns-in_default-clause-next c = λ n place base fs es append r p ps h m. next_wrong c.args.draft.now c.piece.new.draft place base fs es c.args.assignment append r c.args.word.kind c.args.word.spelling.now p ps n (subst (λ o. Rattle.kex_reader.specs.Stands.PieceShows (Rattle.kex_reader.specs.Stands.part_of (word c.args.word.kind c.args.word.spelling.now)) c.piece.new.draft o) c.in_default.is c.in_ok-read.ensures.read)

pub returns-in_err-push-clause-first : goal.returns-in_err-push-clause-first
returns-in_err-push-clause-first c = λ place base fs es append r h m. memory_exit c.piece.new.draft place base fs c.from_residual-in_err-push.result c.from_residual-in_err-push.ensures.1 _

pub returns-in_err-push-clause-next : goal.returns-in_err-push-clause-next
returns-in_err-push-clause-next c = λ n place base fs es append r p ps h m. memory_exit c.piece.new.draft place base fs c.from_residual-in_err-push.result c.from_residual-in_err-push.ensures.1 _

pub returns-clause-first : goal.returns-clause-first
returns-clause-first c = λ place base fs es append r h m. first_on c.args.draft.now c.piece.new.draft place base fs es c.args.assignment append r c.args.word.kind c.args.word.spelling.now c.in-Some.piece _ refl refl refl c.in_ok-push.ensures.items c.in_ok-read.ensures.keeps (subst (λ o. Rattle.kex_reader.specs.Stands.PieceShows (Rattle.kex_reader.specs.Stands.part_of (word c.args.word.kind c.args.word.spelling.now)) c.piece.new.draft o) c.in-Some.is c.in_ok-read.ensures.read) h m

pub returns-clause-next : goal.returns-clause-next
returns-clause-next c = λ n place base fs es append r p ps h m. next_on c.args.draft.now c.piece.new.draft place base fs es c.args.assignment append r c.args.word.kind c.args.word.spelling.now p ps c.in-Some.piece _ refl refl refl c.in_ok-push.ensures.items c.in_ok-read.ensures.keeps (subst (λ o. Rattle.kex_reader.specs.Stands.PieceShows (Rattle.kex_reader.specs.Stands.part_of (word c.args.word.kind c.args.word.spelling.now)) c.piece.new.draft o) c.in-Some.is c.in_ok-read.ensures.read) h m

pub returns-clause-held : goal.returns-clause-held
returns-clause-held c = λ fs.
    let pushed = c.in_ok-push.ensures.items in
    beside _ _ _ _ (IsHeld fs (Assigning c.args.assignment)) _ _ (λ x h. inr h) (λ x p. inr (inr (piece_on _ _ _ pushed x (pieces_are _ _ c.in-Some.is x p)))) (λ x h. elim h [ inl i ↦ inl i | inr j ↦ elim j [ inl e ↦ inr (inl e) | inr p ↦ inr (inr (pieces_under _ _ _ pushed x p)) ] ]) c.in_ok-read.ensures.held
