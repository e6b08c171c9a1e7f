use Rattle.std.proofs.Common.{Some, sym, subst}
use Rattle.kex_reader.specs.Syntax.{Lit}
use Rattle.kex_tokens.specs.Lexemes.{IsToken}
use Rattle.kex_reader.proofs.Uses.{held_as, register_piece, unchanged}
use Rattle.kex_reader.proofs.pieces.piece.Goals as goal

pub literal_bytes-requires : goal.literal_bytes-requires
literal_bytes-requires c = subst (λ k. IsToken k c.args.word.spelling.now) c.in-Literal.is c.requires

pub returns-in_ok-bytes-in-Literal-clause-read : goal.returns-in_ok-bytes-in-Literal-clause-read
unfolding Rattle.kex_reader.specs.Shown.ShowsPart
returns-in_ok-bytes-in-Literal-clause-read c =
    subst (λ k. Rattle.kex_reader.specs.Stands.PieceShows (Rattle.kex_reader.specs.Stands.part_of (Rattle.kex_reader.specs.Syntax.word k c.args.word.spelling.now)) c.args.draft.now (Some (Rattle.kex_code.specs.declared.piece.Piece.TheVariants.Lit c.new.result))) (sym c.in-Literal.is)
    (subst (λ b. Rattle.kex_tokens.specs.Values.StandsFor c.args.word.spelling.now b) (sym c.new.ensures) c.in_ok-bytes-in-Literal.ensures)

pub returns-in_ok-register-in-Name-clause-read : goal.returns-in_ok-register-in-Name-clause-read
unfolding Rattle.kex_reader.specs.Shown.ShowsPart
returns-in_ok-register-in-Name-clause-read c =
    subst (λ k. Rattle.kex_reader.specs.Stands.PieceShows (Rattle.kex_reader.specs.Stands.part_of (Rattle.kex_reader.specs.Syntax.word k c.args.word.spelling.now)) c.register.new.self (Some (Rattle.kex_code.specs.declared.piece.Piece.TheVariants.Register c.in_ok-register-in-Name.register))) (sym c.in-Name.is) c.in_ok-register-in-Name.ensures.number

pub returns-in_ok-bytes-in-Literal-clause-held : goal.returns-in_ok-bytes-in-Literal-clause-held
returns-in_ok-bytes-in-Literal-clause-held c = unchanged _ _ _ (λ x h. absurd h)

pub returns-in_ok-register-in-Name-clause-held : goal.returns-in_ok-register-in-Name-clause-held
returns-in_ok-register-in-Name-clause-held c = held_as _ _ _ _ _ _ (λ x h. h) (register_piece c.in_ok-register-in-Name.register) c.in_ok-register-in-Name.ensures.held
