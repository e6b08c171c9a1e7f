use Rattle.std.proofs.Common.{◌+◌, ◌-◌, ◌++◌, ◌∙◌, ap, take, arith}
use Rattle.kex_action.proofs.Copies.{over, copied_front}
use Rattle.kex_moves.proofs.run.copy_eight.Goals as goal

pub returns-clause-copied : goal.returns-clause-copied
returns-clause-copied c = λ n h.
    let at = c.args.at in
    let copy = c.copy_from_slice-2.new.self in
    let part = copied_front c.args.piece.now copy at 8 n (c.copy_from_slice-2.ensures.after ∙ c.copy_from_slice.ensures.after) c.requires.from h in
    over c.args.to.now copy at (at + 8 - at) n (omega arith) part.1 ∙ ap (λ l. take at c.args.to.now ++ l) part.0
