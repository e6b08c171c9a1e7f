use Rattle.std.proofs.Common.{◌+◌, ◌-◌, ◌++◌, ◌∙◌, ap, take, arith}
use Rattle.kex_action.proofs.Copies.{over, copied_front}
use Rattle.kex_leaps.proofs.copy.copy_at_once.Goals as goal

pub returns-clause-copied : goal.returns-clause-copied
returns-clause-copied c = λ n h.
    let copy = c.copy_from_slice-2.new.self in
    let part = copied_front c.args.from.now copy c.args.at 16 n (c.copy_from_slice-2.ensures.after ∙ c.copy_from_slice.ensures.after) c.requires.from h in
    over c.args.to.now copy c.args.behind (c.args.behind + 16 - c.args.behind) n (omega arith) part.1 ∙ ap (λ l. take c.args.behind c.args.to.now ++ l) part.0
