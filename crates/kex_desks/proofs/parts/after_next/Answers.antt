use Rattle.std.proofs.Common.{◌+◌, arith}
use Rattle.kex_desks.proofs.LineSearches.{next_found}
use Rattle.kex_desks.proofs.parts.after_next.Goals as goal

pub returns-in-Some : goal.returns-in-Some
returns-in-Some c =
    let piece = c.args.piece.now in
    let few = c.min.ensures in
    next_found piece c.args.from (c.args.from + c.min.result) c.in-Some.at (omega arith) (omega (arith, c.requires, few)) c.in-Some.ensures.0 c.in-Some.ensures.1
