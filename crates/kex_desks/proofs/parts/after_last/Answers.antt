use Rattle.std.proofs.Common.{arith}
use Rattle.kex_desks.proofs.LineSearches.{last_found}
use Rattle.kex_desks.proofs.parts.after_last.Goals as goal

pub returns-in-Some-clause-line : goal.returns-in-Some-clause-line
returns-in-Some-clause-line c =
    let piece = c.args.piece.now in
    let back = c.saturating_sub-from.ensures in
    last_found piece c.saturating_sub-from.result c.args.end c.in-Some.at (omega (arith, back)) c.requires c.in-Some.ensures.0 c.in-Some.ensures.1
