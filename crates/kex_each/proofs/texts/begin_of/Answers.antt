use Rattle.std.proofs.Common.{arith}
use Rattle.kex_each.proofs.TextLists.{begin_at}
use Rattle.kex_each.proofs.texts.begin_of.Goals as goal

pub returns : goal.returns
returns c =
    let some = c.if-index-eq0.false in
    begin_at 0 c.args.ends.now c.args.index 0 (omega (arith, some)) c.requires
