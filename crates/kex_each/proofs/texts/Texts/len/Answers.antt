use Rattle.std.proofs.Common.{length, ap, arith}
use Rattle.kex_each.proofs.TextLists.{cut_length}
use Rattle.kex_each.proofs.texts.Texts.len.Goals as goal

pub returns : goal.returns
returns c =
    let t = c.self.inside in
    let cut = cut_length 0 t.ends.items t.bytes.items in
    let view = ap length c.self.view_is in
    let long = t.ends.ok.0 in
    omega (arith, cut, view, long, c.len.ensures)
