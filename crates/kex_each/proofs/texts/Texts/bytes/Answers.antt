use Rattle.std.proofs.Common.{◌∙◌, ap, arith, length}
use Rattle.std.specs.List.{concat}
use Rattle.kex_each.proofs.TextLists.{cut_joined}
use Rattle.kex_each.proofs.texts.Texts.bytes.Goals as goal

pub returns : goal.returns
returns c =
    let t = c.self.inside in
    c.deref.ensures.value ∙ cut_joined 0 (length t.bytes.items) t.ends.items t.bytes.items c.self.invariant (omega arith) ∙ ap concat c.self.view_is
