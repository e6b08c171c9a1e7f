use Rattle.std.proofs.Common.{◌<◌, ◌/◌, length, get_or, subst, sym, ap, ◌∙◌}
use Rattle.std.proofs.lemmas.Grind.{get_or_default_zero}
use Rattle.kex_frontier.proofs.Bits.{search_starts}
use Rattle.kex_frontier.proofs.row.Row.highest_below.Goals as goal

pub words-init : goal.words-init
words-init c =
    let words = c.self.inside.words.items in
    let room : c.args.end / 64 < length words = subst (λ z. c.args.end / 64 < length z) (sym c.self.view_is) c.requires in
    search_starts c.args.self.now c.args.end c.index.result.now (c.index.ensures ∙ get_or_default_zero words (c.args.end / 64) c.index.result.now room ∙ ap (λ z. get_or z (c.args.end / 64) 0) c.self.view_is)
