use Rattle.std.proofs.Common.{◌<◌, ◌/◌, ◌%◌, ◌*◌, ◌^◌, set, bit_and, w64, length, subst, sym, ◌∙◌}
use Rattle.std.specs.Int.{bit_not}
use Rattle.std.proofs.lemmas.Grind.{get_or_default_zero}
use Rattle.kex_frontier.specs.Rows.{Unmarks}
use Rattle.kex_frontier.proofs.Bits.{unmarks_one}
use Rattle.kex_frontier.proofs.row.Row.unmark.Goals as goal

pub returns : goal.returns
returns c =
    let words = c.self.inside.words.items in
    let room : c.args.place / 64 < length words = subst (λ z. c.args.place / 64 < length z) (sym c.self.view_is) c.requires in
    subst (λ z. Unmarks c.args.place z (set words (c.args.place / 64) (bit_and c.index_mut.result.now (bit_not w64 (1 * 2 ^ (c.args.place % 64) % 2 ^ 64))))) c.self.view_is (unmarks_one words c.args.place c.index_mut.result.now room (c.index_mut.ensures.value ∙ get_or_default_zero words (c.args.place / 64) c.index_mut.result.now room))
