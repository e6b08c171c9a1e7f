use Rattle.std.proofs.Common.{◌<◌, ◌/◌, ◌%◌, ◌*◌, ◌^◌, ◌∷◌, [], set, bit_or, length, subst, sym, ◌∙◌}
use Rattle.std.proofs.lemmas.Grind.{get_or_default_zero}
use Rattle.kex_frontier.specs.Rows.{AlsoMarks}
use Rattle.kex_frontier.proofs.Bits.{marks_one}
use Rattle.kex_frontier.proofs.row.Row.mark.Goals as goal

pub returns-clause-marked : goal.returns-clause-marked
returns-clause-marked c =
    let words = c.self.inside.words.items in
    let room : c.args.place / 64 < length words = subst (λ z. c.args.place / 64 < length z) (sym c.self.view_is) c.requires in
    subst (λ z. AlsoMarks (c.args.place ∷ []) z (set words (c.args.place / 64) (bit_or c.index_mut.result.now (1 * 2 ^ (c.args.place % 64) % 2 ^ 64)))) c.self.view_is (marks_one words c.args.place c.index_mut.result.now room (c.index_mut.ensures.value ∙ get_or_default_zero words (c.args.place / 64) c.index_mut.result.now room))
