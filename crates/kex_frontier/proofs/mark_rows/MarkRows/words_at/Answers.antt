use Rattle.std.proofs.Common.{◌≡◌, ◌≤◌, ◌+◌, ◌*◌, length, take, drop, ap, sym, subst, ◌∙◌, arith}
use Rattle.kex_frontier.proofs.CutRows.{row_in, row_seen}
use Rattle.kex_frontier.proofs.mark_rows.MarkRows.words_at.Goals as goal

pub overflow_mul-number : goal.overflow_mul-number
overflow_mul-number c =
    let r = c.self.inside in
    let h = row_in r.width r.count c.args.number r.words.items c.args.self.now c.self.view_is c.requires c.self.invariant in
    omega (arith, h, ap length c.as_slice-words.ensures.value)

pub part-requires : goal.part-requires
part-requires c =
    let r = c.self.inside in
    subst (λ z. c.args.number * r.width + r.width ≤ length z) (sym c.as_slice-words.ensures.value) (row_in r.width r.count c.args.number r.words.items c.args.self.now c.self.view_is c.requires c.self.invariant)

pub returns : goal.returns
returns c =
    let r = c.self.inside in
    let seen = row_seen r.width r.count c.args.number r.words.items c.args.self.now c.self.view_is c.requires c.self.invariant in
    let same : c.part.result.now ≡ take r.width (drop (c.args.number * r.width) r.words.items) = c.part.ensures ∙ ap (λ z. take r.width (drop (c.args.number * r.width) z)) c.as_slice-words.ensures.value in
    record { words = same ∙ seen.0; width = ap length same ∙ seen.1 }
