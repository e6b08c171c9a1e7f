use Rattle.std.proofs.Common.{length, ap, sym, ◌∙◌}
use Rattle.kex_frontier.proofs.CutRows.{count_cut}
use Rattle.kex_frontier.proofs.mark_rows.MarkRows.len.Goals as goal

pub returns : goal.returns
returns c =
    let r = c.self.inside in
    sym (count_cut r.width r.count r.words.items) ∙ ap (λ z. length z.rows) c.self.view_is
