use Rattle.std.proofs.Common.{◌≡◌, ◌+◌, ◌++◌, ◌∷◌, [], suc, length, ap, sym, ◌∙◌, arith}
use Rattle.kex_frontier.specs.Caches.{RowList, cut_rows}
use Rattle.kex_frontier.proofs.CutRows.{all_in, count_cut, cut_push}
use Rattle.kex_frontier.proofs.mark_rows.MarkRows.add.Goals as goal

pub returns-clause-some : goal.returns-clause-some
returns-clause-some c =
    let r = c.self.inside in
    let row = c.args.row.now in
    let width : length row ≡ r.width = c.requires ∙ ap (λ z. z.width) (sym c.self.view_is) in
    let words : c.extend_from_slice.new.self.items ≡ r.words.items ++ row = all_in c.extend_from_slice.result (r.words.items ++ c.words.result.now) r.words.items c.extend_from_slice.new.self.items (sym c.is_err.ensures.value ∙ c.if-is_err.false) c.extend_from_slice.ensures.items ∙ ap (λ z. r.words.items ++ z) c.words.ensures in
    let one : r.count + 1 ≡ suc r.count = omega arith in
    let rows = ap (λ z. cut_rows r.width (r.count + 1) z) words ∙ ap (λ n. cut_rows r.width n (r.words.items ++ row)) one ∙ cut_push r.width r.count r.words.items row c.self.invariant width in (
      sym (count_cut r.width r.count r.words.items) ∙ ap (λ z. length z.rows) c.self.view_is,
      ap (λ z. record { width = r.width; rows = z }) rows ∙ ap (λ (z : RowList). record { width = z.width; rows = z.rows ++ row ∷ [] }) c.self.view_is,
    )
