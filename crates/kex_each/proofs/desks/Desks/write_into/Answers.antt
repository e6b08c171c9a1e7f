use Rattle.std.proofs.Common.{◌++◌, take, sym, ap, ap₂, ◌∙◌, append_assoc}
use Rattle.std.specs.List.{concat}
use Rattle.kex_each.specs.Desks.{answers_of}
use Rattle.kex_each.proofs.DeskLists.{answers_more, concat_both}
use Rattle.kex_each.proofs.desks.Desks.write_into.Goals as goal

pub desks-preserved : goal.desks-preserved
desks-preserved c =
    let all = c.as_slice-all.result.now in
    let i = c.desks.desk-index in
    let d = c.desk-item.result in
    let text = c.bytes.ensures ∙ ap concat c.answers.ensures in
    let before = concat (answers_of (take i all)) in
    c.in_ok-extend_from_slice.ensures.items ∙ ap₂ (λ x y. x ++ y) c.desks.invariant text ∙ append_assoc c.args.out.now.items before (concat d.answers)
    ∙ ap (λ z. c.args.out.now.items ++ z) (sym (ap concat (answers_more i all d c.desks-test.true c.desk-item.is) ∙ concat_both (answers_of (take i all)) d.answers))
