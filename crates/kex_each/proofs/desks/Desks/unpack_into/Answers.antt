use Rattle.std.proofs.Common.{◌++◌, take, map, sym, ap, ap₂, ◌∙◌, append_assoc}
use Rattle.kex_each.specs.Desks.{answers_of}
use Rattle.kex_each.proofs.DeskLists.{answers_more}
use Rattle.kex_each.proofs.desks.Desks.unpack_into.Goals as goal

pub desks-preserved : goal.desks-preserved
desks-preserved c =
    let all = c.as_slice-desks.result.now in
    let i = c.desks.desk-index in
    let d = c.desk-item.result in
    let was = map (λ v. v.items) c.args.all.now.items in
    c.in_ok-unpack_into.ensures ∙ ap₂ (λ x y. x ++ y) c.desks.invariant c.answers.ensures ∙ append_assoc was (answers_of (take i all)) d.answers
    ∙ ap (λ z. was ++ z) (sym (answers_more i all d c.desks-test.true c.desk-item.is))
