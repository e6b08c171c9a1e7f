use Rattle.std.proofs.Common.{[], sym, subst, ap, ◌∙◌}
use Rattle.std.proofs.lemmas.List.{get_or_read}
use Rattle.kex_code.specs.Codes.{Different, IsAmong}
use Rattle.kex_sst.specs.Parts.{olds}
use Rattle.kex_sst.specs.Series.{read_parts, substitute}
use Rattle.kex_chunks.proofs.MovedLists.{list_filled, list_once, still_same}
use Rattle.kex_chunks.proofs.drafts.fill_all.Goals as goal

pub fill-requires : goal.fill-requires
fill-requires c =
    let lists = c.args.lists.now in
    let k = c.lists.list-index in
    let is = c.as_slice.ensures ∙ get_or_read lists k c.list-item.result c.lists-test.true c.list-item.is [] in
    subst (λ z. Different (olds z)) (sym is) (list_once lists k [] c.lists-test.true c.requires)

pub lists-preserved : goal.lists-preserved
lists-preserved c =
    let lists = c.args.lists.now in
    let k = c.lists.list-index in
    let regs = c.args.regs.now in
    let is = c.as_slice.ensures ∙ get_or_read lists k c.list-item.result c.lists-test.true c.list-item.is [] in
    record {
      made = c.in_ok-push.ensures.items ∙ list_filled lists k [] c.lists-test.true c.requires regs c.lists.regs c.fill.new.regs c.args.byte c.lists.invariant.same c.lists.made.items c.in_ok-filled.filled c.lists.invariant.made (c.in_ok-filled.ensures.list ∙ ap (λ z. substitute c.lists.regs (read_parts c.args.byte z)) is);
      same = still_same lists k [] c.lists-test.true c.requires regs c.lists.regs c.fill.new.regs c.args.byte c.lists.invariant.same (λ i h. c.in_ok-filled.ensures.others i (λ j. h (subst (λ z. IsAmong (olds z) i) is j)));
    }
