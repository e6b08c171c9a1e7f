use Rattle.std.proofs.Common.{◌≡◌, ◌<◌, ◌-◌, ◌++◌, length, take, drop, ap, ◌∙◌, arith}
use Rattle.std.proofs.lemmas.List.{length-drop, take_all}
use Rattle.kex_code.specs.declared.symbol.Symbol.TheVariants.{L}
use Rattle.kex_sst.specs.declared.parts.Part.TheVariants.{Put}
use Rattle.kex_sst.specs.Series.{read_parts, substitute}
use Rattle.kex_chunks.proofs.MovedLists.{filled_whole, unread_whole}
use Rattle.kex_chunks.proofs.drafts.fill.Goals as goal

pub returns-clause-list : goal.returns-clause-list
returns-clause-list c =
    let parts = c.args.parts.now in
    let some : 0 < length parts = (let z = c.if-parts-eq0.false in omega (arith, z)) in
    let long = length-drop 1 parts in
    let rest : take (length parts - 1) (drop 1 parts) ≡ drop 1 parts = take_all (length parts - 1) (drop 1 parts) (omega (arith, long)) in
    filled_whole c.args.regs.now c.take.new.regs c.args.byte parts (Put L) some c.requires c.take.ensures.others c.in_ok-list.list c.add_all.new.list c.in_ok-list.ensures.list
    (c.in_ok-add_all.ensures ∙ ap (λ z. c.in_ok-list.list ++ substitute c.take.new.regs (read_parts c.args.byte z)) rest)

pub returns-clause-others : goal.returns-clause-others
returns-clause-others c =
    let some : 0 < length c.args.parts.now = (let z = c.if-parts-eq0.false in omega (arith, z)) in
    unread_whole c.args.regs.now c.take.new.regs c.args.byte c.args.parts.now (Put L) some c.requires c.take.ensures.others
