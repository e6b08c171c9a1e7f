use Rattle.std.proofs.Common.{◌≡◌, ◌<◌, Some, length, sym, ap, subst, ◌∙◌, arith}
use Rattle.std.proofs.lemmas.Option.{slice_get-get_or}
use Rattle.kex_code.specs.Codes.{HasNumber}
use Rattle.kex_machine.specs.Nodes.{move_of}
use Rattle.kex_trim.specs.Trim.{renumbered_move}
use Rattle.kex_trim.proofs.KeptNumbers.{past}
use Rattle.kex_trim.proofs.KeptNodes.{Shrinking, shrinking_more, shrinking_end}
use Rattle.kex_trim.proofs.kept.shrink.Goals as goal
use Rattle.kex_trim.proofs.kept.shrink.Goals.{After-index}

-- the old number of the node that is next
next : (c : After-index) → HasNumber c.args.numbering.now.kept.items c.index.result.now c.loop-t.t
next c = slice_get-get_or c.args.numbering.now.kept.items c.loop-t.t c.index.result.now (omega (arith, c.loop-t-test.true, c.len-t-end.ensures, c.args.numbering.now.kept.ok.0)) ∙ ap (λ z. Some z) (sym c.index.ensures)

pub take_node-node-requires : goal.take_node-node-requires
take_node-node-requires c =
    let lt : c.index.result.now < length c.args.alive.now = past c.args.alive.now c.index.result.now (c.requires.numbering.each c.index.result.now c.loop-t.t (next (goal.at.take_node-node-requires c).After-index)) in
    omega (arith, c.requires.long, c.loop-t.invariant.long)

pub loop-t-preserved : goal.loop-t-preserved
loop-t-preserved c =
    let s = c.index.result.now in
    let kept = c.args.numbering.now.kept.items in
    let numbers = c.args.numbering.now.numbers.items in
    rw (c.in_ok-push.ensures.items, c.take_node-node.ensures.left)
    (shrinking_more c.args.nodes.items c.loop-t.rest.items c.loop-t.made.items c.args.alive.now kept numbers c.loop-t.t s c.take_node-node.result c.shrunk.result c.loop-t.invariant c.requires.numbering (next (goal.at.loop-t-preserved c).After-index) c.take_node-node.ensures.node
    (subst (λ z. move_of (Some c.shrunk.result) ≡ renumbered_move c.args.alive.now z (move_of (Some c.take_node-node.result))) c.deref.ensures.value c.shrunk.ensures))

pub returns : goal.returns
returns c =
    let kept = c.args.numbering.now.kept.items in
    let whole : c.loop-t.t ≡ length kept = omega (arith, c.loop-t-test.false, c.len-t-end.ensures, c.args.numbering.now.kept.ok.0, c.loop-t.auto.t-end) in
    shrinking_end c.args.nodes.items c.loop-t.rest.items c.loop-t.made.items c.args.alive.now kept c.args.numbering.now.numbers.items (subst (λ z. Shrinking c.args.nodes.items c.loop-t.rest.items c.loop-t.made.items c.args.alive.now kept c.args.numbering.now.numbers.items z) whole c.loop-t.invariant)
