use Rattle.std.proofs.Common.{◌≡◌, ◌∙◌, ◌+◌, ◌<◌, [], Some, length, sym, ap, ap₂, subst}
use Rattle.std.specs.Prelude.{IfSome}
use Rattle.kex_sst.specs.declared.table.Transition.{Transition}
use Rattle.kex_sst.specs.Tables.{transition_of}
use Rattle.kex_held.specs.Tracks.{TracksAny}
use Rattle.kex_held.specs.Slices.{ListGoesOn}
use Rattle.kex_held.specs.HeldRows.{RowEdge, items_by_links}
use Rattle.kex_held.specs.LearntEdges.{AreTrackedAny, AreListsOf, IsEdgeWith, IsLearnt, IsRowWithin}
use Rattle.kex_held.proofs.EdgeLists.{learnt_edge, row_behind, map_some}
use Rattle.kex_held.proofs.learn.learn_edge.Goals as goal

pub returns-clause-learnt : goal.returns-clause-learnt
returns-clause-learnt c =
    let t = c.args.table.now in
    let nodes = c.args.machine.now.nodes in
    let r = c.args.row.now in
    let class = c.args.class in
    let by : Transition = record { target = c.in-Some.target; update = c.in-Some.update.now } in
    let out = c.in-Some-2.out in
    let regs = c.in-Some-tracked.tracked.items in
    let outs = c.in_ok-outs.outs.items in
    let new = c.in_ok-new.new.items in
    let texts = c.texts-texts.ensures in
    let marks = c.marks-marks.ensures in
    let goes : transition_of t r.state class ≡ Some by = subst (λ n. transition_of t n class ≡ Some by) c.state.ensures (c.in-Some.ensures {u = tt}) in
    let from : out.from ≡ c.node.result = subst (λ o. IfSome o (λ p. p.from ≡ c.node.result)) c.in-Some-2.is (c.in_ok-out.ensures {u = tt}).from in
    let tracks : TracksAny nodes c.texts-texts.result.now c.as_slice.result.now c.node.result out.to out.links = subst (λ o. IfSome o (λ p. TracksAny nodes c.texts-texts.result.now c.as_slice.result.now c.node.result p.to p.links)) c.in-Some-2.is (c.in_ok-out.ensures {u = tt}).tracks in
    let tracks' : TracksAny nodes r.lists by.update.out out.from out.to out.links = subst (λ l. TracksAny nodes l by.update.out out.from out.to out.links) texts (subst (λ l. TracksAny nodes c.texts-texts.result.now l out.from out.to out.links) (c.as_slice.ensures ∙ c.out.ensures) (subst (λ n. TracksAny nodes c.texts-texts.result.now c.as_slice.result.now n out.to out.links) (sym from) tracks)) in
    let all : AreTrackedAny nodes c.texts-texts.result.now c.regs.result.now regs = subst (λ o. IfSome o (λ ps. AreTrackedAny nodes c.texts-texts.result.now c.regs.result.now ps.items)) c.in-Some-tracked.is (c.in_ok-tracked.ensures {u = tt}) in
    let all' : AreTrackedAny nodes r.lists by.update.regs regs = subst (λ l. AreTrackedAny nodes l by.update.regs regs) texts (subst (λ l. AreTrackedAny nodes c.texts-texts.result.now l regs) c.regs.ensures all) in
    let list : ListGoesOn nodes [] (items_by_links r.lists r.marks out.links) outs = subst (λ l. ListGoesOn nodes [] l outs) (ap₂ (λ x m. items_by_links x m c.links.result.now) texts marks ∙ ap (items_by_links r.lists r.marks) c.links.ensures) (c.in_ok-outs.ensures {u = tt}) in
    let lists : AreListsOf nodes r.lists r.marks regs new = subst (λ l. AreListsOf nodes l r.marks regs new) texts (subst (λ m. AreListsOf nodes c.texts-texts.result.now m regs new) marks (subst (λ l. AreListsOf nodes c.texts-texts.result.now c.marks-marks.result l new) c.deref.ensures.value (c.in_ok-new.ensures {u = tt}))) in
    let edge : IfSome c.in_ok-edge.edge (IsEdgeWith by.target out.to (r.marks + 1) outs new) = subst (λ n. IfSome c.in_ok-edge.edge (IsEdgeWith by.target n (r.marks + 1) outs new)) c.to-2.ensures (subst (λ m. IfSome c.in_ok-edge.edge (IsEdgeWith by.target c.to-2.result (m + 1) outs new)) marks (subst (λ l. IfSome c.in_ok-edge.edge (IsEdgeWith by.target c.to-2.result (c.marks-marks.result + 1) outs l)) c.deref-2.ensures.value (c.in_ok-edge.ensures {u = tt}))) in
    map_some (IsEdgeWith by.target out.to (r.marks + 1) outs new) (IsLearnt t nodes r class) c.in_ok-edge.edge (λ e s. learnt_edge t nodes r class e by out regs outs new c.requires.row.within goes (from ∙ c.node.ensures) tracks' all' list lists s) edge

pub returns-clause-row : goal.returns-clause-row
returns-clause-row c =
    let t = c.args.table.now in
    let g = c.args.machine.now in
    let out = c.in-Some-2.out in
    let target = c.in-Some.target in
    let outs = c.in_ok-outs.outs.items in
    let last = c.marks-marks.result + 1 in
    let new = c.deref-2.result.now in
    let within : out.to < length g.nodes = subst (λ o. IfSome o (λ p. p.to < length g.nodes)) c.in-Some-2.is (c.in_ok-out.ensures {u = tt}).within in
    let node : c.to-2.result < length g.nodes = subst (λ n. n < length g.nodes) (sym c.to-2.ensures) within in
    let state : target < length t.states = subst (λ l. target < length l) c.states.ensures.same c.if-target-states.false in
    map_some (IsEdgeWith target c.to-2.result last outs new) (λ (e : RowEdge). IsRowWithin t g e.to) c.in_ok-edge.edge (λ e s. row_behind t g target c.to-2.result last outs new e state node s) (c.in_ok-edge.ensures {u = tt})
