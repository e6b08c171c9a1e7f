-- What is learnt of the end of a text is right.
use Rattle.std.proofs.Common.{◌≡◌, ℕ, ◌+◌, List, [], ◌∷◌, ◌++◌, Some, length, sym, ap, subst, ◌∙◌}
use Rattle.std.specs.Prelude.{slice_get}
use Rattle.kex_code.specs.declared.symbol.Symbol.{Symbol}
use Rattle.kex_machine.specs.declared.MNode.{MNode}
use Rattle.kex_sst.specs.declared.parts.Part.{Part}
use Rattle.kex_sst.specs.Parts.{parts_code}
use Rattle.kex_sst.specs.Tables.{Transducer}
use Rattle.kex_sst.specs.Passes.{way_of}
use Rattle.kex_held.specs.declared.link.Link.{Link}
use Rattle.kex_held.specs.Acts.{MakeSame}
use Rattle.kex_held.specs.TreeEdges.{TreeEdge, DoesActs, AreHeld}
use Rattle.kex_held.specs.Tracks.{TracksAny, acts_by_links}
use Rattle.kex_held.specs.Slices.{acts_over, points_of, edge_points, AreItemsWithin, ListGoesOn}
use Rattle.kex_held.specs.HeldRows.{HeldRow, state_over, AreListsWithin, FitsWindow, items_by_links}
use Rattle.kex_held.specs.RowEnds.{RowEnd, IsRightEnd}
use Rattle.kex_held.proofs.ActLists.{does_same}
use Rattle.kex_held.proofs.WindowSlices.{points_rise, count_points, acts_longer}
use Rattle.kex_held.proofs.EdgeLists.{links_within}
use Rattle.kex_held.proofs.LearntEdges.{have_ends, comes}

module _ (t : Transducer) (nodes : List MNode) (r : HeldRow) (e : RowEnd) (way : List Part) (links : List Link) (old : AreListsWithin (r.marks + 1) r.lists) (tracks : TracksAny nodes r.lists way r.node e.node links) (list : ListGoesOn nodes [] (items_by_links r.lists r.marks links) e.outs) (within : AreItemsWithin (r.marks + 1) e.outs) where
  -- no item has a byte in it that comes after the window: so any may come
  does_way : (w marks : List ℕ) (registers : List (List Symbol)) → FitsWindow w marks r → AreHeld nodes (state_over w marks r).edges registers → DoesActs nodes r.node (parts_code registers 0 way) e.node (acts_over w (points_of w marks) e.outs)
  does_way w marks registers h held =
      let edges : List TreeEdge = (state_over w marks r).edges in
      let points = points_of w marks in
      let tracked : DoesActs nodes r.node (parts_code registers 0 way) e.node (acts_by_links edges 0 links) = tracks edges (have_ends w points r.lists) registers 0 held in
      let same : MakeSame nodes (acts_by_links edges 0 links) (acts_over (w ++ 0 ∷ []) (edge_points w marks) e.outs) = comes nodes r w marks 0 h links e.outs (list.same (r.marks + 2) (links_within r.lists r.marks links old)) in
      let count : length points ≡ r.marks + 1 = count_points w marks ∙ ap (λ n. n + 1) h.count in
      let shorter : acts_over (w ++ 0 ∷ []) (edge_points w marks) e.outs ≡ acts_over w points e.outs = acts_longer w (0 ∷ []) points (length w + 1) e.outs (points_rise w marks h.rising) (subst (λ n. AreItemsWithin n e.outs) (sym count) within) in
      does_same nodes r.node e.node (parts_code registers 0 way) (acts_by_links edges 0 links) (acts_over w points e.outs) tracked (subst (MakeSame nodes (acts_by_links edges 0 links)) shorter same)

  pub right_end : way_of (slice_get t.states r.state) ≡ Some way → IsRightEnd t nodes r e
  right_end ends = record { way = way; ends = ends; within = within; does = does_way }
