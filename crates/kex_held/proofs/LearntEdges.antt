-- An edge that is learnt is right.
use Rattle.std.proofs.Common.{◌≡◌, ℕ, ◌+◌, List, [], ◌∷◌, ◌++◌, length, refl, sym, ap, subst, ◌∙◌, length-append}
use Rattle.kex_machine.specs.declared.MNode.{MNode}
use Rattle.kex_sst.specs.declared.parts.Part.{Part}
use Rattle.kex_sst.specs.Tables.{Transducer}
use Rattle.kex_held.specs.Tracks.{HeldList}
use Rattle.kex_held.specs.declared.item.HeldItem.{HeldItem}
use Rattle.kex_held.specs.declared.link.Link.{Link}
use Rattle.kex_held.specs.Acts.{MakeSame}
use Rattle.kex_held.specs.TreeEdges.{TreeEdge}
use Rattle.kex_held.specs.Tracks.{Passage, HaveEnds, AreTracked, acts_by_links}
use Rattle.kex_held.specs.Slices.{acts_over, AreRising, points_of, edge_points, items_by_number}
use Rattle.kex_held.specs.HeldRows.{tree_edges_of, HeldRow, state_over, FitsWindow, RowEdge, AreMadeBy, IsRightAt}
use Rattle.kex_held.specs.LearntEdges.{AreTrackedAny, ComesToLinks, AreComing, IsLearnt}
use Rattle.kex_held.proofs.WindowSlices.{edge_points_rise, count_edge_points}
use Rattle.kex_held.proofs.HeldRows.{links_right}

pub have_ends : (w points : List ℕ) (xs : List HeldList) → HaveEnds xs (tree_edges_of w points xs)
have_ends w points [] = tt
have_ends w points (x ∷ xs) = (refl, refl, have_ends w points xs)

tracked : (nodes : List MNode) (olds : List HeldList) (edges : List TreeEdge) (lists : List (List Part)) (ways : List Passage) → HaveEnds olds edges → AreTrackedAny nodes olds lists ways → AreTracked nodes edges lists ways
tracked nodes olds edges [] [] h a = tt
tracked nodes olds edges [] (v ∷ vs) h a = absurd a
tracked nodes olds edges (xs ∷ xss) [] h a = absurd a
tracked nodes olds edges (xs ∷ xss) (v ∷ vs) h a = (a.0 edges h, tracked nodes olds edges xss vs h a.1)

module _ (nodes : List MNode) (r : HeldRow) (w marks : List ℕ) (b : ℕ) (h : FitsWindow w marks r) where
  pub comes : (links : List Link) (items : List HeldItem) → ComesToLinks nodes r links items → MakeSame nodes (acts_by_links (state_over w marks r).edges b links) (acts_over (w ++ b ∷ []) (edge_points w marks) items)
  comes links items c =
      let rising = subst (λ n. AreRising n (edge_points w marks)) (sym (length-append w (b ∷ []))) (edge_points_rise w marks h.rising) in
      let count : length (edge_points w marks) ≡ r.marks + 2 = count_edge_points w marks ∙ ap (λ n. n + 2) h.count in
      subst (λ l. MakeSame nodes l (acts_over (w ++ b ∷ []) (edge_points w marks) items)) (links_right w marks r b links h) (c (w ++ b ∷ []) (edge_points w marks) rising count)

  made_by : (keep : List ℕ) (xs : List HeldList) (vs : List Passage) → AreComing nodes r keep xs vs → AreMadeBy nodes (state_over w marks r).edges b (w ++ b ∷ []) (edge_points w marks) (r.marks + 1) keep xs vs
  made_by keep [] [] a = tt
  made_by keep [] (v ∷ vs) a = absurd a
  made_by keep (x ∷ xs) [] a = absurd a
  made_by keep (x ∷ xs) (v ∷ vs) a = (a.0, a.1, comes v.links (items_by_number (r.marks + 1) keep x.items) a.2, made_by keep xs vs a.3)

pub right_learnt : (t : Transducer) (nodes : List MNode) (r : HeldRow) (class : ℕ) (e : RowEdge) → IsLearnt t nodes r class e → IsRightAt t nodes r class e
right_learnt t nodes r class e l = record {
  by = record { target = l.by.target; out = l.out; regs = l.regs };
  state = l.state;
  node = l.to;
  right = λ w marks h.
      let ends = have_ends w (points_of w marks) r.lists in
      record { by = l.by; goes = l.goes; target = refl; from = l.from; out = l.out_tracks (state_over w marks r).edges ends; regs = tracked nodes r.lists (state_over w marks r).edges l.by.update.regs l.regs ends l.regs_track };
  outs = λ w marks b h. comes nodes r w marks b h l.out.links e.outs l.outs;
  regs = λ w marks b h. made_by nodes r w marks b h e.keep e.to.lists l.regs l.lists;
  keep = l.keep;
  count = l.count;
  outs_within = l.outs_within;
  within = l.within;
}
