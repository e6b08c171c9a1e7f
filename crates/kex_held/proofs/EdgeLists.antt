-- The lists of an edge: what links name, by the numbers that its points get.
use Rattle.std.proofs.Common.{◌≡◌, ◌≤◌, ◌<◌, ◌+◌, ℕ, zero, suc, List, [], ◌∷◌, ◌++◌, Option, Some, None, IfSome, take, get_or, length, refl, sym, ap, subst, ◌∙◌, arith, ⊎_elim, append_assoc, length-append}
use Rattle.std.specs.Prelude.{slice_get}
use Rattle.std.proofs.lemmas.List.{take_more, get_or_append_left, get_or_push}
use Rattle.std.proofs.lemmas.Bool.{cases_lt}
use Rattle.kex_machine.specs.declared.MNode.{MNode}
use Rattle.kex_machine.specs.Nodes.{Graph}
use Rattle.kex_action.specs.declared.action.Action.TheVariants.{Byte, Node}
use Rattle.kex_sst.specs.declared.parts.Part.{Part}
use Rattle.kex_sst.specs.declared.table.Transition.{Transition}
use Rattle.kex_sst.specs.Tables.{Transducer, transition_of}
use Rattle.kex_held.specs.declared.item.HeldItem.{HeldItem}
use Rattle.kex_held.specs.declared.item.HeldItem.TheVariants.{Slice, Effect}
use Rattle.kex_held.specs.declared.link.Link.{Link}
use Rattle.kex_held.specs.declared.link.Link.TheVariants.{Whole, Own}
use Rattle.kex_held.specs.Tracks.{HeldList, Passage, TracksAny}
use Rattle.kex_held.specs.Slices.{AreItemsWithin, ListGoesOn, AreKept, items_by_number}
use Rattle.kex_held.specs.HeldRows.{HeldRow, RowEdge, AreListsWithin, items_if, items_by_links}
use Rattle.kex_held.specs.LearntEdges.{AreTrackedAny, ComesToLinks, AreComing, IsLearnt, IsRowWithin, AreListsOf, AreRenumbered, IsEdgeWith}
use Rattle.kex_held.proofs.ListJoins.{within_append}

-- links one after the other
pub links-append : (xs : List HeldList) (m : ℕ) (us vs : List Link) → items_by_links xs m (us ++ vs) ≡ items_by_links xs m us ++ items_by_links xs m vs
links-append xs m [] vs = refl
links-append xs m (Whole r ∷ us) vs = ap (λ l. items_if (slice_get xs r) ++ l) (links-append xs m us vs) ∙ sym (append_assoc (items_if (slice_get xs r)) (items_by_links xs m us) (items_by_links xs m vs))
links-append xs m (Own Byte ∷ us) vs = ap (λ l. Slice m (m + 1) ∷ l) (links-append xs m us vs)
links-append xs m (Own (Node n) ∷ us) vs = ap (λ l. Effect n ∷ l) (links-append xs m us vs)

-- a link more
pub links_more : (xs : List HeldList) (m : ℕ) (links : List Link) (i : ℕ) (d : Link) → i < length links → items_by_links xs m (take (i + 1) links) ≡ items_by_links xs m (take i links) ++ items_by_links xs m (get_or links i d ∷ [])
links_more xs m links i d lt = ap (items_by_links xs m) (take_more links i d lt) ∙ links-append xs m (take i links) (get_or links i d ∷ [])

within_wider : (count more : ℕ) (items : List HeldItem) → count ≤ more → AreItemsWithin count items → AreItemsWithin more items
within_wider count more [] le h = tt
within_wider count more (Slice i j ∷ items) le h = ((h.0.0, omega (arith, le, h.0.1)), within_wider count more items le h.1)
within_wider count more (Effect n ∷ items) le h = (tt, within_wider count more items le h.1)

old_within : (m : ℕ) (xs : List HeldList) (r : ℕ) → AreListsWithin (m + 1) xs → AreItemsWithin (m + 2) (items_if (slice_get xs r))
old_within m [] r h = tt
old_within m (x ∷ xs) zero h = within_wider (m + 1) (m + 2) x.items (omega arith) h.0
old_within m (x ∷ xs) (suc r) h = old_within m xs r h.1

-- what links name lies between the edge's points
pub links_within : (xs : List HeldList) (m : ℕ) (links : List Link) → AreListsWithin (m + 1) xs → AreItemsWithin (m + 2) (items_by_links xs m links)
links_within xs m [] h = tt
links_within xs m (Whole r ∷ links) h = within_append (m + 2) (items_if (slice_get xs r)) (items_by_links xs m links) (old_within m xs r h) (links_within xs m links h)
links_within xs m (Own Byte ∷ links) h = ((omega arith, omega arith), links_within xs m links h)
links_within xs m (Own (Node n) ∷ links) h = (tt, links_within xs m links h)

-- the new lists come to the links
comes : (nodes : List MNode) (r : HeldRow) (keep : List ℕ) (vs : List Passage) (xs ys : List HeldList) → AreListsWithin (r.marks + 1) r.lists → AreListsOf nodes r.lists r.marks vs xs → AreRenumbered (r.marks + 1) keep xs ys → AreComing nodes r keep ys vs
comes nodes r keep [] [] [] h p q = tt
comes nodes r keep [] [] (y ∷ ys) h p q = absurd q
comes nodes r keep [] (x ∷ xs) ys h p q = absurd p
comes nodes r keep (v ∷ vs) [] ys h p q = absurd p
comes nodes r keep (v ∷ vs) (x ∷ xs) [] h p q = absurd q
comes nodes r keep (v ∷ vs) (x ∷ xs) (y ∷ ys) h p q = (q.0 ∙ p.0, q.1 ∙ p.1, subst (ComesToLinks nodes r v.links) (sym q.2) (p.2.same (r.marks + 2) (links_within r.lists r.marks v.links h)), comes nodes r keep vs xs ys h p.3 q.4)

renumbered_within : (last : ℕ) (keep : List ℕ) (xs ys : List HeldList) → AreRenumbered last keep xs ys → AreListsWithin (length keep + 1) ys
renumbered_within last keep [] [] q = tt
renumbered_within last keep [] (y ∷ ys) q = absurd q
renumbered_within last keep (x ∷ xs) [] q = absurd q
renumbered_within last keep (x ∷ xs) (y ∷ ys) q = (q.3, renumbered_within last keep xs ys q.4)

pub kept_wider : (count more : ℕ) (keep : List ℕ) → AreKept count keep → count ≤ more → AreKept more keep
kept_wider count more keep k le = record { rise = k.rise; within = λ i lt. omega (arith, k.within i lt, le) }

-- an edge that is made so is learnt
pub learnt_edge : (t : Transducer) (nodes : List MNode) (r : HeldRow) (class : ℕ) (e : RowEdge) (by : Transition) (out : Passage) (regs : List Passage) (outs : List HeldItem) (xs : List HeldList) → AreListsWithin (r.marks + 1) r.lists → transition_of t r.state class ≡ Some by → out.from ≡ r.node → TracksAny nodes r.lists by.update.out out.from out.to out.links → AreTrackedAny nodes r.lists by.update.regs regs → ListGoesOn nodes [] (items_by_links r.lists r.marks out.links) outs → AreListsOf nodes r.lists r.marks regs xs → IsEdgeWith by.target out.to (r.marks + 1) outs xs e → IsLearnt t nodes r class e
learnt_edge t nodes r class e by out regs outs xs h goes from tracks all list lists s =
    let named = links_within r.lists r.marks out.links h in
    record {
      by = by;
      goes = goes;
      state = s.state_is;
      out = out;
      regs = regs;
      from = from;
      to = s.node_is;
      out_tracks = tracks;
      regs_track = all;
      outs = subst (ComesToLinks nodes r out.links) (sym s.outs_are) (list.same (r.marks + 2) named);
      lists = comes nodes r e.keep regs xs e.to.lists h lists s.renumbered;
      keep = kept_wider (r.marks + 1) (r.marks + 2) e.keep s.keep (omega arith);
      count = s.count;
      outs_within = subst (AreItemsWithin (r.marks + 2)) (sym s.outs_are) (list.within (r.marks + 2) named);
      within = subst (λ n. AreListsWithin (n + 1) e.to.lists) s.count (renumbered_within (r.marks + 1) e.keep xs e.to.lists s.renumbered);
    }

pub row_behind : (t : Transducer) (g : Graph) (state node last : ℕ) (outs : List HeldItem) (xs : List HeldList) (e : RowEdge) → state < length t.states → node < length g.nodes → IsEdgeWith state node last outs xs e → IsRowWithin t g e.to
row_behind t g state node last outs xs e lt lt' s = record {
  state = subst (λ n. n < length t.states) (sym s.state_is) lt;
  node = subst (λ n. n < length g.nodes) (sym s.node_is) lt';
  marks = s.few;
  within = subst (λ n. AreListsWithin (n + 1) e.to.lists) s.count (renumbered_within last e.keep xs e.to.lists s.renumbered);
}

-- one more each
pub tracked_push : (nodes : List MNode) (olds : List HeldList) (lists : List (List Part)) (vs : List Passage) (parts : List Part) (v : Passage) → AreTrackedAny nodes olds lists vs → TracksAny nodes olds parts v.from v.to v.links → AreTrackedAny nodes olds (lists ++ parts ∷ []) (vs ++ v ∷ [])
tracked_push nodes olds [] [] parts v p q = (q, tt)
tracked_push nodes olds [] (u ∷ vs) parts v p q = absurd p
tracked_push nodes olds (xs ∷ lists) [] parts v p q = absurd p
tracked_push nodes olds (xs ∷ lists) (u ∷ vs) parts v p q = (p.0, tracked_push nodes olds lists vs parts v p.1 q)

pub lists_push : (nodes : List MNode) (olds : List HeldList) (m : ℕ) (vs : List Passage) (xs : List HeldList) (v : Passage) (items : List HeldItem) → AreListsOf nodes olds m vs xs → ListGoesOn nodes [] (items_by_links olds m v.links) items → AreListsOf nodes olds m (vs ++ v ∷ []) (xs ++ (record { from = v.from; to = v.to; items = items }) ∷ [])
lists_push nodes olds m [] [] v items p q = (refl, refl, q, tt)
lists_push nodes olds m [] (y ∷ xs) v items p q = absurd p
lists_push nodes olds m (u ∷ vs) [] v items p q = absurd p
lists_push nodes olds m (u ∷ vs) (y ∷ xs) v items p q = (p.0, p.1, p.2, lists_push nodes olds m vs xs v items p.3 q)

pub renumbered_push : (last : ℕ) (keep : List ℕ) (xs ys : List HeldList) (x : HeldList) (items : List HeldItem) → AreRenumbered last keep xs ys → items_by_number last keep items ≡ x.items → AreItemsWithin (length keep + 1) items → AreRenumbered last keep (xs ++ x ∷ []) (ys ++ (record { from = x.from; to = x.to; items = items }) ∷ [])
renumbered_push last keep [] [] x items p q w = (refl, refl, q, w, tt)
renumbered_push last keep [] (y ∷ ys) x items p q w = absurd p
renumbered_push last keep (z ∷ xs) [] x items p q w = absurd p
renumbered_push last keep (z ∷ xs) (y ∷ ys) x items p q w = (p.0, p.1, p.2, p.3, renumbered_push last keep xs ys x items p.4 q w)

-- a point more is kept, after all others
pub kept_push : (p : ℕ) (keep : List ℕ) → AreKept p keep → AreKept (p + 1) (keep ++ p ∷ [])
kept_push p keep k = record { rise = rise; within = at }
  where
    more : List ℕ
    more = keep ++ p ∷ []

    long : length more ≡ length keep + 1
    long = length-append keep (p ∷ [])

    old_at : (i : ℕ) → i < length keep → get_or more i 0 ≡ get_or keep i 0
    old_at i lt = get_or_append_left keep (p ∷ []) 0 i lt

    last_at : (i : ℕ) → length keep ≤ i → i < length more → get_or more i 0 ≡ p
    last_at i le lt = get_or_push keep p 0 i (omega (arith, le, lt, long))

    at : (i : ℕ) → i < length more → get_or more i 0 < p + 1
    at i lt = ⊎_elim (λ l. omega (arith, old_at i l, k.within i l)) (λ l. omega (arith, last_at i l lt)) (cases_lt i (length keep))

    rise : (i j : ℕ) → i ≤ j → j < length more → get_or more i 0 ≤ get_or more j 0
    rise i j l lt = ⊎_elim
        (λ q. omega (arith, old_at i (omega (arith, l, q)), old_at j q, k.rise i j l q))
        (λ q. omega (arith, last_at j q lt, at i (omega (arith, l, lt))))
        (cases_lt j (length keep))

-- what holds of a value, if there is one
pub map_some : {X : Type 0} (P Q : X → Type 0) (o : Option X) → ((x : X) → P x → Q x) → IfSome o P → IfSome o Q
map_some P Q None f p = tt
map_some P Q (Some x) f p = f x p
