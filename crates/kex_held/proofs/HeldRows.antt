-- From a right row, along a right edge, comes a right row.
use Rattle.std.proofs.Common.{◌≡◌, ℕ, zero, suc, ◌≤◌, ◌<◌, ◌+◌, ◌-◌, List, [], ◌∷◌, ◌++◌, Some, map, length, drop, get_or, refl, sym, ap, ap₂, subst, ◌∙◌, arith, ⊎_elim, length-append, length-drop}
use Rattle.std.specs.Prelude.{slice_get}
use Rattle.std.proofs.lemmas.List.{get_or_append_left, get_or_push, map-append, length-map}
use Rattle.std.proofs.lemmas.Bool.{cases_lt}
use Rattle.kex_code.specs.declared.symbol.Symbol.{Symbol}
use Rattle.kex_machine.specs.declared.MNode.{MNode}
use Rattle.kex_action.specs.declared.action.Action.TheVariants.{Byte, Node}
use Rattle.kex_sst.specs.Tables.{Transducer}
use Rattle.kex_sst.specs.Passes.{passes_if}
use Rattle.kex_held.specs.Acts.{bytes, effect, MakeSame}
use Rattle.kex_held.specs.TreeEdges.{TreeEdge, DoesActs, AreHeld, acts_at}
use Rattle.kex_held.specs.declared.link.Link.{Link}
use Rattle.kex_held.specs.declared.link.Link.TheVariants.{Whole, Own}
use Rattle.kex_held.specs.Tracks.{HeldList, acts_by_links, Passage, edge_by}
use Rattle.kex_held.specs.HeldRuns.{pass_with}
use Rattle.kex_held.specs.declared.item.HeldItem.{HeldItem}
use Rattle.kex_held.specs.Slices.{slice_between, acts_over, AreRising, points_of, edge_points, AreKept, marks_by, shifted_marks}
use Rattle.kex_held.specs.HeldRows.{tree_edges_of, HeldRow, state_over, AreListsWithin, FitsWindow, RowEdge, AreMadeBy, IsRightAt, items_if, items_by_links}
use Rattle.kex_held.proofs.ActLists.{does_same}
use Rattle.kex_held.proofs.HeldRuns.{OneOn, one_on}
use Rattle.kex_held.proofs.WindowSlices.{between_last, points_rise, edge_points_rise, count_points, count_edge_points, rising_kept, rising_carried, acts_longer, acts_by_number, acts_carried, points_carried}

-- the points of an edge that are numbers m and m + 1: where the window ends before the byte, and after it
pub point_before : (w marks : List ℕ) → get_or (edge_points w marks) (length marks) 0 ≡ length w
point_before w marks = get_or_append_left (points_of w marks) ((length w + 1) ∷ []) 0 (length marks) (omega (arith, count_points w marks)) ∙ get_or_push marks (length w) 0 (length marks) refl

pub point_behind : (w marks : List ℕ) → get_or (edge_points w marks) (length marks + 1) 0 ≡ length w + 1
point_behind w marks = get_or_push (points_of w marks) (length w + 1) 0 (length marks + 1) (count_points w marks)

-- the lists of a row, over a window that is a byte longer
module _ (nodes : List MNode) (olds : List TreeEdge) (b : ℕ) (w points keep : List ℕ) (last end : ℕ) (at_last : get_or points last 0 ≡ end) where
  -- what the new registers hold does what the new lists come to
  pub held_made : (xs : List HeldList) (vs : List Passage) (codes : List (List Symbol)) → AreHeld nodes (map (λ v. edge_by olds b v) vs) codes → AreMadeBy nodes olds b w points last keep xs vs → AreListsWithin (length keep + 1) xs → AreHeld nodes (tree_edges_of w (marks_by points keep ++ end ∷ []) xs) codes
  held_made [] [] codes h m within = h
  held_made [] (v ∷ vs) codes h m within = absurd m
  held_made (x ∷ xs) [] codes h m within = absurd m
  held_made (x ∷ xs) (v ∷ vs) [] h m within = absurd h
  held_made (x ∷ xs) (v ∷ vs) (c ∷ cs) h m within =
      let same : MakeSame nodes (acts_by_links olds b v.links) (acts_over w (marks_by points keep ++ end ∷ []) x.items) = subst (λ l. MakeSame nodes (acts_by_links olds b v.links) l) (acts_by_number w points keep last end x.items at_last within.0) m.2 in
      let one : DoesActs nodes v.from c v.to (acts_over w (marks_by points keep ++ end ∷ []) x.items) = does_same nodes v.from v.to c (acts_by_links olds b v.links) (acts_over w (marks_by points keep ++ end ∷ []) x.items) h.0 same in
      (subst (λ t. DoesActs nodes x.from c t (acts_over w (marks_by points keep ++ end ∷ []) x.items)) (sym m.1) (subst (λ n. DoesActs nodes n c v.to (acts_over w (marks_by points keep ++ end ∷ []) x.items)) (sym m.0) one), held_made xs vs cs h.1 m.3 within.1)

-- a byte by an edge that is right
pub record RowOn (t : Transducer) (nodes : List MNode) (r : HeldRow) (e : RowEdge) (w marks : List ℕ) (b : ℕ) (regs : List (List Symbol)) : Type 0 where
  pub said : List Symbol
  pub registers : List (List Symbol)
  pub passed : (c : List Symbol) → passes_if t (Some (pass_with (state_over w marks r) c regs)) (b ∷ []) ≡ Some (pass_with (state_over (w ++ b ∷ []) (marks_by (edge_points w marks) e.keep) e.to) (c ++ said) registers)
  pub held : AreHeld nodes (state_over (w ++ b ∷ []) (marks_by (edge_points w marks) e.keep) e.to).edges registers
  pub stands : FitsWindow (w ++ b ∷ []) (marks_by (edge_points w marks) e.keep) e.to
  pub spells : DoesActs nodes r.node said e.to.node (acts_over (w ++ b ∷ []) (edge_points w marks) e.outs)

pub row_on : (t : Transducer) (nodes : List MNode) (r : HeldRow) (class : ℕ) (e : RowEdge) (w marks : List ℕ) (b : ℕ) (regs : List (List Symbol)) → slice_get t.classes b ≡ Some class → IsRightAt t nodes r class e → FitsWindow w marks r → AreHeld nodes (state_over w marks r).edges regs → RowOn t nodes r e w marks b regs
row_on t nodes r class e w marks b regs is right stands held = record {
  said = one.said;
  registers = one.registers;
  passed = λ c. one.passed c ∙ ap (λ (q : ℕ). Some (record { state = q; code = c ++ one.said; registers = one.registers })) (sym right.state);
  held = new;
  stands = record {
    count = length-map e.keep (λ i. get_or points i 0) ∙ right.count;
    rising = subst (λ n. AreRising n (marks_by points e.keep)) (sym long) (rising_kept (length w + 1) points e.keep (edge_points_rise w marks stands.rising) (subst (λ n. AreKept n e.keep) (sym all) right.keep));
    within = right.within;
  };
  spells = subst (λ n. DoesActs nodes r.node one.said n (acts_over w' points e.outs)) (sym right.node) (does_same nodes r.node right.by.out.to one.said (acts_by_links edges b right.by.out.links) (acts_over w' points e.outs) one.spells (right.outs w marks b stands));
}
  where
    w' : List ℕ
    w' = w ++ b ∷ []

    points : List ℕ
    points = edge_points w marks

    edges : List TreeEdge
    edges = (state_over w marks r).edges

    long : length w' ≡ length w + 1
    long = length-append w (b ∷ [])

    all : length points ≡ r.marks + 2
    all = count_edge_points w marks ∙ ap (λ n. n + 2) stands.count

    last : get_or points (r.marks + 1) 0 ≡ length w'
    last = ap (λ n. get_or points (n + 1) 0) (sym stands.count) ∙ point_behind w marks ∙ sym long

    one : OneOn t nodes (state_over w marks r) right.by b regs
    one = one_on t nodes (state_over w marks r) class right.by b regs is (right.right w marks stands) held

    new : AreHeld nodes (state_over w' (marks_by points e.keep) e.to).edges one.registers
    new = held_made nodes edges b w' points e.keep (r.marks + 1) (length w') last e.to.lists right.by.regs one.registers one.held (right.regs w marks b stands) (subst (λ n. AreListsWithin (n + 1) e.to.lists) (sym right.count) right.within)

-- how the lists of an edge are made: what the links name, by the edge's points
acts_over-append : (w points : List ℕ) (xs ys : List HeldItem) → acts_over w points (xs ++ ys) ≡ acts_over w points xs ++ acts_over w points ys
acts_over-append w points xs ys = map-append _ xs ys

pub acts_old : (w x points : List ℕ) (p : ℕ) (xs : List HeldList) (r : ℕ) → AreRising (length w) points → AreListsWithin (length points) xs → acts_over (w ++ x) (points ++ p ∷ []) (items_if (slice_get xs r)) ≡ acts_at (tree_edges_of w points xs) r
acts_old w x points p [] r rise h = refl
acts_old w x points p (s ∷ xs) zero rise h = acts_longer w x points p s.items rise h.0
acts_old w x points p (s ∷ xs) (suc r) rise h = acts_old w x points p xs r rise h.1

pub links_right : (w marks : List ℕ) (r : HeldRow) (b : ℕ) (links : List Link) → FitsWindow w marks r → acts_over (w ++ b ∷ []) (edge_points w marks) (items_by_links r.lists r.marks links) ≡ acts_by_links (state_over w marks r).edges b links
links_right w marks r b [] h = refl
links_right w marks r b (Whole i ∷ rest) h =
    let within = subst (λ n. AreListsWithin n r.lists) (sym (count_points w marks ∙ ap (λ n. n + 1) h.count)) h.within in
    acts_over-append (w ++ b ∷ []) (edge_points w marks) (items_if (slice_get r.lists i)) (items_by_links r.lists r.marks rest)
    ∙ ap₂ (λ x y. x ++ y) (acts_old w (b ∷ []) (points_of w marks) (length w + 1) r.lists i (points_rise w marks h.rising) within) (links_right w marks r b rest h)
links_right w marks r b (Own Byte ∷ rest) h =
    let from : get_or (edge_points w marks) r.marks 0 ≡ length w = ap (λ n. get_or (edge_points w marks) n 0) (sym h.count) ∙ point_before w marks in
    let to : get_or (edge_points w marks) (r.marks + 1) 0 ≡ length w + 1 = ap (λ n. get_or (edge_points w marks) (n + 1) 0) (sym h.count) ∙ point_behind w marks in
    ap₂ (λ x y. bytes x ∷ y) (ap₂ (λ i j. slice_between (w ++ b ∷ []) i j) from to ∙ between_last w b) (links_right w marks r b rest h)
links_right w marks r b (Own (Node n) ∷ rest) h = ap (λ l. effect n ∷ l) (links_right w marks r b rest h)

-- the window is carried: its front is left behind, up to no more than the least mark
pub record Carried (w marks : List ℕ) (k : ℕ) (r : HeldRow) : Type 0 where
  pub stands : FitsWindow (drop k w) (shifted_marks k marks) r
  pub same : state_over (drop k w) (shifted_marks k marks) r ≡ state_over w marks r

edges_carried : (w points : List ℕ) (k : ℕ) (xs : List HeldList) → AreRising (length w) points → ((i : ℕ) → i < length points → k ≤ get_or points i 0) → AreListsWithin (length points) xs → tree_edges_of (drop k w) (shifted_marks k points) xs ≡ tree_edges_of w points xs
edges_carried w points k [] r le h = refl
edges_carried w points k (x ∷ xs) r le h = ap₂ (λ l m. record { from = x.from; to = x.to; acts = l } ∷ m) (acts_carried w points k (length w) x.items r le h.0) (edges_carried w points k xs r le h.1)

pub row_carried : (w marks : List ℕ) (k : ℕ) (r : HeldRow) → FitsWindow w marks r → k ≤ length w → ((i : ℕ) → i < length marks → k ≤ get_or marks i 0) → Carried w marks k r
row_carried w marks k r h le low = record {
  stands = record {
    count = length-map marks (λ p. p - k) ∙ h.count;
    rising = subst (λ n. AreRising n (shifted_marks k marks)) (sym (length-drop k w)) (rising_carried (length w) k marks h.rising);
    within = h.within;
  };
  same = ap (λ l. record { state = r.state; node = r.node; edges = l }) (ap (λ p. tree_edges_of (drop k w) p r.lists) (points_carried w marks k) ∙ edges_carried w (points_of w marks) k r.lists (points_rise w marks h.rising) all within);
}
  where
    within : AreListsWithin (length (points_of w marks)) r.lists
    within = subst (λ n. AreListsWithin n r.lists) (sym (count_points w marks ∙ ap (λ n. n + 1) h.count)) h.within

    all : (i : ℕ) → i < length (points_of w marks) → k ≤ get_or (points_of w marks) i 0
    all i lt = ⊎_elim
        (λ l. omega (arith, get_or_append_left marks (length w ∷ []) 0 i l, low i l))
        (λ l. omega (arith, get_or_push marks (length w) 0 i (omega (arith, l, lt, count_points w marks)), le))
        (cases_lt i (length marks))
