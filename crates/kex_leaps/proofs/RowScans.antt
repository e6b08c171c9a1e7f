-- A scan goes on along what is noted of rows.
use Rattle.std.proofs.Common.{◌≡◌, ℕ, zero, suc, ◌≤◌, ◌<◌, ◌+◌, ◌-◌, List, [], ◌∷◌, ◌++◌, Some, All, length, take, get_or, refl, sym, ap, ap₂, subst, ◌∙◌, arith, append-nil, append_assoc}
use Rattle.std.specs.Prelude.{slice_get}
use Rattle.std.proofs.lemmas.List.{take_more, take-append-le, map-append, length-append, length-map, length-take-le, get_or-map, ext_get_or, take_all, get_or_append_left}
use Rattle.std.proofs.lemmas.List.Elements.{All-append, All-push}
use Rattle.std.proofs.lemmas.Option.{slice_get-get_or, slice_get_within}
use Rattle.kex_byteset.specs.Classes.{class_at}
use Rattle.kex_code.specs.declared.symbol.Symbol.{Symbol}
use Rattle.kex_machine.specs.declared.MNode.{MNode}
use Rattle.kex_machine.specs.Nodes.{Graph}
use Rattle.kex_sst.specs.Tables.{Transducer}
use Rattle.kex_sst.specs.Passes.{passes_if}
use Rattle.kex_sst.proofs.Passes.{passes_more}
use Rattle.kex_held.specs.declared.item.HeldItem.{HeldItem}
use Rattle.kex_held.specs.declared.item.HeldItem.TheVariants as items
use Rattle.kex_held.specs.Acts.{bytes, effect, after_acts}
use Rattle.kex_held.specs.TreeEdges.{DoesActs, AreHeld}
use Rattle.kex_held.specs.HeldRuns.{pass_with}
use Rattle.kex_held.specs.Slices.{acts_over, AreRising, points_of, edge_points, slice_between, IsItemWithin, AreItemsWithin, AreKept, marks_by}
use Rattle.kex_held.specs.Windows.{points_at}
use Rattle.kex_held.specs.HeldRows.{HeldRow, RowEdge, state_over, FitsWindow, tree_edges_of}
use Rattle.kex_held.specs.LearntEdges.{IsLearnt}
use Rattle.kex_held.proofs.ActLists.{does_none, does_more, does_same}
use Rattle.kex_held.proofs.ListJoins.{same_within, slices_joined}
use Rattle.kex_held.proofs.HeldRows.{RowOn, row_on}
use Rattle.kex_held.proofs.LearntEdges.{right_learnt}
use Rattle.kex_held.proofs.MarkedTexts.{count_at, at_mark, points_same, points_rise_at, slice_read}
use Rattle.kex_held_rows.specs.NumberedEdges.{NumberedEdge}
use Rattle.kex_held_rows.specs.declared.note.RowNote.TheVariants.{Marks, Goes}
use Rattle.kex_held_rows.specs.Books.{RowNotes, RowBook, rows_in, bare_row, AreFirst, StaysAtRow, HandsOnAtRow, IsNoteRight, KeepsRows}
use Rattle.kex_held_rows.proofs.RowBooks.{kept_at}
use Rattle.kex_leaps.specs.declared.act.LeapAct.{LeapAct}
use Rattle.kex_leaps.specs.declared.act.LeapAct.TheVariants.{Text, Effect}
use Rattle.kex_leaps.proofs.KeptMarks.{firsts_marked}
use Rattle.kex_leaps.specs.Leaps.{act_in, acts_in, IsActWithin, AreActsWithin, leap_act, leap_acts, without_registers, IsLeap, HasScanned}

-- what an edge's items come to over what was read is what their acts come to in the piece
acts_read : (piece : List ℕ) (at : ℕ) (marks : List ℕ) (xs : List HeldItem) → at < length piece → AreRising at marks → AreItemsWithin (length marks + 2) xs → acts_over (take (at + 1) piece) (points_at at marks) xs ≡ acts_in piece (leap_acts at marks xs)
acts_read piece at marks [] lt rise h = refl
acts_read piece at marks (items.Slice i j ∷ xs) lt rise h =
    let r = points_rise_at at marks rise in
    let inside : j < length (points_at at marks) = omega (arith, h.0.1, count_at at marks) in
    let same = slice_read piece at (get_or (points_at at marks) i 0) (get_or (points_at at marks) j 0) (r.rise i j h.0.0 inside) (r.within j inside) lt in
    ap₂ (λ a l. bytes a ∷ l) (sym same) (acts_read piece at marks xs lt rise h.1)
acts_read piece at marks (items.Effect n ∷ xs) lt rise h = ap (λ l. effect n ∷ l) (acts_read piece at marks xs lt rise h.1)

-- and they lie within it
acts_within : (at : ℕ) (marks : List ℕ) (xs : List HeldItem) → AreRising at marks → AreItemsWithin (length marks + 2) xs → AreActsWithin (at + 1) (leap_acts at marks xs)
acts_within at marks [] rise h = λ i d lt. absurd (omega (arith, lt))
acts_within at marks (items.Slice i j ∷ xs) rise h =
    let r = points_rise_at at marks rise in
    let inside : j < length (points_at at marks) = omega (arith, h.0.1, count_at at marks) in
    All-append (IsActWithin (at + 1)) (Text (get_or (points_at at marks) i 0) (get_or (points_at at marks) j 0) ∷ []) (leap_acts at marks xs) (one (Text (get_or (points_at at marks) i 0) (get_or (points_at at marks) j 0)) (r.rise i j h.0.0 inside, r.within j inside)) (acts_within at marks xs rise h.1)
  where
    one : (x : LeapAct) → IsActWithin (at + 1) x → All (IsActWithin (at + 1)) (x ∷ [])
    one x p zero d lt = p
    one x p (suc k) d lt = absurd (omega (arith, lt))
acts_within at marks (items.Effect n ∷ xs) rise h = All-append (IsActWithin (at + 1)) (Effect n ∷ []) (leap_acts at marks xs) one (acts_within at marks xs rise h.1)
  where
    one : All (IsActWithin (at + 1)) (Effect n ∷ [])
    one zero d lt = tt
    one (suc i) d lt = absurd (omega (arith, lt))

within_more : (a b : ℕ) (x : LeapAct) → a ≤ b → IsActWithin a x → IsActWithin b x
within_more a b (Text i j) le h = (h.0, omega (arith, h.1, le))
within_more a b (Effect n) le h = tt

acts-append : (piece : List ℕ) (xs ys : List LeapAct) → acts_in piece (xs ++ ys) ≡ acts_in piece xs ++ acts_in piece ys
acts-append piece xs ys = map-append (λ x. act_in piece x) xs ys

-- where nothing is read
pub scan_begins : (t : Transducer) (nodes : List MNode) (rows : List HeldRow) (q n row : ℕ) (piece marks : List ℕ) (acts : List LeapAct) → slice_get rows row ≡ Some (bare_row q n) → marks ≡ [] → acts ≡ [] → HasScanned t nodes rows q n piece 0 row marks acts
scan_begins t nodes rows q n row piece marks acts is unmarked none =
    subst (λ m. HasScanned t nodes rows q n piece 0 row m acts) (sym unmarked) (subst (λ l. HasScanned t nodes rows q n piece 0 row [] l) (sym none) first)
  where
    first : HasScanned t nodes rows q n piece 0 row [] []
    first = record {
      to = bare_row q n;
      is = is;
      fits = record { count = refl; rising = record { rise = λ i j l lt. absurd (omega (arith, lt)); within = λ i lt. absurd (omega (arith, lt)) }; within = tt };
      said = [];
      registers = [];
      passed = λ c. ap (λ l. Some (pass_with (without_registers q n) l [])) (sym (append-nil c));
      held = tt;
      does = does_none nodes n;
      within = λ i d lt. absurd (omega (arith, lt));
    }

-- along an edge that is learnt, at a byte of its class
pub scan_goes : (t : Transducer) (nodes : List MNode) (rows : List HeldRow) (q n : ℕ) (piece : List ℕ) (at row class row' : ℕ) (marks : List ℕ) (acts : List LeapAct) (e : RowEdge) → (s : HasScanned t nodes rows q n piece at row marks acts) → at < length piece → slice_get t.classes (get_or piece at 0) ≡ Some class → IsLearnt t nodes s.to class e → slice_get rows row' ≡ Some e.to → HasScanned t nodes rows q n piece (at + 1) row' (marks_by (points_at at marks) e.keep) (acts ++ leap_acts at marks e.outs)
scan_goes t nodes rows q n piece at row class row' marks acts e s lt is learnt to = record {
  to = e.to;
  is = to;
  fits = subst (λ l. FitsWindow l (marks_by points e.keep) e.to) more (subst (λ p. FitsWindow (w ++ b ∷ []) (marks_by p e.keep) e.to) same on.stands);
  said = s.said ++ on.said;
  registers = on.registers;
  passed = λ c.
      let first = ap (λ l. passes_if t (Some (pass_with (without_registers q n) c [])) l) (sym more) ∙ passes_more t (Some (pass_with (without_registers q n) c [])) w (b ∷ []) ∙ ap (λ o. passes_if t o (b ∷ [])) (s.passed c) ∙ on.passed (c ++ s.said) in
      first ∙ ap (λ l. Some (pass_with (state_over (w ++ b ∷ []) (marks_by (edge_points w marks) e.keep) e.to) l on.registers)) (append_assoc c s.said on.said)
      ∙ ap₂ (λ v p. Some (pass_with (state_over v (marks_by p e.keep) e.to) (c ++ (s.said ++ on.said)) on.registers)) more same;
  held = subst (λ l. AreHeld nodes (state_over l (marks_by points e.keep) e.to).edges on.registers) more (subst (λ p. AreHeld nodes (state_over (w ++ b ∷ []) (marks_by p e.keep) e.to).edges on.registers) same on.held);
  does = subst (λ l. DoesActs nodes n (s.said ++ on.said) e.to.node l) all (does_more nodes n s.to.node e.to.node s.said on.said (acts_in piece acts) (acts_over (w ++ b ∷ []) (edge_points w marks) e.outs) s.does on.spells);
  within = All-append (IsActWithin (at + 1)) acts (leap_acts at marks e.outs) (λ i d l. within_more at (at + 1) (get_or acts i d) (omega arith) (s.within i d l)) (acts_within at marks e.outs rising inside);
}
  where
    w : List ℕ
    w = take at piece

    b : ℕ
    b = get_or piece at 0

    points : List ℕ
    points = points_at at marks

    long : length w ≡ at
    long = length-take-le at piece (omega (arith, lt))

    more : w ++ b ∷ [] ≡ take (at + 1) piece
    more = sym (take_more piece at 0 lt)

    same : edge_points w marks ≡ points
    same = sym (points_same piece at marks (omega (arith, lt)))

    rising : AreRising at marks
    rising = subst (λ n. AreRising n marks) long s.fits.rising

    inside : AreItemsWithin (length marks + 2) e.outs
    inside = subst (λ n. AreItemsWithin (n + 2) e.outs) (sym s.fits.count) learnt.outs_within

    on : RowOn t nodes s.to e w marks b s.registers
    on = row_on t nodes s.to class e w marks b s.registers is (right_learnt t nodes s.to class e learnt) s.fits s.held

    all : acts_in piece acts ++ acts_over (w ++ b ∷ []) (edge_points w marks) e.outs ≡ acts_in piece (acts ++ leap_acts at marks e.outs)
    all = ap₂ (λ v p. acts_in piece acts ++ acts_over v p e.outs) more same ∙ ap (λ l. acts_in piece acts ++ l) (acts_read piece at marks e.outs lt rising inside) ∙ sym (acts-append piece acts (leap_acts at marks e.outs))

-- where a row without lists is come to
pub scan_ends : (t : Transducer) (nodes : List MNode) (rows : List HeldRow) (q n : ℕ) (piece : List ℕ) (at row : ℕ) (marks : List ℕ) (acts : List LeapAct) → (s : HasScanned t nodes rows q n piece at row marks acts) → s.to.lists ≡ [] → IsLeap t nodes q n (take at piece) (acts_in piece acts) s.to.state s.to.node
scan_ends t nodes rows q n piece at row marks acts s none = record {
  said = s.said;
  passed = λ c. s.passed c ∙ ap (λ (l : List (List Symbol)). Some (record { state = s.to.state; code = c ++ s.said; registers = l })) empty;
  does = s.does;
}
  where
    of_none : (codes : List (List Symbol)) → AreHeld nodes [] codes → codes ≡ []
    of_none [] h = refl
    of_none (c ∷ cs) h = absurd h

    empty : s.registers ≡ []
    empty = of_none s.registers (subst (λ l. AreHeld nodes (tree_edges_of (take at piece) (points_of (take at piece) marks) l) s.registers) none s.held)

-- marks of which all stay
marks_stay : (t : Transducer) (nodes : List MNode) (r : HeldRow) (class at : ℕ) (marks keep : List ℕ) (outs : List HeldItem) → AreFirst keep → IsLearnt t nodes r class (record { to = r; outs = outs; keep = keep }) → length marks ≡ r.marks → marks_by (points_at at marks) keep ≡ marks
marks_stay t nodes r class at marks keep outs first learnt count = ext_get_or 0 (marks_by (points_at at marks) keep) marks (length-map keep (λ i. get_or (points_at at marks) i 0) ∙ long) (λ i lt. each i (omega (arith, lt, length-map keep (λ i. get_or (points_at at marks) i 0))))
  where
    long : length keep ≡ length marks
    long = learnt.count ∙ sym count

    each : (i : ℕ) → i < length keep → get_or (marks_by (points_at at marks) keep) i 0 ≡ get_or marks i 0
    each i lt = get_or-map (λ i. get_or (points_at at marks) i 0) keep i 0 0 lt ∙ ap (λ k. get_or (points_at at marks) k 0) (first i lt) ∙ at_mark at marks i (omega (arith, lt, long))

-- at a byte of a class at which the row stays
pub scan_stays : (t : Transducer) (nodes : List MNode) (rows : List HeldRow) (q n : ℕ) (piece : List ℕ) (at row class : ℕ) (marks : List ℕ) (acts : List LeapAct) → (s : HasScanned t nodes rows q n piece at row marks acts) → at < length piece → slice_get t.classes (get_or piece at 0) ≡ Some class → StaysAtRow t nodes s.to class → HasScanned t nodes rows q n piece (at + 1) row marks acts
scan_stays t nodes rows q n piece at row class marks acts s lt is stays =
    let on = scan_goes t nodes rows q n piece at row class row marks acts (record { to = s.to; outs = []; keep = stays.0 }) s lt is stays.2 s.is in
    subst (λ m. HasScanned t nodes rows q n piece (at + 1) row m acts) (marks_stay t nodes s.to class at marks stays.0 [] stays.1 stays.2 s.fits.count) (subst (λ l. HasScanned t nodes rows q n piece (at + 1) row (marks_by (points_at at marks) stays.0) l) (append-nil acts) on)

-- at a byte of a class at which what is held is handed on
pub scan_hands : (t : Transducer) (nodes : List MNode) (rows : List HeldRow) (q n : ℕ) (piece : List ℕ) (at row class m : ℕ) (marks : List ℕ) (acts : List LeapAct) → (s : HasScanned t nodes rows q n piece at row marks acts) → at < length piece → slice_get t.classes (get_or piece at 0) ≡ Some class → HandsOnAtRow t nodes s.to class → marks ≡ m ∷ [] → HasScanned t nodes rows q n piece (at + 1) row (at ∷ []) (acts ++ Text m at ∷ [])
scan_hands t nodes rows q n piece at row class m marks acts s lt is hands one =
    subst (λ l. HasScanned t nodes rows q n piece (at + 1) row (marks_by (points_at at l) (1 ∷ [])) (acts ++ leap_acts at l (items.Slice 0 1 ∷ []))) one (scan_goes t nodes rows q n piece at row class row marks acts (record { to = s.to; outs = items.Slice 0 1 ∷ []; keep = 1 ∷ [] }) s lt is hands.1 s.is)

-- two texts that touch are one
scan_joined : (t : Transducer) (nodes : List MNode) (rows : List HeldRow) (q n : ℕ) (piece : List ℕ) (at row : ℕ) (marks : List ℕ) (acts : List LeapAct) (a m b : ℕ) → a ≤ m → m ≤ b → b ≤ at → HasScanned t nodes rows q n piece at row marks ((acts ++ Text a m ∷ []) ++ Text m b ∷ []) → HasScanned t nodes rows q n piece at row marks (acts ++ Text a b ∷ [])
scan_joined t nodes rows q n piece at row marks acts a m b le le' le'' s = record {
  to = s.to;
  is = s.is;
  fits = s.fits;
  said = s.said;
  registers = s.registers;
  passed = s.passed;
  held = s.held;
  does = does_same nodes n s.to.node s.said (acts_in piece apart) (acts_in piece (acts ++ Text a b ∷ [])) s.does (λ z. ap (λ l. after_acts nodes l z) before ∙ same_within nodes (acts_in piece acts) (bytes (slice_between piece a m) ∷ bytes (slice_between piece m b) ∷ []) (bytes (slice_between piece a b) ∷ []) [] (slices_joined nodes piece a m b le le') z ∙ ap (λ l. after_acts nodes l z) after);
  within = All-push (IsActWithin at) acts (Text a b) (λ i d lt. front (get_or acts i d) i d lt refl) (omega (arith, le, le'), le'');
}
  where
    apart : List LeapAct
    apart = (acts ++ Text a m ∷ []) ++ Text m b ∷ []

    before : acts_in piece apart ≡ acts_in piece acts ++ ((bytes (slice_between piece a m) ∷ bytes (slice_between piece m b) ∷ []) ++ [])
    before = ap (acts_in piece) (append_assoc acts (Text a m ∷ []) (Text m b ∷ [])) ∙ acts-append piece acts (Text a m ∷ Text m b ∷ [])

    after : acts_in piece acts ++ ((bytes (slice_between piece a b) ∷ []) ++ []) ≡ acts_in piece (acts ++ Text a b ∷ [])
    after = sym (acts-append piece acts (Text a b ∷ []))

    front : (x : LeapAct) (i : ℕ) (d : LeapAct) → i < length acts → get_or acts i d ≡ x → IsActWithin at x
    front x i d lt e = subst (IsActWithin at) (ap (λ l. get_or l i d) (append_assoc acts (Text a m ∷ []) (Text m b ∷ [])) ∙ get_or_append_left acts (Text a m ∷ Text m b ∷ []) d i lt ∙ e) (s.within i d (omega (arith, lt, length-append (acts ++ Text a m ∷ []) (Text m b ∷ []), length-append acts (Text a m ∷ []))))

-- at one byte more
pub scan_hands_on : (t : Transducer) (nodes : List MNode) (rows : List HeldRow) (q n : ℕ) (piece : List ℕ) (first at row class : ℕ) (acts : List LeapAct) → first < at → (s : HasScanned t nodes rows q n piece at row ((at - 1) ∷ []) (acts ++ Text first (at - 1) ∷ [])) → at < length piece → slice_get t.classes (get_or piece at 0) ≡ Some class → HandsOnAtRow t nodes s.to class → HasScanned t nodes rows q n piece (at + 1) row (at ∷ []) (acts ++ Text first at ∷ [])
scan_hands_on t nodes rows q n piece first at row class acts less s lt is hands =
    scan_joined t nodes rows q n piece (at + 1) row (at ∷ []) acts first (at - 1) at (omega (arith, less)) (omega arith) (omega arith) (scan_hands t nodes rows q n piece at row class (at - 1) ((at - 1) ∷ []) (acts ++ Text first (at - 1) ∷ []) s lt is hands refl)

-- a row with one mark
pub one_mark : (marks : List ℕ) (d : ℕ) → length marks ≡ 1 → marks ≡ get_or marks 0 d ∷ []
one_mark [] d e = absurd (omega (arith, e))
one_mark (m ∷ []) d e = refl
one_mark (m ∷ k ∷ marks) d e = absurd (omega (arith, e))

-- at a byte of a class at which a mark more is set
pub scan_marks : (t : Transducer) (nodes : List MNode) (rows : List HeldRow) (q n : ℕ) (piece : List ℕ) (at row class number : ℕ) (marks marks' : List ℕ) (acts acts' : List LeapAct) → (s : HasScanned t nodes rows q n piece at row marks acts) → at < length piece → slice_get t.classes (get_or piece at 0) ≡ Some class → IsNoteRight t nodes rows s.to class (Marks number) → marks' ≡ marks ++ at ∷ [] → acts' ≡ acts → HasScanned t nodes rows q n piece (at + 1) number marks' acts'
scan_marks t nodes rows q n piece at row class number marks marks' acts acts' s lt is right em ea =
    let on = scan_goes t nodes rows q n piece at row class number marks acts (record { to = right.0; outs = []; keep = keep }) s lt is right.2.3 right.1 in
    subst (λ m. HasScanned t nodes rows q n piece (at + 1) number m acts') (sym (em ∙ same)) (subst (λ l. HasScanned t nodes rows q n piece (at + 1) number (marks_by (points_at at marks) keep) l) (append-nil acts ∙ sym ea) on)
  where
    keep : List ℕ
    keep = right.2.0

    long : length keep ≡ length marks + 1
    long = right.2.2 ∙ ap (λ k. k + 1) (sym s.fits.count)

    same : marks ++ at ∷ [] ≡ marks_by (points_at at marks) keep
    same = ap (λ l. l ++ at ∷ []) (sym (take_all (length marks) marks (omega arith))) ∙ firsts_marked at marks keep (length marks) (omega arith) long (λ i less. right.2.1 i (omega (arith, less, long))) (right.2.1 (length marks) (omega (arith, long)))

pub item_in : (count : ℕ) (xs : List HeldItem) (i : ℕ) (d : HeldItem) → AreItemsWithin count xs → i < length xs → IsItemWithin count (get_or xs i d)
item_in count [] i d h lt = absurd (omega (arith, lt))
item_in count (x ∷ xs) zero d h lt = h.0
item_in count (x ∷ xs) (suc i) d h lt = item_in count xs i d h.1 (omega (arith, lt))

-- one item more
pub acts_more : (at : ℕ) (marks : List ℕ) (xs : List HeldItem) (i : ℕ) (d : HeldItem) (first acts : List LeapAct) (a : LeapAct) → i < length xs → acts ≡ first ++ leap_acts at marks (take i xs) → a ≡ leap_act at marks (get_or xs i d) → acts ++ a ∷ [] ≡ first ++ leap_acts at marks (take (i + 1) xs)
acts_more at marks xs i d first acts a lt e f =
    ap₂ (λ l x. l ++ x ∷ []) e f
    ∙ append_assoc first (leap_acts at marks (take i xs)) (leap_act at marks (get_or xs i d) ∷ [])
    ∙ ap (λ l. first ++ l) (sym (map-append (λ x. leap_act at marks x) (take i xs) (get_or xs i d ∷ [])) ∙ ap (leap_acts at marks) (sym (take_more xs i d lt)))

-- rows keep their numbers
pub scan_kept : (t : Transducer) (nodes : List MNode) (old new : RowBook) (q n : ℕ) (piece : List ℕ) (at row : ℕ) (marks : List ℕ) (acts : List LeapAct) → KeepsRows old new → HasScanned t nodes (rows_in old.rows) q n piece at row marks acts → HasScanned t nodes (rows_in new.rows) q n piece at row marks acts
scan_kept t nodes old new q n piece at row marks acts k s = record {
  to = s.to;
  is = kept_at old new row s.to k s.is;
  fits = s.fits;
  said = s.said;
  registers = s.registers;
  passed = s.passed;
  held = s.held;
  does = s.does;
  within = s.within;
}

pub class_is : (classes : List ℕ) (b class : ℕ) → length classes ≡ 256 → b < 256 → class ≡ class_at classes b → slice_get classes b ≡ Some class
class_is classes b class long lt f = slice_get-get_or classes b 0 (omega (arith, long, lt)) ∙ ap Some (sym f)

pub row_in : (xs : List RowNotes) (row : ℕ) (r : HeldRow) → slice_get (rows_in xs) row ≡ Some r → row < length xs
row_in xs row r e = let long : length (rows_in xs) ≡ length xs = length-map xs _ in omega (arith, slice_get_within (rows_in xs) row r e, long)

-- what an edge needs of the marks
pub outs_in : (t : Transducer) (nodes : List MNode) (rows : List HeldRow) (q n : ℕ) (piece : List ℕ) (at row class : ℕ) (marks : List ℕ) (acts : List LeapAct) (e : NumberedEdge) → (s : HasScanned t nodes rows q n piece at row marks acts) → IsNoteRight t nodes rows s.to class (Goes e) → AreItemsWithin (length marks + 2) e.outs
outs_in t nodes rows q n piece at row class marks acts e s right = subst (λ n. AreItemsWithin (n + 2) e.outs) (sym s.fits.count) right.2.outs_within

pub keep_in : (t : Transducer) (nodes : List MNode) (rows : List HeldRow) (q n : ℕ) (piece : List ℕ) (at row class : ℕ) (marks : List ℕ) (acts : List LeapAct) (e : NumberedEdge) → (s : HasScanned t nodes rows q n piece at row marks acts) → IsNoteRight t nodes rows s.to class (Goes e) → AreKept (length marks + 2) e.keep
keep_in t nodes rows q n piece at row class marks acts e s right = subst (λ n. AreKept (n + 2) e.keep) (sym s.fits.count) right.2.keep

-- along what is noted
pub goes_at : (t : Transducer) (nodes : List MNode) (rows : List HeldRow) (q n : ℕ) (piece : List ℕ) (at row class : ℕ) (marks marks' : List ℕ) (acts acts' : List LeapAct) (e : NumberedEdge) → (s : HasScanned t nodes rows q n piece at row marks acts) → at < length piece → slice_get t.classes (get_or piece at 0) ≡ Some class → IsNoteRight t nodes rows s.to class (Goes e) → marks' ≡ marks_by (points_at at marks) e.keep → acts' ≡ acts ++ leap_acts at marks e.outs → HasScanned t nodes rows q n piece (at + 1) e.to marks' acts'
goes_at t nodes rows q n piece at row class marks marks' acts acts' e s lt is right em ea =
    subst (λ m. HasScanned t nodes rows q n piece (at + 1) e.to m acts') (sym em) (subst (λ l. HasScanned t nodes rows q n piece (at + 1) e.to (marks_by (points_at at marks) e.keep) l) (sym ea) (scan_goes t nodes rows q n piece at row class e.to marks acts (record { to = right.0; outs = e.outs; keep = e.keep }) s lt is right.2 right.1))

pub bare_at : (rows : List HeldRow) (row : ℕ) (to r : HeldRow) → slice_get rows row ≡ Some to → slice_get rows row ≡ Some r → to.lists ≡ [] → r.lists ≡ []
bare_at rows row to r is here bare = ap (λ (o : HeldRow). o.lists) (one_value (sym here ∙ is)) ∙ bare
  where
    one_value : {a b : HeldRow} → Some a ≡ Some b → a ≡ b
    one_value f = cc

-- at a row that holds nothing a scan has gone along a leap
pub scan_leads : (t : Transducer) (nodes : List MNode) (rows : List HeldRow) (q n : ℕ) (piece : List ℕ) (at row : ℕ) (marks : List ℕ) (acts : List LeapAct) (to : HeldRow) (state node : ℕ) → HasScanned t nodes rows q n piece at row marks acts → ((r : HeldRow) → slice_get rows row ≡ Some r → r.lists ≡ []) → slice_get rows row ≡ Some to → state ≡ to.state → node ≡ to.node → IsLeap t nodes q n (take at piece) (acts_in piece acts) state node
scan_leads t nodes rows q n piece at row marks acts to state node s bare here es en =
    let same : s.to ≡ to = one_value (sym s.is ∙ here) in
    let st = scan_ends t nodes rows q n piece at row marks acts s (bare s.to s.is) in
    subst (λ m. IsLeap t nodes q n (take at piece) (acts_in piece acts) state m) (ap (λ (r : HeldRow). r.node) same ∙ sym en) (subst (λ r. IsLeap t nodes q n (take at piece) (acts_in piece acts) r s.to.node) (ap (λ (r : HeldRow). r.state) same ∙ sym es) st)
  where
    one_value : {a b : HeldRow} → Some a ≡ Some b → a ≡ b
    one_value f = cc

-- its acts lie within the piece
pub acts_rest : (t : Transducer) (nodes : List MNode) (rows : List HeldRow) (q n : ℕ) (piece : List ℕ) (at row : ℕ) (marks : List ℕ) (acts : List LeapAct) → at ≤ length piece → HasScanned t nodes rows q n piece at row marks acts → AreActsWithin (length piece) acts
acts_rest t nodes rows q n piece at row marks acts le s = λ i d lt. within_more at (length piece) (get_or acts i d) le (s.within i d lt)

pub keeps_more : (a b d : RowBook) → KeepsRows a b → KeepsRows b d → KeepsRows a d
keeps_more a b d p q = record {
  table = q.table ∙ p.table;
  machine = q.machine ∙ p.machine;
  more = p.more ++ q.more;
  rows = q.rows ∙ ap (λ l. l ++ q.more) p.rows ∙ append_assoc (rows_in a.rows) p.more q.more;
}

-- with the same table and machine
pub scan_over : (t t' : Transducer) (g g' : Graph) (rows : List HeldRow) (q n : ℕ) (piece : List ℕ) (at row : ℕ) (marks : List ℕ) (acts : List LeapAct) → t ≡ t' → g ≡ g' → HasScanned t g.nodes rows q n piece at row marks acts → HasScanned t' g'.nodes rows q n piece at row marks acts
scan_over t t' g g' rows q n piece at row marks acts e f s = subst (λ (g : Graph). HasScanned t' g.nodes rows q n piece at row marks acts) f (subst (λ t. HasScanned t g.nodes rows q n piece at row marks acts) e s)

-- acts are put after others
pub more_acts : (first acts more acts' : List LeapAct) → (l : List LeapAct) × (acts ≡ first ++ l) → acts' ≡ acts ++ more → (l : List LeapAct) × (acts' ≡ first ++ l)
more_acts first acts more acts' h e = (h.0 ++ more, e ∙ ap (λ l. l ++ more) h.1 ∙ append_assoc first h.0 more)

-- the front of acts stays where more come after them
pub acts_front : (first acts : List LeapAct) (n : ℕ) → n ≤ length first → (l : List LeapAct) × (acts ≡ first ++ l) → take n acts ≡ take n first
acts_front first acts n le h = ap (take n) h.1 ∙ take-append-le n first h.0 le

pub acts_grow : (first acts : List LeapAct) (n : ℕ) → n ≤ length first → (l : List LeapAct) × (acts ≡ first ++ l) → n ≤ length acts
acts_grow first acts n le h = omega (arith, le, ap (λ (l : List LeapAct). length l) h.1 ∙ length-append first h.0)
