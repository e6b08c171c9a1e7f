-- A scan comes to the end of a text, where what is held is done.
use Rattle.std.proofs.Common.{◌≡◌, ℕ, zero, suc, ◌≤◌, ◌<◌, ◌+◌, List, [], ◌∷◌, ◌++◌, Some, length, take, drop, get_or, refl, sym, ap, ap₂, subst, ◌∙◌, arith, append_assoc, take-append-drop}
use Rattle.std.proofs.lemmas.List.{take_all, map-append, length-append, length-take-le, get_or_append_left}
use Rattle.std.proofs.lemmas.List.Elements.{All-append}
use Rattle.kex_code.specs.declared.symbol.Symbol.{Symbol}
use Rattle.kex_machine.specs.declared.MNode.{MNode}
use Rattle.kex_machine.specs.Nodes.{Graph}
use Rattle.kex_sst.specs.Parts.{parts_code}
use Rattle.kex_sst.specs.Tables.{Transducer}
use Rattle.kex_sst.specs.Passes.{passes_if, ended_by}
use Rattle.kex_held.specs.declared.item.HeldItem.{HeldItem}
use Rattle.kex_held.specs.declared.item.HeldItem.TheVariants as items
use Rattle.kex_held.specs.Acts.{Act, bytes, effect}
use Rattle.kex_held.specs.TreeEdges.{DoesActs}
use Rattle.kex_held.specs.HeldRuns.{pass_with}
use Rattle.kex_held.specs.Slices.{acts_over, AreRising, points_of, slice_between, AreItemsWithin}
use Rattle.kex_held.specs.Windows.{points_at}
use Rattle.kex_held.specs.HeldRows.{HeldRow, state_over}
use Rattle.kex_held.proofs.ActLists.{does_more}
use Rattle.kex_held.proofs.WindowSlices.{between_longer, count_points, points_rise}
use Rattle.kex_held.specs.RowEnds.{RowEnd, IsRightEnd}
use Rattle.kex_leaps.specs.declared.act.LeapAct.{LeapAct}
use Rattle.kex_leaps.specs.declared.act.LeapAct.TheVariants.{Text, Effect}
use Rattle.kex_leaps.specs.Leaps.{act_in, acts_in, IsActWithin, AreActsWithin, leap_acts, without_registers, IsLastLeap, HasScanned}

-- the marks and the end of what was read are points of the next byte too
point_same : (w : List ℕ) (at : ℕ) (marks : List ℕ) (i : ℕ) → length w ≡ at → i < length marks + 1 → get_or (points_of w marks) i 0 ≡ get_or (points_at at marks) i 0
point_same w at marks i long lt = ap (λ n. get_or (marks ++ n ∷ []) i 0) long ∙ sym (get_or_append_left (marks ++ at ∷ []) ((at + 1) ∷ []) 0 i (omega (arith, lt, length-append marks (at ∷ []))))

-- a slice of what was read is one of the text
slice_same : (text : List ℕ) (at a b : ℕ) → a ≤ b → b ≤ length (take at text) → slice_between (take at text) a b ≡ slice_between text a b
slice_same text at a b le within = sym (between_longer (take at text) (drop at text) a b le within) ∙ ap (λ l. slice_between l a b) (take-append-drop at text)

-- what items come to over what was read is what their acts come to in the text
acts_ended : (text : List ℕ) (at : ℕ) (marks : List ℕ) (xs : List HeldItem) → length (take at text) ≡ at → AreRising (length (take at text)) marks → AreItemsWithin (length marks + 1) xs → acts_over (take at text) (points_of (take at text) marks) xs ≡ acts_in text (leap_acts at marks xs)
acts_ended text at marks [] long rise h = refl
acts_ended text at marks (items.Slice i j ∷ xs) long rise h =
    let w = take at text in
    let points = points_of w marks in
    let r = points_rise w marks rise in
    let inside : j < length points = omega (arith, h.0.1, count_points w marks) in
    let same = slice_same text at (get_or points i 0) (get_or points j 0) (r.rise i j h.0.0 inside) (r.within j inside) in
    let ends = ap₂ (λ a b. slice_between text a b) (point_same w at marks i long (omega (arith, h.0.0, h.0.1))) (point_same w at marks j long h.0.1) in
    ap₂ (λ a l. bytes a ∷ l) (same ∙ ends) (acts_ended text at marks xs long rise h.1)
acts_ended text at marks (items.Effect n ∷ xs) long rise h = ap (λ l. effect n ∷ l) (acts_ended text at marks xs long rise h.1)

act_alone : (high : ℕ) (x : LeapAct) → IsActWithin high x → AreActsWithin high (x ∷ [])
act_alone high x p zero d lt = p
act_alone high x p (suc k) d lt = absurd (omega (arith, lt))

-- and they lie within it
ended_within : (w : List ℕ) (at : ℕ) (marks : List ℕ) (xs : List HeldItem) → length w ≡ at → AreRising (length w) marks → AreItemsWithin (length marks + 1) xs → AreActsWithin at (leap_acts at marks xs)
ended_within w at marks [] long rise h = λ i d lt. absurd (omega (arith, lt))
ended_within w at marks (items.Slice i j ∷ xs) long rise h =
    let points = points_of w marks in
    let r = points_rise w marks rise in
    let inside : j < length points = omega (arith, h.0.1, count_points w marks) in
    let a = get_or (points_at at marks) i 0 in
    let b = get_or (points_at at marks) j 0 in
    let first = point_same w at marks i long (omega (arith, h.0.0, h.0.1)) in
    let last = point_same w at marks j long h.0.1 in
    All-append (IsActWithin at) (Text a b ∷ []) (leap_acts at marks xs) (act_alone at (Text a b) (omega (arith, first, last, r.rise i j h.0.0 inside), omega (arith, last, r.within j inside, long))) (ended_within w at marks xs long rise h.1)
ended_within w at marks (items.Effect n ∷ xs) long rise h = All-append (IsActWithin at) (Effect n ∷ []) (leap_acts at marks xs) (act_alone at (Effect n) tt) (ended_within w at marks xs long rise h.1)

-- points of a row are points of its edges
pub items_more : (count : ℕ) (xs : List HeldItem) → AreItemsWithin (count + 1) xs → AreItemsWithin (count + 2) xs
items_more count [] h = tt
items_more count (items.Slice i j ∷ xs) h = ((h.0.0, omega (arith, h.0.1)), items_more count xs h.1)
items_more count (items.Effect n ∷ xs) h = (tt, items_more count xs h.1)

-- what the end of a row needs of the marks
pub ends_in : (t : Transducer) (nodes : List MNode) (rows : List HeldRow) (q n : ℕ) (text : List ℕ) (at row : ℕ) (marks : List ℕ) (acts : List LeapAct) (e : RowEnd) → (s : HasScanned t nodes rows q n text at row marks acts) → IsRightEnd t nodes s.to e → AreItemsWithin (length marks + 1) e.outs
ends_in t nodes rows q n text at row marks acts e s right = subst (λ k. AreItemsWithin (k + 1) e.outs) (sym s.fits.count) right.within

-- at the end of a text
pub text_ends : (t : Transducer) (nodes : List MNode) (rows : List HeldRow) (q n : ℕ) (text : List ℕ) (row : ℕ) (marks : List ℕ) (acts : List LeapAct) (e : RowEnd) → (s : HasScanned t nodes rows q n text (length text) row marks acts) → IsRightEnd t nodes s.to e → IsLastLeap t nodes q n text (acts_in text (acts ++ leap_acts (length text) marks e.outs)) e.node
text_ends t nodes rows q n text row marks acts e s right = record {
  said = s.said ++ code;
  ended = λ c. (pass_with (state_over w marks s.to) (c ++ s.said) s.registers, subst (λ l. passes_if t (Some (pass_with (without_registers q n) c [])) l ≡ Some (pass_with (state_over w marks s.to) (c ++ s.said) s.registers)) all (s.passed c), ap (λ o. ended_by o (pass_with (state_over w marks s.to) (c ++ s.said) s.registers)) right.ends ∙ ap Some (append_assoc c s.said code));
  does = subst (λ l. DoesActs nodes n (s.said ++ code) e.node l) both (does_more nodes n s.to.node e.node s.said code (acts_in text acts) (acts_over w (points_of w marks) e.outs) s.does (right.does w marks s.registers s.fits s.held));
}
  where
    at : ℕ
    at = length text

    w : List ℕ
    w = take at text

    all : w ≡ text
    all = take_all at text (omega arith)

    code : List Symbol
    code = parts_code s.registers 0 right.way

    both : acts_in text acts ++ acts_over w (points_of w marks) e.outs ≡ acts_in text (acts ++ leap_acts at marks e.outs)
    both = ap (λ l. acts_in text acts ++ l) (acts_ended text at marks e.outs (length-take-le at text (omega arith)) s.fits.rising (ends_in t nodes rows q n text at row marks acts e s right)) ∙ sym (map-append (λ x. act_in text x) acts (leap_acts at marks e.outs))

-- its acts lie within it
pub text_within : (t : Transducer) (nodes : List MNode) (rows : List HeldRow) (q n : ℕ) (text : List ℕ) (row : ℕ) (marks : List ℕ) (acts : List LeapAct) (e : RowEnd) → (s : HasScanned t nodes rows q n text (length text) row marks acts) → IsRightEnd t nodes s.to e → AreActsWithin (length text) (acts ++ leap_acts (length text) marks e.outs)
text_within t nodes rows q n text row marks acts e s right =
    let at = length text in
    All-append (IsActWithin at) acts (leap_acts at marks e.outs) s.within (ended_within (take at text) at marks e.outs (length-take-le at text (omega arith)) s.fits.rising (ends_in t nodes rows q n text at row marks acts e s right))

-- with the same table and machine
pub end_over : (t t' : Transducer) (g g' : Graph) (r : HeldRow) (e : RowEnd) → t' ≡ t → g' ≡ g → IsRightEnd t' g'.nodes r e → IsRightEnd t g.nodes r e
end_over t t' g g' r e p q right = subst (λ (g : Graph). IsRightEnd t g.nodes r e) q (subst (λ t. IsRightEnd t g'.nodes r e) p right)

pub last_over : (t t' : Transducer) (g g' : Graph) (q n m : ℕ) (text : List ℕ) (acts : List Act) → t' ≡ t → g' ≡ g → IsLastLeap t' g'.nodes q n text acts m → IsLastLeap t g.nodes q n text acts m
last_over t t' g g' q n m text acts p r leap = subst (λ (g : Graph). IsLastLeap t g.nodes q n text acts m) r (subst (λ t. IsLastLeap t g'.nodes q n text acts m) p leap)
