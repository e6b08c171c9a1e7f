-- Points of a window.
use Rattle.std.proofs.Common.{◌≡◌, ℕ, ◌≤◌, ◌<◌, ◌+◌, ◌-◌, List, [], ◌∷◌, ◌++◌, length, take, drop, get_or, sym, ap, subst, ◌∙◌, arith, ⊎_elim, length-append, length-drop, take-append-drop}
use Rattle.std.proofs.lemmas.Bool.{cases_lt}
use Rattle.std.proofs.lemmas.List.{get_or_append_left, get_or_push, length-take-le}
use Rattle.kex_held.specs.Slices.{AreRising, AreKept, slice_between, edge_points, marks_by, shifted_marks}
use Rattle.kex_held.specs.Windows.{MarkedText, IsMarkedText, points_at, text_with_next, HasNoMarkBelow}
use Rattle.kex_held.proofs.WindowSlices.{rising_push, rising_kept, rising_carried, between_longer}

pub count_at : (at : ℕ) (marks : List ℕ) → length (points_at at marks) ≡ length marks + 2
count_at at marks = omega (arith, length-append (marks ++ at ∷ []) ((at + 1) ∷ []), length-append marks (at ∷ []))

-- they are those of the window that was read
pub points_same : (bytes : List ℕ) (at : ℕ) (marks : List ℕ) → at ≤ length bytes → points_at at marks ≡ edge_points (take at bytes) marks
points_same bytes at marks le = ap (λ n. (marks ++ n ∷ []) ++ (n + 1) ∷ []) (sym (length-take-le at bytes le))

pub at_mark : (at : ℕ) (marks : List ℕ) (i : ℕ) → i < length marks → get_or (points_at at marks) i 0 ≡ get_or marks i 0
at_mark at marks i lt = get_or_append_left (marks ++ at ∷ []) ((at + 1) ∷ []) 0 i (omega (arith, lt, length-append marks (at ∷ []))) ∙ get_or_append_left marks (at ∷ []) 0 i lt

pub at_end : (at : ℕ) (marks : List ℕ) (i : ℕ) → length marks ≤ i → i < length marks + 2 → get_or (points_at at marks) i 0 ≡ at + (i - length marks)
at_end at marks i le lt = ⊎_elim first second (cases_lt i (length marks + 1))
  where
    first : i < length marks + 1 → get_or (points_at at marks) i 0 ≡ at + (i - length marks)
    first l =
        let e : get_or (points_at at marks) i 0 ≡ at = get_or_append_left (marks ++ at ∷ []) ((at + 1) ∷ []) 0 i (omega (arith, l, length-append marks (at ∷ []))) ∙ get_or_push marks at 0 i (omega (arith, l, le)) in
        omega (arith, e, l, le)

    second : length marks + 1 ≤ i → get_or (points_at at marks) i 0 ≡ at + (i - length marks)
    second l =
        let e : get_or (points_at at marks) i 0 ≡ at + 1 = get_or_push (marks ++ at ∷ []) (at + 1) 0 i (omega (arith, l, lt, length-append marks (at ∷ []))) in
        omega (arith, e, l, lt)

pub points_rise_at : (at : ℕ) (marks : List ℕ) → AreRising at marks → AreRising (at + 1) (points_at at marks)
points_rise_at at marks r = rising_push at (at + 1) (marks ++ at ∷ []) (rising_push at at marks r (omega arith)) (omega arith)

-- a slice of the bytes is one of what was read with the next byte
pub slice_read : (bytes : List ℕ) (at a b : ℕ) → a ≤ b → b ≤ at + 1 → at < length bytes → slice_between bytes a b ≡ slice_between (take (at + 1) bytes) a b
slice_read bytes at a b le within more =
    let long : length (take (at + 1) bytes) ≡ at + 1 = length-take-le (at + 1) bytes (omega (arith, more)) in
    ap (λ l. slice_between l a b) (sym (take-append-drop (at + 1) bytes)) ∙ between_longer (take (at + 1) bytes) (drop (at + 1) bytes) a b le (omega (arith, within, long))

-- a byte more is read, and points are kept as marks
pub stepped : (bytes : List ℕ) (at : ℕ) (marks keep marks' : List ℕ) → AreRising at marks → at < length bytes → AreKept (length marks + 2) keep → marks' ≡ marks_by (points_at at marks) keep → IsMarkedText (record { bytes = bytes; at = at + 1; marks = marks' })
stepped bytes at marks keep marks' r lt k e = record {
  within = omega (arith, lt);
  rising = subst (λ l. AreRising (at + 1) l) (sym e) (rising_kept (at + 1) (points_at at marks) keep (points_rise_at at marks r) (subst (λ n. AreKept n keep) (sym (count_at at marks)) k));
}

pub read_slice : (s : MarkedText) (i j : ℕ) → IsMarkedText s → s.at < length s.bytes → i ≤ j → j < length s.marks + 2 → slice_between s.bytes (get_or (points_at s.at s.marks) i 0) (get_or (points_at s.at s.marks) j 0) ≡ slice_between (text_with_next s) (get_or (points_at s.at s.marks) i 0) (get_or (points_at s.at s.marks) j 0)
read_slice s i j h more le lt =
    let r = points_rise_at s.at s.marks h.rising in
    let inside : j < length (points_at s.at s.marks) = omega (arith, lt, count_at s.at s.marks) in
    slice_read s.bytes s.at (get_or (points_at s.at s.marks) i 0) (get_or (points_at s.at s.marks) j 0) (r.rise i j le inside) (r.within j inside) more

-- the first mark is the least
pub low_first : (at : ℕ) (marks : List ℕ) (k : ℕ) → AreRising at marks → 0 < length marks → k ≡ get_or marks 0 0 → HasNoMarkBelow at marks k
low_first at marks k r lt e = record { within = omega (arith, e, r.within 0 lt); low = λ i l. omega (arith, e, r.rise 0 i (omega arith) l) }

pub low_none : (at : ℕ) (marks : List ℕ) (k : ℕ) → length marks ≡ 0 → k ≡ at → HasNoMarkBelow at marks k
low_none at marks k none e = record { within = omega (arith, e); low = λ i l. absurd (omega (arith, none, l)) }

pub left_behind : (bytes : List ℕ) (at : ℕ) (marks : List ℕ) (k : ℕ) (bytes' marks' : List ℕ) → at ≤ length bytes → AreRising at marks → HasNoMarkBelow at marks k → bytes' ≡ drop k bytes → marks' ≡ shifted_marks k marks → IsMarkedText (record { bytes = bytes'; at = at - k; marks = marks' })
left_behind bytes at marks k bytes' marks' le r low e f = record {
  within = omega (arith, le, low.within, ap length e, length-drop k bytes);
  rising = subst (λ l. AreRising (at - k) l) (sym f) (rising_carried at k marks r);
}
