-- Slices of a window: after a byte more, joined, by other points, and of a window that leaves its front behind.
use Rattle.std.proofs.Common.{◌≡◌, ℕ, ◌≤◌, ◌<◌, ◌+◌, ◌-◌, List, [], ◌∷◌, ◌++◌, length, take, drop, get_or, refl, sym, ap, ap₂, ◌∙◌, arith, ⊎_elim, length-append, length-drop}
use Rattle.std.proofs.lemmas.List.{take-append-le, drop-append-le, drop-drop, get_or_append_left, get_or_push, get_or-map, get_or_past, get_or_default, length-map, map-append}
use Rattle.std.proofs.lemmas.Bool.{cases_lt}
use Rattle.std.proofs.Math.Seq.{take-add, drop-append_seam}
use Rattle.kex_held.specs.Acts.{bytes, effect}
use Rattle.kex_held.specs.declared.item.HeldItem.{HeldItem}
use Rattle.kex_held.specs.declared.item.HeldItem.TheVariants.{Slice, Effect}
use Rattle.kex_held.specs.Slices.{slice_between, acts_over, AreRising, points_of, edge_points, AreItemsWithin, AreKept, marks_by, number_by, items_by_number, shifted_marks}

-- a window that is longer
pub between_longer : (w x : List ℕ) (a b : ℕ) → a ≤ b → b ≤ length w → slice_between (w ++ x) a b ≡ slice_between w a b
between_longer w x a b le within = ap (take (b - a)) (drop-append-le a w x (omega arith)) ∙ take-append-le (b - a) (drop a w) x (omega (arith, length-drop a w))

-- the byte after a window
pub between_last : (w : List ℕ) (b : ℕ) → slice_between (w ++ b ∷ []) (length w) (length w + 1) ≡ b ∷ []
between_last w b =
    let one : (length w + 1) - length w ≡ 1 = omega arith in
    ap (take ((length w + 1) - length w)) (drop-append_seam w (b ∷ [])) ∙ ap (λ n. take n (b ∷ [])) one

-- two that touch
pub between_joined : (w : List ℕ) (a m b : ℕ) → a ≤ m → m ≤ b → slice_between w a m ++ slice_between w m b ≡ slice_between w a b
between_joined w a m b le le' =
    let far : a + (m - a) ≡ m = omega arith in
    let all : (m - a) + (b - m) ≡ b - a = omega arith in
    ap (λ l. slice_between w a m ++ take (b - m) l) (ap (λ n. drop n w) (sym far) ∙ sym (drop-drop (m - a) a w)) ∙ sym (take-add (m - a) (b - m) (drop a w)) ∙ ap (λ n. take n (drop a w)) all

-- of a window without its front
pub between_carried : (w : List ℕ) (k a b : ℕ) → k ≤ a → a ≤ b → slice_between (drop k w) (a - k) (b - k) ≡ slice_between w a b
between_carried w k a b le le' =
    let far : k + (a - k) ≡ a = omega arith in
    let long : (b - k) - (a - k) ≡ b - a = omega arith in
    ap₂ (λ n l. take n l) long (drop-drop (a - k) k w ∙ ap (λ n. drop n w) far)

pub rising_push : (high h : ℕ) (points : List ℕ) → AreRising high points → high ≤ h → AreRising h (points ++ h ∷ [])
rising_push high h points r le = record { rise = rise; within = at }
  where
    more : List ℕ
    more = points ++ h ∷ []

    long : length more ≡ length points + 1
    long = length-append points (h ∷ [])

    old_at : (i : ℕ) → i < length points → get_or more i 0 ≡ get_or points i 0
    old_at i lt = get_or_append_left points (h ∷ []) 0 i lt

    last_at : (i : ℕ) → length points ≤ i → i < length more → get_or more i 0 ≡ h
    last_at i le lt = get_or_push points h 0 i (omega (arith, le, lt, long))

    at : (i : ℕ) → i < length more → get_or more i 0 ≤ h
    at i lt = ⊎_elim (λ l. omega (arith, old_at i l, r.within i l, le)) (λ l. omega (arith, last_at i l lt)) (cases_lt i (length points))

    rise : (i j : ℕ) → i ≤ j → j < length more → get_or more i 0 ≤ get_or more j 0
    rise i j l lt = ⊎_elim
        (λ k. omega (arith, old_at i (omega (arith, l, k)), old_at j k, r.rise i j l k))
        (λ k. omega (arith, last_at j k lt, at i (omega (arith, l, lt))))
        (cases_lt j (length points))

pub rising_kept : (high : ℕ) (points keep : List ℕ) → AreRising high points → AreKept (length points) keep → AreRising high (marks_by points keep)
rising_kept high points keep r k = record { rise = rise; within = within }
  where
    long : length (marks_by points keep) ≡ length keep
    long = length-map keep (λ i. get_or points i 0)

    at : (i : ℕ) → i < length (marks_by points keep) → get_or (marks_by points keep) i 0 ≡ get_or points (get_or keep i 0) 0
    at i lt = get_or-map (λ i. get_or points i 0) keep i 0 0 (omega (arith, lt, long))

    within : (i : ℕ) → i < length (marks_by points keep) → get_or (marks_by points keep) i 0 ≤ high
    within i lt = omega (arith, at i lt, r.within (get_or keep i 0) (k.within i (omega (arith, lt, long))))

    rise : (i j : ℕ) → i ≤ j → j < length (marks_by points keep) → get_or (marks_by points keep) i 0 ≤ get_or (marks_by points keep) j 0
    rise i j l lt = omega (arith, at i (omega (arith, l, lt)), at j lt, r.rise (get_or keep i 0) (get_or keep j 0) (k.rise i j l (omega (arith, lt, long))) (k.within j (omega (arith, lt, long))))

pub points_rise : (w marks : List ℕ) → AreRising (length w) marks → AreRising (length w) (points_of w marks)
points_rise w marks r = rising_push (length w) (length w) marks r (omega arith)

pub edge_points_rise : (w marks : List ℕ) → AreRising (length w) marks → AreRising (length w + 1) (edge_points w marks)
edge_points_rise w marks r = rising_push (length w) (length w + 1) (points_of w marks) (points_rise w marks r) (omega arith)

pub count_points : (w marks : List ℕ) → length (points_of w marks) ≡ length marks + 1
count_points w marks = length-append marks (length w ∷ [])

pub count_edge_points : (w marks : List ℕ) → length (edge_points w marks) ≡ length marks + 2
count_edge_points w marks = omega (arith, length-append (points_of w marks) ((length w + 1) ∷ []), count_points w marks)

-- one byte more, and one point more after the others
pub acts_longer : (w x points : List ℕ) (p : ℕ) (items : List HeldItem) → AreRising (length w) points → AreItemsWithin (length points) items → acts_over (w ++ x) (points ++ p ∷ []) items ≡ acts_over w points items
acts_longer w x points p [] r h = refl
acts_longer w x points p (Slice i j ∷ items) r h =
    let at : (k : ℕ) → k < length points → get_or (points ++ p ∷ []) k 0 ≡ get_or points k 0 = λ k lt. get_or_append_left points (p ∷ []) 0 k lt in
    let same : slice_between (w ++ x) (get_or (points ++ p ∷ []) i 0) (get_or (points ++ p ∷ []) j 0) ≡ slice_between w (get_or points i 0) (get_or points j 0) =
    ap₂ (λ a b. slice_between (w ++ x) a b) (at i (omega (arith, h.0.0, h.0.1))) (at j h.0.1)
    ∙ between_longer w x (get_or points i 0) (get_or points j 0) (r.rise i j h.0.0 h.0.1) (r.within j h.0.1) in
    ap₂ (λ a l. bytes a ∷ l) same (acts_longer w x points p items r h.1)
acts_longer w x points p (Effect n ∷ items) r h = ap (λ l. effect n ∷ l) (acts_longer w x points p items r h.1)

-- a point after an edge is the one that its number names among the edge's points
pub point_by : (points keep : List ℕ) (last end i : ℕ) → i < length keep + 1 → get_or points last 0 ≡ end → get_or points (number_by last keep i) 0 ≡ get_or (marks_by points keep ++ end ∷ []) i 0
point_by points keep last end i lt e = ⊎_elim old_at last_at (cases_lt i (length keep))
  where
    long : length (marks_by points keep) ≡ length keep
    long = length-map keep (λ i. get_or points i 0)

    old_at : i < length keep → get_or points (number_by last keep i) 0 ≡ get_or (marks_by points keep ++ end ∷ []) i 0
    old_at l = ap (λ n. get_or points n 0) (get_or_default keep i last 0 l) ∙ sym (get_or_append_left (marks_by points keep) (end ∷ []) 0 i (omega (arith, l, long)) ∙ get_or-map (λ i. get_or points i 0) keep i 0 0 l)

    last_at : length keep ≤ i → get_or points (number_by last keep i) 0 ≡ get_or (marks_by points keep ++ end ∷ []) i 0
    last_at l = ap (λ n. get_or points n 0) (get_or_past keep i last l) ∙ e ∙ sym (get_or_push (marks_by points keep) end 0 i (omega (arith, l, lt, long)))

pub acts_by_number : (w points keep : List ℕ) (last end : ℕ) (items : List HeldItem) → get_or points last 0 ≡ end → AreItemsWithin (length keep + 1) items → acts_over w points (items_by_number last keep items) ≡ acts_over w (marks_by points keep ++ end ∷ []) items
acts_by_number w points keep last end [] e h = refl
acts_by_number w points keep last end (Slice i j ∷ items) e h = ap₂ (λ a l. bytes a ∷ l) (ap₂ (λ a b. slice_between w a b) (point_by points keep last end i (omega (arith, h.0.0, h.0.1)) e) (point_by points keep last end j h.0.1 e)) (acts_by_number w points keep last end items e h.1)
acts_by_number w points keep last end (Effect n ∷ items) e h = ap (λ l. effect n ∷ l) (acts_by_number w points keep last end items e h.1)

carried_at : (points : List ℕ) (k i : ℕ) → i < length points → get_or (shifted_marks k points) i 0 ≡ get_or points i 0 - k
carried_at points k i lt = get_or-map (λ p. p - k) points i 0 0 lt

-- no point lies in what is left behind
pub acts_carried : (w points : List ℕ) (k high : ℕ) (items : List HeldItem) → AreRising high points → ((i : ℕ) → i < length points → k ≤ get_or points i 0) → AreItemsWithin (length points) items → acts_over (drop k w) (shifted_marks k points) items ≡ acts_over w points items
acts_carried w points k high [] r le h = refl
acts_carried w points k high (Slice i j ∷ items) r le h =
    let lt : i < length points = omega (arith, h.0.0, h.0.1) in
    ap₂ (λ a l. bytes a ∷ l) (ap₂ (λ a b. slice_between (drop k w) a b) (carried_at points k i lt) (carried_at points k j h.0.1) ∙ between_carried w k (get_or points i 0) (get_or points j 0) (le i lt) (r.rise i j h.0.0 h.0.1)) (acts_carried w points k high items r le h.1)
acts_carried w points k high (Effect n ∷ items) r le h = ap (λ l. effect n ∷ l) (acts_carried w points k high items r le h.1)

-- points of a window without its front rise
pub rising_carried : (high k : ℕ) (points : List ℕ) → AreRising high points → AreRising (high - k) (shifted_marks k points)
rising_carried high k points r =
    let long : length (shifted_marks k points) ≡ length points = length-map points (λ p. p - k) in
    record {
      rise = λ i j l lt. omega (arith, carried_at points k i (omega (arith, l, lt, long)), carried_at points k j (omega (arith, lt, long)), r.rise i j l (omega (arith, lt, long)));
      within = λ i lt. omega (arith, carried_at points k i (omega (arith, lt, long)), r.within i (omega (arith, lt, long)));
    }

pub points_carried : (w marks : List ℕ) (k : ℕ) → points_of (drop k w) (shifted_marks k marks) ≡ shifted_marks k (points_of w marks)
points_carried w marks k = ap (λ n. shifted_marks k marks ++ n ∷ []) (length-drop k w) ∙ sym (map-append (λ p. p - k) marks (length w ∷ []))
