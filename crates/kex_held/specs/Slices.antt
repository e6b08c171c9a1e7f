-- Lists of slices of a window, between points, and of what nodes do.
use Rattle.std.specs.Prelude.{◌≡◌, ◌≤◌, ◌<◌, ◌+◌, ◌-◌, ℕ, List, [], ◌∷◌, ◌++◌, map, take, drop}
use Rattle.std.specs.Prelude.{length, get_or}
use Rattle.kex_machine.specs.declared.MNode.{MNode}
use Rattle.kex_action.specs.declared.action.Action.{Action}
use Rattle.kex_action.specs.declared.action.Action.TheVariants.{Byte, Node}
use Rattle.kex_held.specs.declared.item.HeldItem.{HeldItem}
use Rattle.kex_held.specs.declared.item.HeldItem.TheVariants.{Slice, Effect}
use Rattle.kex_held.specs.Acts.{Act, bytes, effect, MakeSame}

abbrev pub slice_between : List ℕ → ℕ → ℕ → List ℕ
slice_between w a b = take (b - a) (drop a w)

-- the bytes from one point to another, by their numbers, or what a node does
abbrev pub act_over : List ℕ → List ℕ → HeldItem → Act
act_over w points (Slice i j) = bytes (slice_between w (get_or points i 0) (get_or points j 0))
act_over w points (Effect n) = effect n

-- what a list comes to over a window
abbrev pub acts_over : List ℕ → List ℕ → List HeldItem → List Act
acts_over w points items = map (λ i. act_over w points i) items

-- the points rise, and lie in a window of this length
pub record AreRising (high : ℕ) (points : List ℕ) : Type 0 where
  pub rise : (i j : ℕ) → i ≤ j → j < length points → get_or points i 0 ≤ get_or points j 0
  pub within : (i : ℕ) → i < length points → get_or points i 0 ≤ high

-- the points where a window has these marks: after them its end
abbrev pub points_of : List ℕ → List ℕ → List ℕ
points_of w marks = marks ++ length w ∷ []

-- those of an edge: the points before the byte, and the end after it
abbrev pub edge_points : List ℕ → List ℕ → List ℕ
edge_points w marks = points_of w marks ++ (length w + 1) ∷ []

-- a slice is between two of that many points, the first not after the second
abbrev pub IsItemWithin : ℕ → HeldItem → Type 0
IsItemWithin count (Slice i j) = (i ≤ j) × (j < count)
IsItemWithin count (Effect n) = Unit {0}

abbrev pub AreItemsWithin : ℕ → List HeldItem → Type 0
AreItemsWithin count [] = Unit {0}
AreItemsWithin count (i ∷ items) = IsItemWithin count i × AreItemsWithin count items

-- over any window with that many points the lists make the same of every state
abbrev pub MakeSameOver : List MNode → ℕ → List HeldItem → List HeldItem → Type 0
MakeSameOver nodes count xs ys = (w points : List ℕ) → AreRising (length w) points
    → length points ≡ count → MakeSame nodes (acts_over w points xs) (acts_over w points ys)

-- a list after which more was put: it makes the same as that does, and has slices between the same
-- points
pub record ListGoesOn (nodes : List MNode) (old more new : List HeldItem) : Type 0 where
  pub within : (count : ℕ) → AreItemsWithin count (old ++ more) → AreItemsWithin count new
  pub same : (count : ℕ) → AreItemsWithin count (old ++ more)
      → MakeSameOver nodes count (old ++ more) new

-- numbers of points, of which there are `count`, that rise: those that stay marks
pub record AreKept (count : ℕ) (keep : List ℕ) : Type 0 where
  pub rise : (i j : ℕ) → i ≤ j → j < length keep → get_or keep i 0 ≤ get_or keep j 0
  pub within : (i : ℕ) → i < length keep → get_or keep i 0 < count

-- the marks after an edge
abbrev pub marks_by : List ℕ → List ℕ → List ℕ
marks_by points keep = map (λ i. get_or points i 0) keep

-- the number among an edge's points of a point after it: of a mark that was kept, or (`last`) of
-- the end
abbrev pub number_by : ℕ → List ℕ → ℕ → ℕ
number_by last keep i = get_or keep i last

abbrev pub item_by_number : ℕ → List ℕ → HeldItem → HeldItem
item_by_number last keep (Slice i j) = Slice (number_by last keep i) (number_by last keep j)
item_by_number last keep (Effect n) = Effect n

-- a list after an edge, by the edge's points
abbrev pub items_by_number : ℕ → List ℕ → List HeldItem → List HeldItem
items_by_number last keep items = map (λ i. item_by_number last keep i) items

-- the marks of a window without its first k bytes
abbrev pub shifted_marks : ℕ → List ℕ → List ℕ
shifted_marks k marks = map (λ p. p - k) marks

-- an action, where the byte is what is between points number m and m + 1
abbrev pub item_of : ℕ → Action → HeldItem
item_of m Byte = Slice m (m + 1)
item_of m (Node n) = Effect n
