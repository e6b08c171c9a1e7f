-- How a tree is written from its nodes in preorder: what comes after the tree that is next.
use Rattle.std.specs.Prelude.{◌≡◌, ℕ, Bool, List, [], ◌∷◌, ◌++◌, ◌⊎◌, codes, drop}
use Rattle.kex_model.specs.Labelled.{Shape}
use Rattle.kex_machine.specs.Advancing.{EachPlace}
use Rattle.kex_paths.specs.Nexts.{inner_of, places_of}
use Rattle.kex_tabfile.specs.Lines.{tree_text}
use Rattle.kex_tabfile.specs.declared.trees.TreeMark.{TreeMark}
use Rattle.kex_tabfile.specs.declared.trees.TreeMark.TheVariants.{Comma, Close}

-- what comes after a tree: the comma and the right side, or the end of both sides
pub data TailPart : Type 0 where
  right_side : Shape ℕ → TailPart
  closing : TailPart

abbrev pub mark_of : TailPart → TreeMark
mark_of (right_side s) = Comma
mark_of closing = Close

abbrev pub tail_text : List ℕ → List TailPart → List ℕ
tail_text numbers [] = []
tail_text numbers (right_side s ∷ xs) = codes "," ++ (tree_text numbers s ++ tail_text numbers xs)
tail_text numbers (closing ∷ xs) = codes ")" ++ tail_text numbers xs

abbrev pub inner_in_tail : List TailPart → List Bool
inner_in_tail [] = []
inner_in_tail (right_side s ∷ xs) = inner_of s ++ inner_in_tail xs
inner_in_tail (closing ∷ xs) = inner_in_tail xs

abbrev pub places_in_tail : List TailPart → List ℕ
places_in_tail [] = []
places_in_tail (right_side s ∷ xs) = places_of s ++ places_in_tail xs
places_in_tail (closing ∷ xs) = places_in_tail xs

abbrev pub TailWithin : ℕ → List TailPart → Type 0
TailWithin count [] = Unit {0}
TailWithin count (right_side s ∷ xs) = EachPlace count s × TailWithin count xs
TailWithin count (closing ∷ xs) = TailWithin count xs

-- the marks of the tail, the next one last
abbrev pub AreTreeMarks : List TreeMark → List TailPart → Type 0
AreTreeMarks marks [] = marks ≡ []
AreTreeMarks marks (x ∷ xs) = (more : List TreeMark) × (marks ≡ more ++ mark_of x ∷ [])
    × AreTreeMarks more xs

-- the two tails have the same trees, and with what was written they have the same text
pub record IsTailLeft (numbers : List ℕ) (xs : List TailPart) (line : List ℕ) (ys : List TailPart)
    (longer : List ℕ) : Type 0 where
  pub inner : inner_in_tail xs ≡ inner_in_tail ys
  pub places : places_in_tail xs ≡ places_in_tail ys
  pub text : line ++ tail_text numbers xs ≡ longer ++ tail_text numbers ys
  pub within : (count : ℕ) → TailWithin count xs → TailWithin count ys

-- all that comes before the next tree was written; or all, where there is none
abbrev pub TailGoesOn : List ℕ → List TailPart → List ℕ → List TreeMark → List ℕ → Type 0
TailGoesOn numbers xs line marks longer = ((marks ≡ []) × IsTailLeft numbers xs line [] longer)
    ⊎ ((s : Shape ℕ) × (ys : List TailPart) × (comma : List ℕ) × AreTreeMarks marks ys
    × (comma ++ codes "," ≡ longer) × IsTailLeft numbers xs line (right_side s ∷ ys) comma)

-- at node i, after `count` leaves: the tree that is next, and its tail
pub record IsInTree (numbers : List ℕ) (count : ℕ) (shape : List Bool) (leaves whole : List ℕ)
    (i leaf : ℕ) (marks : List TreeMark) (line : List ℕ) : Type 0 where
  pub here : Shape ℕ
  pub tail : List TailPart
  pub inner : drop i shape ≡ inner_of here ++ inner_in_tail tail
  pub places : drop leaf leaves ≡ places_of here ++ places_in_tail tail
  pub below : EachPlace count here
  pub within : TailWithin count tail
  pub marked : AreTreeMarks marks tail
  pub text : whole ≡ line ++ (tree_text numbers here ++ tail_text numbers tail)

-- the tree is written up to node i, perhaps whole
abbrev pub WritesTree : List ℕ → ℕ → List Bool → List ℕ → List ℕ → ℕ → ℕ → List TreeMark → List ℕ
    → Type 0
WritesTree numbers count shape leaves whole i leaf marks line =
    IsInTree numbers count shape leaves whole i leaf marks line
    ⊎ ((drop i shape ≡ []) × (whole ≡ line))
