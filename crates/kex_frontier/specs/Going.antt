-- How the tree of a text's survivors goes on with a byte, and with the end.
use Rattle.std.specs.Prelude.{◌≡◌, ℕ, Bool, false, List, ◌∷◌, ◌++◌, replicate, Option, Some, None}
use Rattle.kex_code.specs.declared.symbol.Symbol.{Symbol}
use Rattle.kex_code.specs.declared.symbol.Symbol.TheVariants.{Byte}
use Rattle.kex_model.specs.Moves.{Move}
use Rattle.kex_model.specs.Labelled.{Labelled, Grown}
use Rattle.kex_machine.specs.Advancing.{itself, at_end}
use Rattle.kex_machine.specs.Advancing as advancing
use Rattle.kex_frontier.specs.Edges.{Edge, with_first_tree, is_there, root_label, bare_edges}

-- the tree of the waiting places that are reached from place n without a byte, with codes for
-- labels
abbrev pub VisitsCodes : (ℕ → Move ℕ) → List Bool → ℕ → Option (Grown Symbol ℕ) → List Bool → Type 0
VisitsCodes moves f n a g = advancing.Visits itself moves f n a g

-- a tree with codes for labels goes on with byte b
abbrev pub AdvancesCodes : (ℕ → Move ℕ) → ℕ → List Bool → Labelled Symbol ℕ
    → Option (Grown Symbol ℕ) → List Bool → Type 0
AdvancesCodes moves b f t a g = advancing.Advances itself (Byte b) moves b f t a g

-- one edge of a tree, at the end: what is found so far, the last tree first
abbrev pub trees_at_end : (ℕ → Move ℕ) → Option ℕ → List (Option (Grown Symbol ℕ))
    → List (Option (Grown Symbol ℕ))
trees_at_end moves None rs = with_first_tree rs
trees_at_end moves (Some p) rs = at_end (moves p) p ∷ rs

-- with no place marked of m, the tree has gone on with a byte: whether it is there, the code with
-- its root's label, and its edges
pub record TreeWentOn (moves : ℕ → Move ℕ) (b m : ℕ) (t : Labelled Symbol ℕ) (there : Bool)
    (before after : List Symbol) (edges : List Edge) : Type 0 where
  pub grown : Option (Grown Symbol ℕ)
  pub marks : List Bool
  pub advances : AdvancesCodes moves b (replicate m false) t grown marks
  pub tells : there ≡ is_there grown
  pub code : after ≡ before ++ root_label grown
  pub has : edges ≡ bare_edges grown
