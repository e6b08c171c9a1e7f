-- Laws of how path trees go on.
use Rattle.std.specs.Prelude.{◌≡◌, ◌≢◌, ℕ, suc, Bool, true, false, List, [], ◌∷◌, ◌++◌, Option}
use Rattle.std.specs.Prelude.{Some}
use Rattle.kex_code.specs.declared.symbol.Symbol.{Symbol}
use Rattle.kex_model.specs.Labelled.{Shape, size_of, Grown}
use Rattle.kex_model.specs.Survivors.{HasShape}
use Rattle.kex_machine.specs.Nodes.{Graph, node_moves}
use Rattle.kex_sst.specs.declared.parts.Part.{Part}
use Rattle.kex_sst.specs.declared.parts.Part.TheVariants.{Old, Input}
use Rattle.kex_sst.specs.Parts.{Change, puts, reads_of}
use Rattle.kex_paths.specs.Nexts.{IsFirstTree, IsNext, IsChange, RiseWithin}

abbrev pub old_parts : List ℕ → List Part
old_parts [] = []
old_parts (i ∷ is) = Old i ∷ old_parts is

abbrev pub byte_if : Bool → List Part
byte_if true = Input ∷ []
byte_if false = []

-- old registers, each whole, then the byte that is read if it lies there, and then symbols: after
-- old registers only where the byte lies between
pub record ArePartsInOrder (xs : List Part) : Type 0 where
  pub registers : List ℕ
  pub read : Bool
  pub symbols : List Symbol
  pub whole : xs ≡ old_parts registers ++ (byte_if read ++ puts symbols)
  pub between : registers ≢ [] → symbols ≢ [] → read ≡ true

abbrev pub ArePuts : List Part → Type 0
ArePuts xs = (c : List Symbol) × (xs ≡ puts c)

abbrev pub EachList : (List Part → Type 0) → List (List Part) → Type 0
EachList P [] = Unit {0}
EachList P (xs ∷ rest) = P xs × EachList P rest

-- the update with which a tree of this shape goes on with byte b: there is one; its lists are in
-- order; and the old registers rise in it, so that none is there twice
pub record Determines (g : Graph) (b : ℕ) (s : Shape ℕ) : Type 0 where
  pub one : (a a' : Option (Grown Part ℕ)) → IsNext g b s a → IsNext g b s a' → a ≡ a'
  pub in_order : (u : Change) (a : Grown Part ℕ) → IsNext g b s (Some a) → IsChange u a
      → ArePartsInOrder u.out × EachList ArePartsInOrder u.regs
  pub rises : (u : Change) (a : Grown Part ℕ) → IsNext g b s (Some a) → IsChange u a → (last : ℕ)
      → suc last ≡ size_of s → RiseWithin 0 last (reads_of u)

-- the update before the first byte: there is one, of symbols alone
pub record DeterminesFirst (g : Graph) : Type 0 where
  pub one : (a a' : Option (Grown Part ℕ)) → IsFirstTree g a → IsFirstTree g a' → a ≡ a'
  pub symbols : (u : Change) (a : Grown Part ℕ) → IsFirstTree g (Some a) → IsChange u a
      → ArePuts u.out × EachList ArePuts u.regs

-- a text has one shape
abbrev pub OneShape : Graph → List ℕ → Type 0
OneShape g w = (s t : Shape ℕ) → HasShape (node_moves g.nodes) g.start w s
    → HasShape (node_moves g.nodes) g.start w t → s ≡ t
