-- Updates: what their parts stand for, and the tree whose labels are the registers.
use Rattle.std.specs.Prelude.{◌≡◌, ℕ, suc, ◌+◌, ◌<◌, List, [], ◌∷◌, ◌++◌, get_or, length}
use Rattle.kex_code.specs.declared.symbol.Symbol.{Symbol}
use Rattle.kex_code.specs.declared.symbol.Symbol.TheVariants.{L, R, Byte}
use Rattle.kex_code.specs.Codes.{IsAmong, Different}
use Rattle.kex_model.specs.Labelled.{Labelled, tip, fork, Shape, place, parts, size_of}
use Rattle.kex_sst.specs.declared.parts.Part.{Part}
use Rattle.kex_sst.specs.declared.parts.Part.TheVariants.{Put, Old, Input}

-- what is passed on, and what each new register is given
pub record Change : Type 0 where
  pub out : List Part
  pub regs : List (List Part)

-- what a part stands for, with what the old registers hold and the byte that is read
abbrev pub value : List (List Symbol) → ℕ → Part → List Symbol
value regs b (Put s) = s ∷ []
value regs b (Old i) = get_or regs i []
value regs b Input = Byte b ∷ []

-- what the parts stand for, joined
abbrev pub parts_code : List (List Symbol) → ℕ → List Part → List Symbol
parts_code regs b [] = []
parts_code regs b (x ∷ xs) = value regs b x ++ parts_code regs b xs

-- symbols as parts
abbrev pub puts : List Symbol → List Part
puts [] = []
puts (s ∷ c) = Put s ∷ puts c

-- the tree of this shape whose labels are registers, in preorder from k on
abbrev pub numbered_tree : ℕ → Shape ℕ → Labelled Part ℕ
numbered_tree k (place p) = tip p
numbered_tree k (parts l r) = fork (Old k ∷ []) (numbered_tree (suc k) l) (Old (k + size_of l) ∷ [])
    (numbered_tree (suc (k + size_of l)) r)

-- the old registers in a list of parts
abbrev pub olds : List Part → List ℕ
olds [] = []
olds (Old i ∷ xs) = i ∷ olds xs
olds (Put s ∷ xs) = olds xs
olds (Input ∷ xs) = olds xs

abbrev pub olds_in : List (List Part) → List ℕ
olds_in [] = []
olds_in (x ∷ xs) = olds x ++ olds_in xs

-- the old registers that an update reads
abbrev pub reads_of : Change → List ℕ
reads_of u = olds u.out ++ olds_in u.regs

abbrev pub long_in : List (List Part) → ℕ
long_in [] = 0
long_in (x ∷ xs) = length x + long_in xs

-- how many items an update has: symbols, bytes that are read, and old registers
abbrev pub item_count : Change → ℕ
item_count u = length u.out + long_in u.regs

abbrev pub IsChoice : Symbol → Type 0
IsChoice L = Unit {0}
IsChoice R = Unit {0}
IsChoice (Byte b) = ⊥

-- no symbol of an update is a byte
abbrev pub PutsChoice : Part → Type 0
PutsChoice (Put s) = IsChoice s
PutsChoice (Old i) = Unit {0}
PutsChoice Input = Unit {0}

-- a symbol or an old register, and not the byte that is read
abbrev pub IsKept : Part → Type 0
IsKept (Put s) = IsChoice s
IsKept (Old i) = Unit {0}
IsKept Input = ⊥

-- a symbol
abbrev pub IsPut : Part → Type 0
IsPut (Put s) = IsChoice s
IsPut (Old i) = ⊥
IsPut Input = ⊥

-- each of the parts, in what is passed on and in what the registers are given
pub record EachPart (P : Part → Type 0) (u : Change) : Type 0 where
  pub out : (x : Part) → IsAmong u.out x → P x
  pub regs : (xs : List Part) → IsAmong u.regs xs → (x : Part) → IsAmong xs x → P x

-- an update over `from` old registers that gives `to` new ones: each old one is used at most once
pub record IsUpdate (from to : ℕ) (u : Change) : Type 0 where
  pub count : length u.regs ≡ to
  pub once : Different (reads_of u)
  pub within : (i : ℕ) → IsAmong (reads_of u) i → i < from
  pub choices : EachPart PutsChoice u

-- what is on the way to a leaf of a state with `count` registers: each of them at most once, and no
-- byte that is read
pub record IsWay (count : ℕ) (way : List Part) : Type 0 where
  pub once : Different (olds way)
  pub within : (i : ℕ) → IsAmong (olds way) i → i < count
  pub kept : (x : Part) → IsAmong way x → IsKept x
