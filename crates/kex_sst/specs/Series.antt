-- Updates one after another, and the one update that they come to.
use Rattle.std.specs.Prelude.{ℕ, zero, suc, List, [], ◌∷◌, ◌++◌, get_or, map}
use Rattle.kex_code.specs.declared.symbol.Symbol.TheVariants.{Byte}
use Rattle.kex_sst.specs.declared.parts.Part.{Part}
use Rattle.kex_sst.specs.declared.parts.Part.TheVariants.{Put, Old, Input}
use Rattle.kex_sst.specs.Parts.{Change}

-- a part with the byte that is read in it
abbrev pub read_part : ℕ → Part → Part
read_part b (Put s) = Put s
read_part b (Old i) = Old i
read_part b Input = Put (Byte b)

-- parts with the byte that is read in them
abbrev pub read_parts : ℕ → List Part → List Part
read_parts b xs = map (λ x. read_part b x) xs

-- parts, where an old register is what the lists give it
abbrev pub substitute : List (List Part) → List Part → List Part
substitute regs [] = []
substitute regs (Put s ∷ xs) = Put s ∷ substitute regs xs
substitute regs (Old i ∷ xs) = get_or regs i [] ++ substitute regs xs
substitute regs (Input ∷ xs) = Input ∷ substitute regs xs

-- what two updates come to, one after the other
abbrev pub then_update : Change → Change → Change
then_update u v = record {
  out = u.out ++ substitute u.regs v.out;
  regs = map (λ xs. substitute u.regs xs) v.regs;
}

-- an update with the byte that it reads
abbrev pub with_read : ℕ → Change → Change
with_read b u = record { out = read_parts b u.out; regs = map (λ xs. read_parts b xs) u.regs }

-- n registers from k on, each of them itself
abbrev pub olds_from : ℕ → ℕ → List (List Part)
olds_from k zero = []
olds_from k (suc n) = (Old k ∷ []) ∷ olds_from (suc k) n

-- nothing is passed on, and each register is itself
abbrev pub identity : ℕ → Change
identity n = record { out = []; regs = olds_from 0 n }

-- updates one after another, the first by itself
abbrev pub series_of : Change → List Change → Change
series_of u [] = u
series_of u (v ∷ vs) = series_of (then_update u v) vs

-- no byte is read
abbrev pub ReadsNothing : Part → Type 0
ReadsNothing (Put s) = Unit {0}
ReadsNothing (Old i) = Unit {0}
ReadsNothing Input = ⊥
