-- What an edge writes.
use Rattle.std.specs.Prelude.{◌≡◌, ◌≤◌, ◌+◌, ℕ, Bool, true, false, List, take, drop, slice_set}
use Rattle.kex_moves.specs.declared.edge.Edge.{Edge}
use Rattle.kex_moves.specs.declared.edge.EdgeKind.{EdgeKind}
use Rattle.kex_moves.specs.declared.edge.EdgeKind.TheVariants.{Keep, Drop, Text, Acts, Opens, Plain}
use Rattle.kex_moves.specs.declared.edge.EdgeKind.TheVariants.{Unknown}

-- as much of the text as counts, with the byte over the one at its place
abbrev pub writes : List ℕ → Edge → ℕ → List ℕ
writes text e b = take e.adds (slice_set (take 16 (drop e.from text)) e.byte_at b)

abbrev pub is_written : EdgeKind → Bool
is_written Keep = true
is_written Drop = true
is_written Text = true
is_written Acts = false
is_written Opens = false
is_written Plain = false
is_written Unknown = false

-- it says where the byte leads and what is done
abbrev pub is_known : EdgeKind → Bool
is_known Keep = true
is_known Drop = true
is_known Text = true
is_known Acts = true
is_known Opens = true
is_known Plain = false
is_known Unknown = false

-- deeds are done
abbrev pub has_acts : EdgeKind → Bool
has_acts Keep = false
has_acts Drop = false
has_acts Text = false
has_acts Acts = true
has_acts Opens = true
has_acts Plain = false
has_acts Unknown = false

-- nothing is learnt of it
abbrev pub IsUnlearnt : Edge → Type 0
IsUnlearnt e = (e.kind ≡ Unknown) × (e.alone ≡ false)

-- it says nothing
abbrev pub IsSilent : Edge → Type 0
IsSilent e = (is_known e.kind ≡ false) × (e.alone ≡ false)

-- its text lies within, no more counts than is copied, what is kept is alone, and what is alone is
-- the byte
pub record HasRoom (length : ℕ) (e : Edge) : Type 0 where
  pub text : e.from + 16 ≤ length
  pub byte_at : e.byte_at ≤ 16
  pub adds : e.adds ≤ 16
  pub keeps : e.kind ≡ Keep → e.alone ≡ true
  pub drops : e.kind ≡ Drop → e.adds ≡ 0
  pub alone : e.alone ≡ true → (e.byte_at ≡ 0) × (e.adds ≡ 1)

-- an edge of a row leads back to it where it keeps or drops
pub record IsAtRow (row : ℕ) (e : Edge) : Type 0 where
  pub keeps : e.kind ≡ Keep → e.next ≡ row
  pub drops : e.kind ≡ Drop → e.next ≡ row
