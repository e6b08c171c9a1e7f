-- The roots of names in a table, and the lowest of offsets.
use Rattle.std.specs.Prelude.{◌≡◌, ℕ, ◌==◌, if◌then◌else◌, List, Option, Some, None, find, get_or}
use Rattle.std.specs.Prelude.{length, nat_lt}
use Rattle.std.specs.Option.{option_map}
use Rattle.kex_model.specs.declared.program.Definition.{Definition}
use Rattle.kex_model.specs.declared.program.Start.{Start}
use Rattle.kex_model.specs.Programs.{Grammar}
use Rattle.kex_rules.specs.Rules.{CallsAt, IsDefined, IsLowest, Nowhere, StartsAt}

-- the root of the first definition of a name
abbrev pub first_root : List Definition → ℕ → Option ℕ
first_root definitions name = option_map (λ d. d.root) (find (λ d. d.name == name) definitions)

-- the table has the roots of `names` names
pub record HasRoots (definitions : List Definition) (names : ℕ)
    (roots : List (Option ℕ)) : Type 0 where
  pub long : length roots ≡ names
  pub each : (name : ℕ) → get_or roots name None ≡ first_root definitions name

-- the lowest offset that breaks a rule, if one does
abbrev pub IsLeastOffset : (ℕ → Type 0) → Option ℕ → Type 0
IsLeastOffset Breaks None = Nowhere Breaks
IsLeastOffset Breaks (Some at) = IsLowest Breaks at

-- the lower of an offset and one that was found before
abbrev pub lower : Option ℕ → ℕ → ℕ
lower None at = at
lower (Some found) at = if nat_lt found at then found else at

-- a definition calls a name that has no definition, at this offset
abbrev pub CallsUnknown : Grammar → ℕ → Type 0
CallsUnknown P at = (name : ℕ) × CallsAt P name at × (IsDefined P.definitions name → ⊥)

-- one of the stages is started by such a name, at this offset
abbrev pub StartsUnknown : List Definition → List Start → ℕ → Type 0
StartsUnknown definitions stages at = (name : ℕ) × StartsAt stages name at
    × (IsDefined definitions name → ⊥)
