-- Which bytes are a body, which begin one, where the first wrong byte is, and what a refusal means.
use Rattle.std.specs.Prelude.{◌≡◌, ℕ, ◌+◌, ◌<◌, ◌≤◌, List, ◌++◌, length, take}
use Rattle.kex_regexp.specs.declared.fault.RegexFault.{RegexFault}
use Rattle.kex_regexp.specs.declared.fault.RegexFault.TheVariants as faults
use Rattle.kex_regexp.specs.Breaks.{Break, BadRegex, BadCount, BadSet, OverLimit, IsLeast}
use Rattle.kex_regexp.specs.Breaks.{regex_breaks}
use Rattle.kex_regexp.specs.Grammar.{Regex, regex, IsRegex}

-- the bytes are this regex
pub record SpellsRegex (r : Regex) (bytes : List ℕ) : Type 0 where
  pub well : IsRegex r
  pub same : regex r ≡ bytes

abbrev pub IsBody : List ℕ → Type 0
IsBody bytes = (r : Regex) × SpellsRegex r bytes

-- some bytes after these make a body of them
abbrev pub BeginsBody : List ℕ → Type 0
BeginsBody bytes = (more : List ℕ) × IsBody (bytes ++ more)

-- the bytes before k begin a body, and those up to and with it begin none, or there are no more and
-- they are none
pub record IsFirstWrong (bytes : List ℕ) (k : ℕ) : Type 0 where
  pub inside : k ≤ length bytes
  pub before : BeginsBody (take k bytes)
  pub byte : k < length bytes → BeginsBody (take (k + 1) bytes) → ⊥
  pub end : k ≡ length bytes → IsBody bytes → ⊥

-- the bytes are a body at an offset under `depth` marks, and this is the least of the rules that it
-- breaks
abbrev pub BreaksFirst : List ℕ → ℕ → ℕ → Break → Type 0
BreaksFirst bytes at depth b = (r : Regex) × SpellsRegex r bytes
    × IsLeast (regex_breaks r at depth) b

abbrev pub fault_of : Break → RegexFault
fault_of (BadRegex place) = faults.BadRegex place
fault_of (BadCount place) = faults.BadCount place
fault_of (BadSet place) = faults.BadSet place
fault_of (OverLimit place) = faults.OverLimit place

-- what a refusal means of a body at an offset under `depth` marks
abbrev pub IsRefusal : List ℕ → ℕ → ℕ → RegexFault → Type 0
IsRefusal bytes at depth (faults.BadRegex place) = (k : ℕ) × (place ≡ at + k) × IsFirstWrong bytes k
IsRefusal bytes at depth (faults.BadCount place) = BreaksFirst bytes at depth (BadCount place)
IsRefusal bytes at depth (faults.BadSet place) = BreaksFirst bytes at depth (BadSet place)
IsRefusal bytes at depth (faults.OverLimit place) = BreaksFirst bytes at depth (OverLimit place)
IsRefusal bytes at depth faults.Memory = Unit {0}
