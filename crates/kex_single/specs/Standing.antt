-- What a worker on one stage stands for, and how its machine takes a piece.
use Rattle.std.specs.Prelude.{ℕ, ◌<◌, ◌+◌, Bool, true, false, List, ◌++◌, Option, Some, None}
use Rattle.std.specs.Prelude.{length, take}
use Rattle.kex_machine.specs.Nodes.{Graph}
use Rattle.kex_machine.specs.Answers.{IsViableFor}
use Rattle.kex_frontier.specs.declared.frontier.Ended.{Ended}
use Rattle.kex_frontier.specs.declared.frontier.Ended.TheVariants.{Parsed, Cut}
use Rattle.kex_runner.specs.declared.answers.Ended as runs
use Rattle.kex_runner.specs.declared.answers.Ended.TheVariants as run_ends
use Rattle.kex_runner.specs.declared.answers.Fed.{Fed}
use Rattle.kex_runner.specs.declared.answers.Fed.TheVariants.{On, Dead}
use Rattle.kex_frontier.specs.declared.matcher.Matched.{Matched}
use Rattle.kex_frontier.specs.declared.matcher.Matched.TheVariants as match

-- the machine goes on from w over a piece, or up to the byte of this number, with which no parse
-- begins
abbrev pub MachineGoesOn : Graph → List ℕ → List ℕ → Option ℕ → Type 0
MachineGoesOn g w piece None = IsViableFor g (w ++ piece)
MachineGoesOn g w piece (Some k) = (k < length piece) × IsViableFor g (w ++ take k piece)
    × (IsViableFor g (w ++ take (k + 1) piece) → ⊥)

-- the bytes that the machine was given
abbrev pub given_of : List ℕ → List ℕ → Option ℕ → List ℕ
given_of w piece None = w ++ piece
given_of w piece (Some k) = w ++ take (k + 1) piece

-- the number in all bytes of a byte of the piece, which comes after `before` bytes
abbrev pub place_of : Option ℕ → ℕ → Option ℕ
place_of None before = None
place_of (Some k) before = Some (before + k)

abbrev pub is_parsed : Ended → Bool
is_parsed Parsed = true
is_parsed Cut = false

abbrev pub is_parsed_run : runs.Ended → Bool
is_parsed_run run_ends.Parsed = true
is_parsed_run run_ends.Cut = false

-- the number in a piece of the byte after its good ones, where that was refused
abbrev pub stopped_at : Fed → ℕ → Option ℕ
stopped_at On good = None
stopped_at Dead good = Some good

abbrev pub dead_at : Matched → Option ℕ
dead_at match.On = None
dead_at (match.Dead at) = Some at
