-- How a team answers a piece.
use Rattle.std.specs.Prelude.{◌≡◌, ℕ, ◌≤◌, ◌+◌, List, Some, None, drop, length, take}
use Rattle.kex_pipe.specs.Working.{ReadMore}
use Rattle.kex_stage.specs.declared.team.Hearing.{Hearing}
use Rattle.kex_stage.specs.declared.team.Hearing.TheVariants.{Whole, Refused, PutOff}
use Rattle.kex_stage.specs.Ahead.{CanWait}
use Rattle.kex_stage.specs.Oracles.{read_of}
use Rattle.kex_stage.specs.Stages.{SaysOf, TeamFollows, TeamState, teller_in}

-- a piece came after w, on which this text was said: it was read, but for what is put off, or a
-- byte of it was refused
abbrev pub HasHeard : TeamState → TeamState → List ℕ → List ℕ → List ℕ → Hearing → List ℕ → List ℕ
    → Type 0
HasHeard s n w text piece Whole before after =
    ReadMore (SaysOf (teller_in s)) (TeamFollows n) w text piece None before after
HasHeard s n w text piece (Refused at) before after =
    ReadMore (SaysOf (teller_in s)) (TeamFollows n) w text piece (Some at) before after
HasHeard s n w text piece (PutOff k q) before after =
    ReadMore (SaysOf (teller_in s)) (TeamFollows n) w text (take k piece) None before after

-- the bytes that are put off can wait, and the others were read
abbrev pub LeavesWaiting : TeamState → TeamState → List ℕ → Hearing → Type 0
LeavesWaiting s n piece Whole = Unit {0}
LeavesWaiting s n piece (Refused at) = Unit {0}
LeavesWaiting s n piece (PutOff k q) = (k ≤ length piece)
    × CanWait n.oracle n.actor (drop k piece) q × (read_of n.oracle ≡ read_of s.oracle + k)

-- none are put off
abbrev pub KeepsNone : Hearing → Type 0
KeepsNone Whole = Unit {0}
KeepsNone (Refused at) = Unit {0}
KeepsNone (PutOff k q) = ⊥

-- no byte was refused
abbrev pub RefusesNothing : Hearing → Type 0
RefusesNothing Whole = Unit {0}
RefusesNothing (Refused at) = ⊥
RefusesNothing (PutOff k q) = Unit {0}
