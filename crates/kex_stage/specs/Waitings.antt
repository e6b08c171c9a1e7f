-- What comes of a piece after bytes that are put off.
use Rattle.std.specs.Prelude.{ℕ, List, ◌++◌, Some, None}
use Rattle.kex_stage.specs.declared.worker.Waiting.{Waiting}
use Rattle.kex_stage.specs.declared.worker.Waiting.TheVariants.{On, Refused, Over}
use Rattle.kex_stage.specs.Stages.{FollowsBehind, SaysOf, StageState, teller_in}

-- nothing more is said: the piece waits too, or a byte of it is refused
abbrev pub HasWaited : StageState → StageState → List ℕ → List ℕ → List ℕ → Waiting → Type 0
HasWaited s n w text piece On = SaysOf (teller_in s.team) (w ++ piece) None text
    × FollowsBehind n (w ++ piece) text
HasWaited s n w text piece (Refused at) = SaysOf (teller_in s.team) (w ++ piece) (Some at) text
HasWaited s n w text piece Over = Unit {0}

-- the oracle may tell something
abbrev pub IsWaitOver : Waiting → Type 0
IsWaitOver On = ⊥
IsWaitOver (Refused at) = ⊥
IsWaitOver Over = Unit {0}
