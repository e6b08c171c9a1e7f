-- A part of a piece that is read.
use Rattle.std.specs.Prelude.{ℕ, ◌<◌, ◌≤◌, ◌+◌, Bool, true, false, List, drop, length, take}
use Rattle.kex_action.specs.Actors.{Position, IsSettled}
use Rattle.kex_stage.specs.declared.oracle.Oracle.{Oracle}
use Rattle.kex_stage.specs.declared.strides.Stride.{Stride}
use Rattle.kex_stage.specs.declared.strides.Stride.TheVariants.{On, Refused, PutOff}
use Rattle.kex_stage.specs.Ahead.{CanWait}
use Rattle.kex_stage.specs.Works.{StageGoes, StageWorks}

-- a byte was refused after `count` bytes, or all of those were good
abbrev pub HasGone : Bool → Oracle → Oracle → Position → Position → List ℕ → ℕ → List ℕ → List ℕ
    → Type 0
HasGone true old new a b piece count before after = (count < length piece)
    × StageWorks old new a b piece count before after
HasGone false old new a b piece count before after = (count ≤ length piece)
    × StageGoes old new a b (take count piece) before after

-- how many bytes were good
abbrev pub strode : Stride → ℕ
strode (On n) = n
strode (Refused n) = n
strode (PutOff n q) = n

-- the same, after more good bytes
abbrev pub after_more : ℕ → Stride → Stride
after_more k (On n) = On (k + n)
after_more k (Refused n) = Refused (k + n)
after_more k (PutOff n q) = PutOff (k + n) q

-- some bytes were good, or the one after them was refused, or all others can wait
abbrev pub HasStrode : Stride → Oracle → Oracle → Position → Position → List ℕ → List ℕ → List ℕ
    → Type 0
HasStrode (On n) old new a b piece before after = HasGone false old new a b piece n before after
HasStrode (Refused n) old new a b piece before after = HasGone true old new a b piece n before after
HasStrode (PutOff n q) old new a b piece before after =
    HasGone false old new a b piece n before after × IsSettled b × CanWait new b (drop n piece) q

-- where bytes are left, some were taken
abbrev pub GoesOnBy : Stride → Type 0
GoesOnBy (On n) = 0 < n
GoesOnBy (Refused n) = Unit {0}
GoesOnBy (PutOff n q) = Unit {0}

-- nothing is put off
abbrev pub LeavesNone : Stride → Type 0
LeavesNone (On n) = Unit {0}
LeavesNone (Refused n) = Unit {0}
LeavesNone (PutOff n q) = ⊥
