-- What a bounded worker stands for, and where it stops.
use Rattle.std.specs.Prelude.{◌≡◌, ℕ, Bool, true, false, List, [], Option, Some, None}
use Rattle.kex_model.specs.Answers.{Answer}
use Rattle.kex_pipe.specs.Histories.{StageFed, stop_as}
use Rattle.kex_pipe.specs.declared.turn.Fate.{Fate}
use Rattle.kex_pipe.specs.declared.turn.Fate.TheVariants.{On, Stopped}
use Rattle.kex_pipe.specs.declared.turn.Stop.{Stop}
use Rattle.kex_pipe.specs.declared.turn.Why.TheVariants.{Byte, End, Limit}

-- it was fed this; where it neither stopped nor ended it is open: it has read these bytes, and
-- written that text
abbrev pub StandsAs : (List ℕ → Bool → Answer → Type 0) → (List ℕ → List ℕ → Type 0)
    → Option Stop → Bool → Option StageFed → Type 0
StandsAs Gives Open stop over None = Open [] [] × (stop ≡ None) × (over ≡ false)
StandsAs Gives Open stop over (Some h) =
    Gives h.bytes h.ended h.answer × (stop_as stop ≡ h.answer.stop) × (over ≡ h.ended)
    × (h.ended ≡ false → stop ≡ None → Open h.bytes h.answer.text)

abbrev pub fate_of : Option Stop → Fate
fate_of None = On
fate_of (Some s) = Stopped

-- where it stops after `count` bytes: at a byte that was refused, or where a piece goes past the
-- limit
abbrev pub stop_after : Option ℕ → ℕ → Bool → Option Stop
stop_after (Some at) count past = Some (record { at = at; why = Byte })
stop_after None count true = Some (record { at = count; why = Limit })
stop_after None count false = None

-- where it stops at the end
abbrev pub end_stop : Bool → ℕ → Option Stop
end_stop true count = None
end_stop false count = Some (record { at = count; why = End })
