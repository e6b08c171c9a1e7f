-- What a sink gains by a call.
use Rattle.std.specs.Prelude.{◌≡◌, ◌≤◌, ◌⊎◌, ℕ, List, Option, Result, Ok, Err}
use Rattle.std.specs.Io.KnownBytes.{Appends}
use Rattle.kex_ports.specs.Bytes.{AppendsFront}
use Rattle.kex_ports.specs.Causes.{Rose}

-- A source or sink before and after a call: its bytes, where they are known, and its count of
-- faults.
pub record StreamChange : Type 0 where
  pub old : Option (List ℕ)
  pub new : Option (List ℕ)
  pub before : ℕ
  pub now : ℕ

abbrev pub change : Option (List ℕ) → Option (List ℕ) → ℕ → ℕ → StreamChange
change old new before now = record { old = old; new = new; before = before; now = now }

-- the change of an object from one state to another, by what it tells and by its count of faults
abbrev pub change_of : {T : Type 0} → (T → Option (List ℕ)) → (T → ℕ) → T → T → StreamChange
change_of told faults old new = change (told old) (told new) (faults old) (faults new)

-- The count rose.
abbrev pub CallHasFailed : StreamChange → Type 0
CallHasFailed c = (c.before ≤ c.now) × Rose c.before c.now

-- The bytes went in whole, and the count stayed.
abbrev pub GainsWhole : StreamChange → List ℕ → Type 0
GainsWhole c bytes = Appends c.old c.new bytes × (c.now ≡ c.before)

-- A front of the bytes went in, and the count rose.
abbrev pub GainsFront : StreamChange → List ℕ → Type 0
GainsFront c bytes = AppendsFront c.old c.new bytes × CallHasFailed c

abbrev pub Gains : StreamChange → List ℕ → Type 0
Gains c bytes = GainsWhole c bytes ⊎ GainsFront c bytes

-- The same, by what a write answers.
abbrev pub TellsGain : {E : Type 0} → StreamChange → List ℕ → Result (Unit {0}) E → Type 0
TellsGain c bytes (Ok done) = GainsWhole c bytes
TellsGain c bytes (Err failed) = GainsFront c bytes
