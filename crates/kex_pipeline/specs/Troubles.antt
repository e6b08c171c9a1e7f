-- What keeps a pass from its end.
use Rattle.std.specs.Prelude.{◌≡◌, ◌≤◌, ℕ, Result, Ok, Err}
use Rattle.kex_ports.specs.Causes.{Rose}
use Rattle.kex_pipeline.specs.declared.pass.Trouble.{Trouble}
use Rattle.kex_pipeline.specs.declared.pass.Trouble.TheVariants as trouble

-- the sink's count of faults rose where it couldn't be written, and else it stayed
abbrev pub TroubleCause : {T : Type 0} → ℕ → ℕ → Result T Trouble → Type 0
TroubleCause before now (Ok fate) = now ≡ before
TroubleCause before now (Err trouble.Memory) = now ≡ before
TroubleCause before now (Err trouble.Write) = (before ≤ now) × Rose before now
