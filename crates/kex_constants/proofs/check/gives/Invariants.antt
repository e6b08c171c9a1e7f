use Rattle.std.proofs.Common.{◌≡◌, ℕ, ◌<◌, [], List, Some, None, map, get_or}
use Rattle.kex_code.specs.declared.symbol.Symbol.{Symbol}
use Rattle.kex_machine.specs.declared.Bit.{Bit}
use Rattle.kex_sst.specs.Parts.{parts_code}
use Rattle.kex_constants.specs.Known.{Hold, symbols}
use Rattle.kex_constants.proofs.check.gives.Given as goal

abbrev pub invariant-loop-register : goal.invariant-loop-register
invariant-loop-register l = (i : ℕ) → i < l.register → (c : List Bit) → get_or l.to i None ≡ Some c → (regs : List (List Symbol)) (b : ℕ) → Hold l.from regs → get_or (map (λ x. parts_code regs b x) l.update.regs) i [] ≡ symbols c
