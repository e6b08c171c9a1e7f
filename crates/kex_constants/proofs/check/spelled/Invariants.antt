use Rattle.std.proofs.Common.{◌≡◌, ℕ, List, take}
use Rattle.kex_code.specs.declared.symbol.Symbol.{Symbol}
use Rattle.kex_sst.specs.Parts.{parts_code}
use Rattle.kex_constants.specs.Known.{Hold, symbols}
use Rattle.kex_constants.proofs.check.spelled.Given as goal

abbrev pub invariant-loop-part : goal.invariant-loop-part
invariant-loop-part l = (regs : List (List Symbol)) (b : ℕ) → Hold l.known regs → parts_code regs b (take l.part-index l.parts) ≡ symbols l.into
