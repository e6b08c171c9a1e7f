-- What holds after a fault.
use Rattle.std.specs.Prelude.{ℕ, List}
use Rattle.kex_code.specs.declared.symbol.Symbol.{Symbol}
use Rattle.kex_action.specs.declared.fault.ActFault.{ActFault}
use Rattle.kex_action.specs.declared.fault.ActFault.TheVariants.{NotACode, Memory}
use Rattle.kex_action.specs.Actors.{Position, StoppedAt, WroteFront}

abbrev pub AfterFault : ActFault → Position → Position → List Symbol → List ℕ → List ℕ → Type 0
AfterFault (NotACode i) old new symbols before after = StoppedAt i old new symbols before after
AfterFault Memory old new symbols before after = WroteFront old symbols before after
