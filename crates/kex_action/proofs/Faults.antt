-- What follows where memory was wanted.
use Rattle.std.proofs.Common.{◌≡◌, ℕ, List, Result, Ok, Err, IfErr, sym, subst}
use Rattle.std.specs.Prelude.{IsErrAnd}
use Rattle.kex_code.specs.declared.symbol.Symbol.{Symbol}
use Rattle.kex_action.specs.declared.fault.ActFault.{ActFault}
use Rattle.kex_action.specs.declared.fault.ActFault.TheVariants.{Memory}
use Rattle.kex_action.specs.Actors.{Position, WroteFront}
use Rattle.kex_action.specs.Faults.{AfterFault}

pub if_err : {T E : Type 0} {P Q : E → Type 0} (r : Result T E) → IsErrAnd r P → ((e : E) → P e → Q e) → IfErr r Q
if_err (Ok x) p f = tt
if_err (Err e) p f = f e p

pub after_memory : (e : ActFault) (old new : Position) (symbols : List Symbol) (before after : List ℕ) → e ≡ Memory → WroteFront old symbols before after → AfterFault e old new symbols before after
after_memory e old new symbols before after f w = subst (λ q. AfterFault q old new symbols before after) (sym f) w
