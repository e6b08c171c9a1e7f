-- A look past the first byte of a piece.
use Rattle.std.specs.Prelude.{◌≡◌, ℕ, List, ◌∷◌, Some}
use Rattle.kex_sst.specs.declared.table.Transition.{Transition}
use Rattle.kex_sst.specs.Passes.{next_of}
use Rattle.kex_sst.specs.Tables.{Transducer}
use Rattle.kex_runner.specs.Quiet.{GoesQuietly}
use Rattle.kex_stage.specs.declared.ahead.PastFirst.{PastFirst}

-- at a state the first byte of a piece says this, and the others are quiet: they lead to this state
pub record IsPastFirst (t : Transducer) (q : ℕ) (piece : List ℕ) (p : PastFirst) : Type 0 where
  pub byte : ℕ
  pub rest : List ℕ
  pub parts : piece ≡ byte ∷ rest
  pub by : Transition
  pub goes : next_of t q byte ≡ Some by
  pub said : by.update.out ≡ p.said.now
  pub quiet : GoesQuietly t by.target p.to rest
