-- Why a machine isn't trimmed, said of the stage's places.
use Rattle.std.proofs.Common.{◌≡◌, ℕ, Ok, Err, sym, subst}
use Rattle.std.specs.Prelude.{Result, IfErr, IsErrAnd}
use Rattle.kex_model.specs.Programs.{Grammar}
use Rattle.kex_model.specs.Places.{moves, start_of}
use Rattle.kex_machine.specs.Nodes.{Graph, node_moves}
use Rattle.kex_desugar.specs.Machines.{HasMore, IsMachineOf}
use Rattle.kex_trim.specs.Trim.{IsTrimCause}
use Rattle.kex_trim.specs.declared.TrimRefusal.{TrimRefusal}
use Rattle.kex_trim.specs.declared.TrimRefusal.TheVariants.{NoText, Memory}
use Rattle.kex_lowering.specs.Refusals.{of_trim}
use Rattle.kex_lowering.specs.Stages.{IsWhy}
use Rattle.kex_lowering.proofs.PlaceNodes.{Numbered, alike}
use Rattle.kex_lowering.proofs.Pairs.{end_ahead}

pub why : (P : Grammar) (root max : ℕ) (m : Graph) (e : TrimRefusal) → IsMachineOf P root m → (HasMore P root max → ⊥) → IsTrimCause m e → IsWhy P root max (of_trim e)
why P root max m NoText is fits h = (fits, (λ l. h (end_ahead (λ p. moves P p) (λ n. node_moves m.nodes n) (Numbered P root m is) (alike P root m is) (start_of P root) m.start is.start l)))
why P root max m Memory is fits h = tt

pub if_err : {A B : Type 0} (r : Result A B) (b : B) (Q : B → Type 0) → IsErrAnd r (λ e. e ≡ b) → Q b → IfErr r Q
if_err (Ok v) b Q is q = absurd is
if_err (Err e) b Q is q = subst Q (sym is) q
