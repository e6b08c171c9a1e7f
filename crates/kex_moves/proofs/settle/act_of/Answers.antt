use Rattle.std.proofs.Common.{◌≡◌, ◌∷◌, [], refl, sym, subst}
use Rattle.kex_action.specs.Holdings.{with_bytes}
use Rattle.kex_action.specs.Actions.{after_action}
use Rattle.kex_moves.proofs.settle.act_of.Goals as goal

pub returns-in-Byte : goal.returns-in-Byte
returns-in-Byte c = λ b z. (b ∷ [], subst (λ a. after_action c.args.machine.now.nodes b a z ≡ with_bytes (b ∷ []) z) (sym c.in-Byte.is) refl)
