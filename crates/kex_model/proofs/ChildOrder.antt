-- Nodes that are added come after their children.
use Rattle.std.proofs.Common.{◌≡◌, List, [], ◌∷◌, ◌++◌, ⊎_elim, length, sym, subst}
use Rattle.kex_model.specs.declared.program.Node.{Node}
use Rattle.kex_model.specs.Programs.{HasBelow, IsInOrder}
use Rattle.kex_model.proofs.Tables.{get_pushed}

pub order_more : (xs : List Node) (x : Node) → IsInOrder xs → HasBelow (length xs) x.kind → IsInOrder (xs ++ x ∷ [])
order_more xs x o b n m e = ⊎_elim (λ h. o n m h) (λ h. at_end h.0 h.1) (get_pushed xs x n m e)
  where
    at_end : n ≡ length xs → x ≡ m → HasBelow n m.kind
    at_end i same = subst (λ k. HasBelow k m.kind) (sym i) (subst (λ y. HasBelow (length xs) y.kind) same b)
