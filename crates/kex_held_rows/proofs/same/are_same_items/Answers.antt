use Rattle.std.proofs.Common.{◌≡◌, ap, ap₂}
use Rattle.std.specs.Bool.{Decides}
use Rattle.std.proofs.lemmas.Bool.Decides.{Decides-eqb, Decides-and, Decides-like}
use Rattle.std.proofs.lemmas.Slice.Eq.{slice_eq-Decides}
use Rattle.kex_held.specs.declared.item.HeldItem.{HeldItem}
use Rattle.kex_held.specs.declared.item.HeldItem.TheVariants.{Slice, Effect}
use Rattle.kex_held.specs.contracts.item.HeldItemPartialEq.TheImpl as derived
use Rattle.kex_held_rows.proofs.same.are_same_items.Goals as goal

items_decide : (a b : HeldItem) → Decides (derived.eq-value.it a b) (a ≡ b)
items_decide (Slice i j) (Slice k l) = Decides-like _ (λ p. ap₂ Slice p.0 p.1) (λ e. let f : i ≡ k = cc in let g : j ≡ l = cc in (f, g)) (Decides-and _ _ (Decides-eqb i k) (Decides-eqb j l))
items_decide (Slice i j) (Effect n) = (λ e. cc, λ e. cc)
items_decide (Effect m) (Slice k l) = (λ e. cc, λ e. cc)
items_decide (Effect m) (Effect n) = (λ e. ap (λ z. Effect z) ((Decides-eqb m n).0 e), λ e. (Decides-eqb m n).1 cc)

pub returns : goal.returns
returns c = (slice_eq-Decides items_decide c.args.left.now c.args.right.now c.eq.result c.eq.ensures).0
