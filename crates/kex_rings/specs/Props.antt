-- That two ends are those of one ring has one proof at most, and that stages have rings.
use mathlib.Core.Path.{◌≡◌, refl, sym, ap, ◌∙◌}
use mathlib.Core.Logic.{◌⊎◌, inl, inr}
use mathlib.Core.HLevel.{collapsible→set, prop→set, Unit-prop, ×_prop}
use mathlib.Core.Sum.{⊎_set}
use mathlib.Core.List.{is_set as List-set}
use native.Mathlib.Nat.{ℕ_set}
use Rattle.std.proofs.Common.{ℕ, Bool, false, List, [], ◌∷◌, Some, None}
use Rattle.std.proofs.Props.{props}
use Rattle.kex_pipe.specs.declared.turn.Turn.{Ghosts}
use Rattle.kex_rings.specs.declared.item.Item.{Item}
use Rattle.kex_rings.specs.declared.item.Item.TheVariants.{Byte, End}
use Rattle.kex_rings.specs.declared.ring_seat.RingSeat.{RingSeat}
use Rattle.kex_rings.specs.Ends.{Giver, Taker, IsLast, ArePaired, AreBeside}
use Rattle.kex_rings.specs.Lines.{Joined, HaveRings}

retract-set : {A B : Type 0} (to : A → B) (from : B → A) → ((x : A) → from (to x) ≡ x) → IsSet B
    → IsSet A
retract-set to from back set = collapsible→set (λ x y p. sym (back x) ∙ ap from (ap to p) ∙ back y)
    (λ x y p q. ap (λ z. sym (back x) ∙ ap from z ∙ back y) (set (to x) (to y) (ap to p) (ap to q)))

item-set : IsSet Item
item-set = retract-set {B = ℕ ⊎ Unit {0}} (elim [ Byte b ↦ inl b | End ↦ inr tt ])
    (elim [ inl b ↦ Byte b | inr _ ↦ End ]) (elim [ Byte b ↦ refl | End ↦ refl ])
    (⊎_set ℕ_set (prop→set Unit-prop))

paired-prop : (room : ℕ) (to : Giver) (from : Taker) → IsProp (ArePaired room to from)
paired-prop room None None = Unit-prop
paired-prop room (Some p) (Some c) = Prim.hlevel props
paired-prop room None (Some c) = Prim.hlevel props
paired-prop room (Some p) None = Prim.hlevel props

beside-prop : (room : ℕ) (to : Giver) (from : Taker) → IsProp (AreBeside room to from)
beside-prop room to from = ×_prop (paired-prop room to from) (List-set item-set _ _)

last-prop : (to : Giver) → IsProp (IsLast to)
last-prop None = Unit-prop
last-prop (Some p) = Prim.hlevel props

module _ {T : Type 0} (t : Ghosts T) where
  joined-prop : (room : ℕ) (to : Giver) (ss : List (RingSeat T t))
      → IsProp (Joined t (AreBeside room) to ss)
  joined-prop room to [] = last-prop to
  joined-prop room to (s ∷ ss) = ×_prop (beside-prop room to s.from) (joined-prop room s.to ss)

  row-prop : (ss : List (RingSeat T t)) → IsProp (HaveRings t ss)
  row-prop [] = Unit-prop
  row-prop (s ∷ []) = Unit-prop
  row-prop (s ∷ n ∷ ss) = ×_prop (Prim.hlevel props) (row-prop (n ∷ ss))

  pub rings-prop : (spent : Bool) (ss : List (RingSeat T t))
      → IsProp (spent ≡ false → HaveRings t ss)
  rings-prop spent ss = Prim.hlevel (props, row-prop)

  pub prop : (spent : Bool) (room : ℕ) (ss : List (RingSeat T t))
      → IsProp (spent ≡ false → Joined t (AreBeside room) None ss)
  prop spent room ss = Prim.hlevel (props, joined-prop)
