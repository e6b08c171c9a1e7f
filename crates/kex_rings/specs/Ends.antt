-- The ends of rings that a stage has: none before the first stage, none after the last.
use Rattle.std.specs.Prelude.{◌≡◌, ℕ, ◌++◌, List, [], Option, Some, None}
use Rattle.std.proofs.Common.{Global}
use Rattle.rtrb.specs.Ring.{sent, known_free, received, known_items, producer_capacity, IsPair}
use Rattle.rtrb.specs.Ring.{SameProducer, SameConsumer}
use Rattle.rtrb.specs.declared.producer.Producer.{Producer}
use Rattle.rtrb.specs.declared.consumer.Consumer.{Consumer}
use Rattle.rtrb.specs.declared.AnyItems.{AnyItems}
use Rattle.kex_rings.specs.declared.item.Item.{Item}

abbrev pub Giver : Type 0
Giver = Option (Producer Item Global AnyItems)

abbrev pub Taker : Type 0
Taker = Option (Consumer Item Global AnyItems)

-- what was sent since the ring was made
abbrev pub sent_to : Giver → List Item
sent_to None = []
sent_to (Some p) = sent p

-- how many slots are known to be free
abbrev pub free_in : Giver → ℕ
free_in None = 0
free_in (Some p) = known_free p

-- what was taken out since the ring was made
abbrev pub taken_from : Taker → List Item
taken_from None = []
taken_from (Some c) = received c

-- what is seen in the ring, in its order
abbrev pub seen_in : Taker → List Item
seen_in None = []
seen_in (Some c) = known_items c

abbrev pub SameGiver : Giver → Giver → Type 0
SameGiver None None = Unit {0}
SameGiver (Some a) (Some b) = SameProducer a b
SameGiver a b = ⊥

abbrev pub SameTaker : Taker → Taker → Type 0
SameTaker None None = Unit {0}
SameTaker (Some a) (Some b) = SameConsumer a b
SameTaker a b = ⊥

abbrev pub IsLast : Giver → Type 0
IsLast None = Unit {0}
IsLast (Some p) = ⊥

-- the two ends of one ring with this room, or no ring
abbrev pub ArePaired : ℕ → Giver → Taker → Type 0
ArePaired room None None = Unit {0}
ArePaired room (Some p) (Some c) = IsPair p c × (producer_capacity p ≡ room)
ArePaired room to from = ⊥

-- with both ends in one hand all that lies in the ring is seen
abbrev pub AreBeside : ℕ → Giver → Taker → Type 0
AreBeside room to from = ArePaired room to from × (taken_from from ++ seen_in from ≡ sent_to to)
