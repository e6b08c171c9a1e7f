-- What goes into a ring and out of one.
use Rattle.std.specs.Prelude.{◌≡◌, ◌≤◌, ◌+◌, ◌++◌, List, ℕ, length, min}
use mathlib.Core.List.{IsPrefix}
use Rattle.rtrb.specs.Ring.{sent, known_free, received, known_items, SameProducer, SameConsumer}
use Rattle.rtrb.specs.declared.producer.Producer.{Producer}
use Rattle.rtrb.specs.declared.consumer.Consumer.{Consumer}
use Rattle.kex_pipe.specs.Seats.{IsWhole}
use Rattle.kex_pipe.specs.Waiting.{waiting_items}
use Rattle.kex_pipe.specs.declared.inbox.Inbox.{Inbox}
use Rattle.kex_rings.specs.declared.item.Item.{Item}
use Rattle.kex_rings.specs.Items.{items_as}

module _ {A P : Type 0} where
  -- the first of what was unsent was sent: at least as much as slots were known to be free
  pub record Sends (old new : Inbox) (ring ring' : Producer Item A P) : Type 0 where
    pub same : SameProducer ring ring'
    pub more : List Item
    pub went : sent ring' ≡ sent ring ++ more
    pub parts : waiting_items old ≡ items_as more ++ waiting_items new
    pub most : min (length (waiting_items old)) (known_free ring) ≤ length more
    pub free : known_free ring ≤ known_free ring' + length more

  -- `count` items came out, at least all that were seen, within the room; where nothing comes
  -- after an end they lie in the inbox
  pub record Pulls (room : ℕ) (old new : Inbox) (ring ring' : Consumer Item A P)
      (count : ℕ) : Type 0 where
    pub same : SameConsumer ring ring'
    pub items : List Item
    pub came : received ring' ≡ received ring ++ items
    pub count_is : count ≡ length items
    pub within : count ≤ room
    pub least : min room (length (known_items ring)) ≤ count
    pub lies : IsWhole (waiting_items old ++ items_as items)
        → waiting_items new ≡ waiting_items old ++ items_as items

  -- `count` items came out, what was seen before the rest; where nothing comes after an end they
  -- lie in the inbox
  pub record ComesOut (old new : Inbox) (ring ring' : Consumer Item A P) (count : ℕ) : Type 0 where
    pub same : SameConsumer ring ring'
    pub items : List Item
    pub came : received ring' ≡ received ring ++ items
    pub count_is : count ≡ length items
    pub order : IsPrefix (known_items ring) (items ++ known_items ring')
    pub lies : IsWhole (waiting_items old ++ items_as items)
        → waiting_items new ≡ waiting_items old ++ items_as items
