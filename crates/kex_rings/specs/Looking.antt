-- What a stage between two rings does.
use Rattle.std.specs.Prelude.{◌≡◌, ◌≤◌, ◌<◌, ◌+◌, ◌++◌, ◌⊎◌, [], ◌∷◌, true, false, Bool, List, ℕ}
use Rattle.std.specs.Prelude.{Some, None, length, map, min, All, IsTrue}
use Rattle.rtrb.specs.Ring.{known_items}
use Rattle.kex_model.specs.Schedules.{Progress}
use Rattle.kex_model.specs.Schedules as schedule
use Rattle.kex_pipe.specs.Seats.{IsWhole, Sits}
use Rattle.kex_pipe.specs.Waiting.{unread_bytes, waiting_items}
use Rattle.kex_pipe.specs.declared.inbox.Inbox.{Inbox}
use Rattle.kex_pipe.specs.declared.turn.Turn.{Ghosts}
use Rattle.kex_rings.specs.declared.item.Item.{Item}
use Rattle.kex_rings.specs.declared.ring_seat.RingSeat.{RingSeat}
use Rattle.kex_rings.specs.Items.{items_as}
use Rattle.kex_rings.specs.Ends.{Giver, Taker, sent_to, free_in, taken_from, seen_in, SameGiver}
use Rattle.kex_rings.specs.Ends.{SameTaker, ArePaired, AreBeside}

-- the place in the schedule when these items more were taken
abbrev pub fed_more : List schedule.StreamItem → Progress → Progress
fed_more items x = record { taken = x.taken ++ items; turned = true }

abbrev pub IsEmpty : Inbox → Type 0
IsEmpty b = (unread_bytes b ≡ []) × (b.ended ≡ false)

-- the stage took nothing, not even out of its ring, and what is unsent now is the rest of what was
pub record IsHeldBack (before after : List schedule.StreamItem) (popped more : List Item)
    (count : ℕ) : Type 0 where
  pub none_popped : popped ≡ []
  pub none_taken : count ≡ 0
  pub rest : before ≡ items_as more ++ after

module _ {T : Type 0} (t : Ghosts T) where
  -- what lies before the stage: in its inbox, and after that in its ring
  abbrev pub lies_before : RingSeat T t → List schedule.StreamItem
  lies_before s = waiting_items s.seat.inbox ++ items_as (seen_in s.from)

  -- how much the stage finds: what lies in its ring, before the first stage what lies in its inbox
  abbrev pub found_count : Taker → Inbox → ℕ
  found_count None inbox = length (waiting_items inbox)
  found_count (Some c) inbox = length (known_items c)

  -- what is not sent yet: all that the stage has written and the ring after it didn't take. After
  -- the last stage there is none
  abbrev pub unsent_of : Giver → Inbox → List schedule.StreamItem
  unsent_of None outbox = []
  unsent_of (Some p) outbox = waiting_items outbox

  abbrev pub finds : RingSeat T t → ℕ
  finds s = found_count s.from s.seat.inbox

  abbrev pub unsent_items : RingSeat T t → List schedule.StreamItem
  unsent_items s = unsent_of s.to s.seat.outbox

  -- a stage that sits at x was fed `count` items of what lay in its inbox and of what came out of
  -- its ring; what it wrote was sent or lies in its outbox, in order
  pub record FedBy (p : t.Plan) (x : Progress) (front : List schedule.StreamItem)
      (s s' : RingSeat T t) (popped more : List Item) (count : ℕ) : Type 0 where
    pub got : List schedule.StreamItem
    pub count_is : count ≡ length got
    pub parts : waiting_items s.seat.inbox ++ items_as popped ≡ got ++ waiting_items s'.seat.inbox
    pub out : List schedule.StreamItem
    pub sits : Sits t p s'.seat.staged (fed_more got x) out
    pub out_is : out ≡ front ++ (items_as more ++ waiting_items s'.seat.outbox)

  abbrev pub RingSeatFeeds : RingSeat T t → RingSeat T t → List Item → List Item → ℕ → Type 0
  RingSeatFeeds s s' popped more count =
      (p : t.Plan) (x : Progress) (out front : List schedule.StreamItem)
      → IsWhole (x.taken ++ (waiting_items s.seat.inbox ++ items_as popped))
      → Sits t p s.seat.staged x out → out ≡ front ++ waiting_items s.seat.outbox
      → FedBy p x front s s' popped more count

  -- looks, in which the stage took `count` items
  pub record Looks (room : ℕ) (s s' : RingSeat T t) (count : ℕ) : Type 0 where
    pub same_from : SameTaker s.from s'.from
    pub same_to : SameGiver s.to s'.to
    pub popped : List Item
    pub more : List Item
    pub came : taken_from s'.from ≡ taken_from s.from ++ popped
    pub went : sent_to s'.to ≡ sent_to s.to ++ more
    pub feeds : RingSeatFeeds s s' popped more count
    -- with nothing unsent it took all that it found, within the room
    pub took : unsent_items s ≡ [] → min room (finds s) ≤ count
    -- it sent what was unsent, as far as it knew slots to be free
    pub sent_most : min (length (unsent_items s)) (free_in s.to) ≤ length more
    -- unless it sent all that was unsent
    pub held : length more < length (unsent_items s)
        → IsHeldBack (unsent_items s) (unsent_items s') popped more count
    pub free : free_in s.to ≤ free_in s'.to + length more

  -- what was unsent was sent as far as the ring took it; nothing was taken
  pub record SendsOn (s s' : RingSeat T t) : Type 0 where
    pub same_from : s'.from ≡ s.from
    pub same_to : SameGiver s.to s'.to
    pub same_staged : s'.seat.staged ≡ s.seat.staged
    pub same_inbox : s'.seat.inbox ≡ s.seat.inbox
    pub more : List Item
    pub went : sent_to s'.to ≡ sent_to s.to ++ more
    pub parts : waiting_items s.seat.outbox ≡ items_as more ++ waiting_items s'.seat.outbox
    pub most : min (length (unsent_items s)) (free_in s.to) ≤ length more
    pub free : free_in s.to ≤ free_in s'.to + length more

  -- what it finds lies in the inbox; `count` items of that are to be taken
  pub record FindsIn (room : ℕ) (s s' : RingSeat T t) (count : ℕ) : Type 0 where
    pub same_from : SameTaker s.from s'.from
    pub same_to : s'.to ≡ s.to
    pub same_staged : s'.seat.staged ≡ s.seat.staged
    pub same_outbox : s'.seat.outbox ≡ s.seat.outbox
    pub popped : List Item
    pub came : taken_from s'.from ≡ taken_from s.from ++ popped
    pub lies : IsWhole (waiting_items s.seat.inbox ++ items_as popped)
        → waiting_items s'.seat.inbox ≡ waiting_items s.seat.inbox ++ items_as popped
    pub enough : count ≤ length (waiting_items s.seat.inbox ++ items_as popped)
    pub least : min room (finds s) ≤ count

  -- what it found was taken, within the room; nothing was sent
  pub record TakesIn (room : ℕ) (s s' : RingSeat T t) (count : ℕ) : Type 0 where
    pub same_from : SameTaker s.from s'.from
    pub same_to : s'.to ≡ s.to
    pub popped : List Item
    pub came : taken_from s'.from ≡ taken_from s.from ++ popped
    pub feeds : RingSeatFeeds s s' popped [] count
    pub took : min room (finds s) ≤ count

  -- it had a turn, nothing lies before it, and nothing is unsent
  abbrev pub IsIdle : RingSeat T t → Type 0
  IsIdle s = (s.seat.staged.turned ≡ true) × IsEmpty s.seat.inbox × (seen_in s.from ≡ [])
      × IsEmpty s.seat.outbox

  -- both ends in one hand: nothing was passed, and all that lies in the rings may be seen
  pub record OnlyLooked (s s' : RingSeat T t) : Type 0 where
    pub same_seat : s'.seat ≡ s.seat
    pub same_from : SameTaker s.from s'.from
    pub same_to : SameGiver s.to s'.to
    pub came : taken_from s'.from ≡ taken_from s.from
    pub went : sent_to s'.to ≡ sent_to s.to
    pub free : free_in s.to ≤ free_in s'.to

  -- the neighbours at the place between front and back, in one hand
  pub record NowBeside (front back : List (RingSeat T t)) (s n : RingSeat T t)
      (new : List (RingSeat T t)) : Type 0 where
    pub s' : RingSeat T t
    pub n' : RingSeat T t
    pub is : new ≡ front ++ s' ∷ n' ∷ back
    pub looked : OnlyLooked s s'
    pub next_looked : OnlyLooked n n'
    pub same_from : s'.from ≡ s.from
    pub same_to : n'.to ≡ n.to
    pub beside : (room : ℕ) → ArePaired room s.to n.from → AreBeside room s'.to n'.from

  -- what the last stage had written comes after what was in hand
  pub record CarriedOut (front : List (RingSeat T t)) (s : RingSeat T t) (b : Inbox)
      (new : List (RingSeat T t)) (b' : Inbox) : Type 0 where
    pub s' : RingSeat T t
    pub is : new ≡ front ++ s' ∷ []
    pub same_from : s'.from ≡ s.from
    pub same_to : s'.to ≡ s.to
    pub same_staged : s'.seat.staged ≡ s.seat.staged
    pub same_inbox : s'.seat.inbox ≡ s.seat.inbox
    pub same_usable : s'.seat.usable ≡ s.seat.usable
    pub none_left : waiting_items s'.seat.outbox ≡ []
    pub moves : (b.ended ≡ false) ⊎ (waiting_items s.seat.outbox ≡ [])
        → waiting_items b' ≡ waiting_items b ++ waiting_items s.seat.outbox

  abbrev pub AllRingSeatsUsable : List (RingSeat T t) → Type 0
  AllRingSeatsUsable ss = All (λ s. IsTrue s.seat.usable) ss

  -- the looks of each stage
  abbrev pub EachLooks : ℕ → List (RingSeat T t) → List (RingSeat T t) → List ℕ → Type 0
  EachLooks room [] [] [] = Unit {0}
  EachLooks room (s ∷ ss) (s' ∷ ss') (c ∷ cs) = Looks room s s' c × EachLooks room ss ss' cs
  EachLooks room ss ss' cs = ⊥

  -- all of them have made their looks, or one wanted memory
  pub record WorkedAll (room : ℕ) (done : Bool) (ss ss' : List (RingSeat T t)) : Type 0 where
    pub looks : done ≡ true → EachLooks room ss ss' (map (λ s. s.took) ss')
    pub usable : done ≡ true → AllRingSeatsUsable ss'
