-- What it is to work off all that waits, step by step.
use Rattle.std.specs.Prelude.{◌≡◌, ◌<◌, ◌++◌, ◌⊎◌, [], ◌∷◌, true, false, ℕ, List, All, IsTrue}
use Rattle.std.specs.Prelude.{Some, slice_get}
use Rattle.kex_model.specs.Schedules.{StreamItem, Progress, Event, Turned, After}
use Rattle.kex_pipe.specs.Events.{bytes_given, end_given}
use Rattle.kex_pipe.specs.Seats.{IsWhole, Sits}
use Rattle.kex_pipe.specs.Waiting.{waiting_items}
use Rattle.kex_pipe.specs.declared.inbox.Inbox.{Inbox}
use Rattle.kex_pipe.specs.declared.seat.Seat.{Seat}
use Rattle.kex_pipe.specs.declared.turn.Turn.{Ghosts}
use Rattle.kex_rings.specs.declared.ring_seat.RingSeat.{RingSeat}
use Rattle.kex_rings.specs.Looking.{IsEmpty, lies_before}

-- what is moved from one box comes after what another holds, unless that has ended
abbrev pub MovesFrom : Inbox → Inbox → Inbox → Type 0
MovesFrom from to to' = (to.ended ≡ false) ⊎ (waiting_items from ≡ [])
    → waiting_items to' ≡ waiting_items to ++ waiting_items from

module _ {T : Type 0} (t : Ghosts T) where
  -- the stage without its rings: before it lies what lay before it, and after that what had not
  -- been sent to it; what it had not sent is to come before the next
  pub record Gathers (s : RingSeat T t) (s' : Seat T t) (unsent on : List StreamItem) : Type 0 where
    pub same_staged : s'.staged ≡ s.seat.staged
    pub none_behind : waiting_items s'.outbox ≡ []
    pub lies : IsWhole (lies_before t s ++ unsent)
        → waiting_items s'.inbox ≡ lies_before t s ++ unsent
    pub on_is : on ≡ waiting_items s.seat.outbox

  -- one stage after another
  abbrev pub GathersAll : List (RingSeat T t) → List (Seat T t) → List StreamItem → List StreamItem
      → Type 0
  GathersAll [] [] unsent on = on ≡ unsent
  GathersAll (s ∷ ss) (s' ∷ ss') unsent on = (mid : List StreamItem) × Gathers s s' unsent mid
      × GathersAll ss ss' mid on
  GathersAll ss ss' unsent on = ⊥

  -- each stage sits in its seat; what came to it is what it has taken and then what waits, and
  -- nothing lies in its outbox; what comes after the last stage is this front, and then what was
  -- made
  abbrev pub StageLine : List StreamItem → List t.Plan → List (Seat T t) → List Progress
      → List StreamItem → Inbox → Type 0
  StageLine came [] [] [] front made = came ≡ front ++ waiting_items made
  StageLine came (p ∷ ps) (s ∷ ss) (x ∷ xs) front made = (came ≡ x.taken ++ waiting_items s.inbox)
      × (out : List StreamItem) × Sits t p s.staged x out × StageLine out ps ss xs front made
      × (waiting_items s.outbox ≡ [])
  StageLine came ps ss xs front made = ⊥

  -- what lay in the outbox comes after what waited before the next stage, or after what was made
  abbrev pub HandsOn : Inbox → List (Seat T t) → Inbox → List (Seat T t) → Inbox → Type 0
  HandsOn outbox [] made [] made' = MovesFrom outbox made made'
  HandsOn outbox (n ∷ ss) made (n' ∷ ss') made' = MovesFrom outbox n.inbox n'.inbox
      × (n'.staged ≡ n.staged) × (n'.outbox ≡ n.outbox) × (ss' ≡ ss) × (made' ≡ made)
  HandsOn outbox ss made ss' made' = ⊥

  -- the stage at this place, counted from 0, has taken a turn of at most m items
  abbrev pub StageSteps : ℕ → ℕ → List (Seat T t) → Inbox → List (Seat T t) → Inbox → Type 0
  StageSteps i m ss made ss' made' = (ps : List t.Plan) (came : List StreamItem)
      (xs : List Progress) (front : List StreamItem) → IsWhole came
      → StageLine came ps ss xs front made
      → (ys : List Progress) × Turned t.gives i m came ps xs ys
      × StageLine came ps ss' ys front made'

  -- the stages have come there by turns after these events
  pub record ComesBy (ps : List t.Plan) (before : List Event) (came front : List StreamItem)
      (ss : List (Seat T t)) (made : Inbox) : Type 0 where
    pub events : List Event
    pub same_bytes : bytes_given events ≡ bytes_given before
    pub same_end : end_given events ≡ end_given before
    pub seats : List Progress
    pub after : After t.gives ps events came seats
    pub line : StageLine came ps ss seats front made

  abbrev pub LineWorks : List (Seat T t) → Inbox → List (Seat T t) → Inbox → Type 0
  LineWorks ss made ss' made' = (ps : List t.Plan) (h : List Event) (came : List StreamItem)
      (xs : List Progress) (front : List StreamItem) → IsWhole came → After t.gives ps h came xs
      → StageLine came ps ss xs front made → ComesBy ps h came front ss' made'

  abbrev pub AllSeatsUsable : List (Seat T t) → Type 0
  AllSeatsUsable ss = All (λ s. IsTrue s.usable) ss

  -- each had a turn, and nothing waits before one
  abbrev pub AllAtRest : List (Seat T t) → Type 0
  AllAtRest ss = All (λ s. (s.staged.turned ≡ true) × IsEmpty s.inbox) ss

  -- nothing waits before a stage after this one
  abbrev pub NoneWaitsAfter : ℕ → List (Seat T t) → Type 0
  NoneWaitsAfter i ss = (k : ℕ) (s : Seat T t) → i < k → slice_get ss k ≡ Some s → IsEmpty s.inbox
