-- Stages joined by rings, in a line.
use Rattle.std.specs.Prelude.{◌≡◌, ◌≤◌, ◌<◌, ◌+◌, ◌-◌, ℕ, suc, List, [], ◌∷◌, ◌++◌, map, length}
use Rattle.std.specs.Prelude.{min, All, IsSome}
use Rattle.kex_model.specs.Schedules.{StreamItem, byte, Progress, Event, turn, After, Settled}
use Rattle.kex_pipe.specs.Events.{bytes_given, end_given}
use Rattle.kex_pipe.specs.Seats.{IsWhole, Sits}
use Rattle.kex_pipe.specs.Waiting.{waiting_items}
use Rattle.kex_pipe.specs.declared.inbox.Inbox.{Inbox}
use Rattle.kex_pipe.specs.declared.turn.Turn.{Ghosts}
use Rattle.kex_rings.specs.declared.ring_seat.RingSeat.{RingSeat}
use Rattle.kex_rings.specs.Ends.{Giver, Taker, sent_to, taken_from, IsLast}
use Rattle.kex_rings.specs.Looking.{lies_before, finds, unsent_items}

-- turns of these counts in the order of the stages, from the stage with this number on, counted
-- from 0
abbrev pub turns_from : ℕ → List ℕ → List Event
turns_from k [] = []
turns_from k (c ∷ cs) = turn (suc k) c ∷ turns_from (suc k) cs

module _ {T : Type 0} (t : Ghosts T) where
  -- each stage sits in its seat; what came to it is what it has taken, then what lies before it,
  -- and then what the stage before it has not sent yet; after the last stage, what was taken from
  -- the output and then what is in hand
  abbrev pub RingLine : List StreamItem → List StreamItem → List t.Plan → List (RingSeat T t)
      → List Progress → Inbox → List ℕ → Type 0
  RingLine came ahead [] [] [] b taken = (came ≡ map byte taken ++ waiting_items b) × (ahead ≡ [])
  RingLine came ahead (p ∷ ps) (s ∷ ss) (x ∷ xs) b taken =
      (came ≡ x.taken ++ (lies_before t s ++ ahead)) × (out : List StreamItem)
      × Sits t p s.seat.staged x out × RingLine out (waiting_items s.seat.outbox) ps ss xs b taken
  RingLine came ahead ps ss xs b taken = ⊥

  -- in a round the stages took turns of these counts, in their order
  abbrev pub LineRounds : List (RingSeat T t) → Inbox → List (RingSeat T t) → Inbox → List ℕ
      → Type 0
  LineRounds ss b ss' b' counts = (ps : List t.Plan) (h : List Event) (came : List StreamItem)
      (xs : List Progress) (taken : List ℕ) → IsWhole came → After t.gives ps h came xs
      → RingLine came [] ps ss xs b taken
      → (ys : List Progress) × After t.gives ps (h ++ turns_from 0 counts) came ys
      × RingLine came [] ps ss' ys b' taken

  -- all that waits was worked off, by some turns
  abbrev pub LineSettles : List (RingSeat T t) → Inbox → List (RingSeat T t) → Inbox → Type 0
  LineSettles ss b ss' b' = (ps : List t.Plan) (h : List Event) (came : List StreamItem)
      (xs : List Progress) (taken : List ℕ) → IsWhole came → After t.gives ps h came xs
      → RingLine came [] ps ss xs b taken
      → (events : List Event) × (bytes_given events ≡ bytes_given h)
      × (end_given events ≡ end_given h) × (ys : List Progress) × After t.gives ps events came ys
      × RingLine came [] ps ss' ys b' taken × Settled t.gives came ps ys

  -- each neighbours' ends of the ring between them are so; before the first one is this end, and
  -- after the last one none
  abbrev pub Joined : (Giver → Taker → Type 0) → Giver → List (RingSeat T t) → Type 0
  Joined R to [] = IsLast to
  Joined R to (s ∷ ss) = R to s.from × Joined R s.to ss

  -- each stage but the last has a ring after it
  abbrev pub HaveRings : List (RingSeat T t) → Type 0
  HaveRings [] = Unit {0}
  HaveRings (s ∷ []) = Unit {0}
  HaveRings (s ∷ n ∷ ss) = IsSome s.to × HaveRings (n ∷ ss)

  -- how far a stage gets in a round
  pub record GetsOn (room : ℕ) (s s' : RingSeat T t) (count : ℕ) : Type 0 where
    -- with nothing unsent it took all that it found, within the room
    pub took : unsent_items t s ≡ [] → min room (finds t s) ≤ count
    -- it sent what was unsent, as far as the room goes
    pub sent : min (length (unsent_items t s)) (room - length (sent_to s.to))
        + length (sent_to s.to) ≤ length (sent_to s'.to)
    -- unless it sent all that was unsent it took nothing, not even out of its ring
    pub held : length (sent_to s'.to) < length (sent_to s.to) + length (unsent_items t s)
        → (count ≡ 0) × (taken_from s'.from ≡ taken_from s.from)

  abbrev pub AllGetOn : ℕ → List (RingSeat T t) → List (RingSeat T t) → List ℕ → Type 0
  AllGetOn room [] [] [] = Unit {0}
  AllGetOn room (s ∷ ss) (s' ∷ ss') (c ∷ cs) = GetsOn room s s' c × AllGetOn room ss ss' cs
  AllGetOn room ss ss' cs = ⊥

  -- nothing has passed through the rings yet
  abbrev pub AreNew : List (RingSeat T t) → Type 0
  AreNew ss = All (λ s. (sent_to s.to ≡ []) × (taken_from s.from ≡ [])) ss
