-- What a pipe stands for, fed piece by piece.
use Rattle.std.specs.Prelude.{◌≡◌, ◌<◌, ◌++◌, [], ℕ, Bool, false, List, None, Some, length, map}
use Rattle.kex_model.specs.Answers.{Answer}
use Rattle.kex_model.specs.Schedules.{Event, StreamItem, Progress, After, Settled}
use Rattle.kex_pipe.specs.Events.{bytes_given, end_given}
use Rattle.kex_pipe.specs.Standing as by_rounds
use Rattle.kex_pipe.specs.declared.turn.Turn.{Ghosts}
use Rattle.kex_rings.specs.Standing as by_rings
use Rattle.kex_pipeline.specs.declared.any_pipe.AnyPipe.{AnyPipe}
use Rattle.kex_pipeline.specs.declared.any_pipe.AnyPipe.TheVariants.{Rounds, Turns, Rings}
use Rattle.kex_pipeline.specs.Sayings.{Said, StagesSay, first_limit}
use Rattle.kex_pipeline.specs.History.{StagesFed, History}

-- what stands for schedules in this way stands for one that gave these bytes more
pub record IsGiven (stands : List Event → Type 0) (more : List ℕ)
    (given : List Event) : Type 0 where
  pub events : List Event
  pub bytes : bytes_given events ≡ bytes_given given ++ more
  pub same_end : end_given events ≡ end_given given
  pub stands_for : stands events

module _ {P : Type 0} (gives : P → List ℕ → Bool → Answer → Type 0) (plans : List P) where
  -- all that the schedule gave is worked off
  pub record IsPipeSettled (events : List Event) : Type 0 where
    pub came : List StreamItem
    pub seats : List Progress
    pub after : After gives plans events came seats
    pub settled : Settled gives came plans seats

  -- what stands for schedules in this way stands for one that gave the same, and all of that is
  -- worked off
  pub record IsWorkedOff (stands : List Event → Type 0) (given : List Event) : Type 0 where
    pub events : List Event
    pub same_bytes : bytes_given events ≡ bytes_given given
    pub same_end : end_given events ≡ end_given given
    pub stands_for : stands events
    pub settled : IsPipeSettled events

module _ {T : Type 0} (t : Ghosts T) where
  abbrev pub is_any_ended : AnyPipe T t → Bool
  is_any_ended (Rounds pipe length) = by_rounds.is_ended t pipe
  is_any_ended (Turns pipe sharing) = by_rounds.is_ended t pipe
  is_any_ended (Rings pipe work) = by_rings.rings_ended t pipe

  abbrev pub is_any_in_round : AnyPipe T t → Bool
  is_any_in_round (Rounds pipe length) = by_rounds.is_in_round t pipe
  is_any_in_round (Turns pipe sharing) = by_rounds.is_in_round t pipe
  is_any_in_round (Rings pipe work) = false

  abbrev pub is_any_spent : AnyPipe T t → Bool
  is_any_spent (Rounds pipe length) = by_rounds.is_spent t pipe
  is_any_spent (Turns pipe sharing) = by_rounds.is_spent t pipe
  is_any_spent (Rings pipe work) = by_rings.rings_spent t pipe

  -- the output that is in hand
  abbrev pub any_in_hand : AnyPipe T t → List ℕ
  any_in_hand (Rounds pipe length) = by_rounds.in_hand t pipe
  any_in_hand (Turns pipe sharing) = by_rounds.in_hand t pipe
  any_in_hand (Rings pipe work) = by_rings.rings_in_hand t pipe

  -- the pipe of stages with these plans has come by this schedule, and this was taken from its
  -- output
  abbrev pub AnyPipeStands : List t.Plan → AnyPipe T t → List Event → List ℕ → Type 0
  AnyPipeStands plans (Rounds pipe length) events taken = by_rounds.Stands t plans pipe events taken
  AnyPipeStands plans (Turns pipe sharing) events taken = by_rounds.Stands t plans pipe events taken
  AnyPipeStands plans (Rings pipe work) events taken =
      by_rings.RingsStand t plans pipe events taken

  abbrev pub stages_of : AnyPipe T t → List T
  stages_of (Rounds pipe length) = map (λ s. s.staged.stage) pipe.seats.items
  stages_of (Turns pipe sharing) = map (λ s. s.staged.stage) pipe.seats.items
  stages_of (Rings pipe work) = map (λ s. s.seat.staged.stage) pipe.seats.items

  -- the plans of its stages
  abbrev pub plans_of : AnyPipe T t → List t.Plan
  plans_of pipe = map t.plan (stages_of pipe)

  -- what stages with these plans say together
  abbrev pub PipeSays : List t.Plan → List ℕ → Bool → Said → Type 0
  PipeSays plans w e said = StagesSay t.gives plans w e said

  -- the limit of its first stage
  abbrev pub limit_of : (T → ℕ) → AnyPipe T t → ℕ
  limit_of limit pipe = first_limit limit (stages_of pipe)

  -- the pipe was given what was fed, and what it has said was taken
  pub record HasSaid (plans : List t.Plan) (pipe : AnyPipe T t) (f : StagesFed) : Type 0 where
    pub given : List Event
    pub bytes : bytes_given given ≡ f.bytes
    pub end : end_given given ≡ f.ended
    pub worked_off
        : IsWorkedOff t.gives plans (λ events. AnyPipeStands plans pipe events f.said.text) given
    pub says : PipeSays plans f.bytes f.ended f.said

  abbrev pub PipeStands : AnyPipe T t → History → Type 0
  PipeStands pipe None = (0 < length (plans_of pipe)) × AnyPipeStands (plans_of pipe) pipe [] []
  PipeStands pipe (Some f) = HasSaid (plans_of pipe) pipe f
