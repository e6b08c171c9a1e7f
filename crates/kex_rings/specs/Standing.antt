-- The schedules that a pipe with rings stands for.
use Rattle.std.specs.Prelude.{◌≡◌, ℕ, Bool, false, List, [], ◌++◌, Option, vec_len}
use Rattle.kex_code.specs.Codes.{Begins}
use Rattle.kex_model.specs.Answers.{Report, Pipeline}
use Rattle.kex_model.specs.Schedules.{StreamItem, has_end, items_of, Progress, Event, After}
use Rattle.kex_model.specs.Schedules.{LastWrote, Settled}
use Rattle.kex_pipe.specs.Events.{bytes_given, end_given}
use Rattle.kex_pipe.specs.Waiting.{unread_bytes}
use Rattle.kex_pipe.specs.declared.turn.Turn.{Ghosts}
use Rattle.kex_rings.specs.declared.pipe.RingPipe.{RingPipe}
use Rattle.kex_rings.specs.Lines.{RingLine}

module _ {T : Type 0} (t : Ghosts T) where
  abbrev pub rings_ended : RingPipe T t → Bool
  rings_ended pipe = pipe.ended

  abbrev pub rings_spent : RingPipe T t → Bool
  rings_spent pipe = pipe.spent

  abbrev pub rings_stage_count : RingPipe T t → ℕ
  rings_stage_count pipe = vec_len pipe.seats

  -- the output that is in hand
  abbrev pub rings_in_hand : RingPipe T t → List ℕ
  rings_in_hand pipe = unread_bytes pipe.output

  -- the pipe of stages with these plans has come by this schedule, and this was taken from its
  -- output
  pub record RingsStand (ps : List t.Plan) (pipe : RingPipe T t) (h : List Event)
      (taken : List ℕ) : Type 0 where
    pub came : List StreamItem
    pub seats : List Progress
    pub after : After t.gives ps h came seats
    pub output_ended : Bool
    pub written
        : LastWrote t.gives came ps seats (items_of (taken ++ rings_in_hand pipe) output_ended)
    pub line : RingLine t came [] ps pipe.seats.items seats pipe.output taken
    pub same_end : pipe.ended ≡ has_end came
    pub going : pipe.spent ≡ false

  -- the text that was taken, and what is in hand, begin the pipeline's text on what the schedule
  -- gives
  abbrev pub RingsBeginAnswer : List t.Plan → RingPipe T t → List Event → List ℕ → Type 0
  RingsBeginAnswer ps pipe h taken = (text : List ℕ) (report : Option Report)
      → Pipeline t.gives 1 ps (bytes_given h) (end_given h) text report
      → Begins text (taken ++ rings_in_hand pipe)

  -- the text that was taken, and what is in hand, are what the last stage has written by this
  -- schedule
  pub record RingsHaveWritten (ps : List t.Plan) (pipe : RingPipe T t) (h : List Event)
      (taken : List ℕ) : Type 0 where
    pub came : List StreamItem
    pub seats : List Progress
    pub after : After t.gives ps h came seats
    pub output_ended : Bool
    pub written
        : LastWrote t.gives came ps seats (items_of (taken ++ rings_in_hand pipe) output_ended)

  -- it stands for a schedule that gave the same, and all of that is worked off
  pub record WorksOff (ps : List t.Plan) (pipe : RingPipe T t) (h : List Event)
      (taken : List ℕ) : Type 0 where
    pub events : List Event
    pub same_bytes : bytes_given events ≡ bytes_given h
    pub same_end : end_given events ≡ end_given h
    pub stands : RingsStand ps pipe events taken
    pub settled : Settled t.gives stands.came ps stands.seats
