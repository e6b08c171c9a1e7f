-- The schedules that a pipe stands for, and its report.
use Rattle.std.specs.Prelude.{◌≡◌, ℕ, Bool, true, false, List, [], ◌∷◌, ◌++◌, Option, map, vec_len}
use Rattle.kex_code.specs.Codes.{Begins}
use Rattle.kex_model.specs.Answers.{Report, Pipeline}
use Rattle.kex_model.specs.Schedules.{StreamItem, byte, has_end, items_of, Progress, Event, Turned}
use Rattle.kex_model.specs.Schedules.{After, LastWrote}
use Rattle.kex_pipe.specs.Events.{bytes_given, end_given}
use Rattle.kex_pipe.specs.Rounds.{Each, LeftBy}
use Rattle.kex_pipe.specs.Seats.{Sits}
use Rattle.kex_pipe.specs.Waiting.{unread_bytes, waiting_items}
use Rattle.kex_pipe.specs.declared.inbox.Inbox.{Inbox}
use Rattle.kex_pipe.specs.declared.seat.Seat.{Seat as Seated}
use Rattle.kex_pipe.specs.declared.pipe.Pipe.{Pipe}
use Rattle.kex_pipe.specs.declared.turn.Turn.{Ghosts}

module _ {T : Type 0} (t : Ghosts T) where
  -- each stage sits in its seat; what came to it is what it has taken and then what waits, and
  -- nothing lies in its outbox; after the last stage, what was taken from the output and then what
  -- is in hand
  abbrev pub Line : List StreamItem → List t.Plan → List (Seated T t) → List Progress → Inbox
      → List ℕ → Type 0
  Line came [] [] [] b taken = came ≡ map byte taken ++ waiting_items b
  Line came (p ∷ ps) (s ∷ ss) (x ∷ xs) b taken = (came ≡ x.taken ++ waiting_items s.inbox)
      × (out : List StreamItem) × Sits t p s.staged x out × Line out ps ss xs b taken
      × (waiting_items s.outbox ≡ [])
  Line came ps ss xs b taken = ⊥

  -- after a turn of stage i, counted from 0, of at most m items
  pub record LineTurns (i m : ℕ) (came : List StreamItem) (ps : List t.Plan) (xs : List Progress)
      (taken : List ℕ) (ss : List (Seated T t)) (b : Inbox) : Type 0 where
    pub seats : List Progress
    pub takes : Turned t.gives i m came ps xs seats
    pub line : Line came ps ss seats b taken

  abbrev pub is_ended : Pipe T t → Bool
  is_ended pipe = pipe.ended

  abbrev pub is_spent : Pipe T t → Bool
  is_spent pipe = pipe.spent

  abbrev pub stage_count : Pipe T t → ℕ
  stage_count pipe = vec_len pipe.seats

  abbrev pub is_in_round : Pipe T t → Bool
  is_in_round pipe = pipe.in_round

  -- the output that is in hand
  abbrev pub in_hand : Pipe T t → List ℕ
  in_hand pipe = unread_bytes pipe.output

  -- the pipe of stages with these plans has come by this schedule, and this was taken from its
  -- output
  pub record Stands (ps : List t.Plan) (pipe : Pipe T t) (h : List Event)
      (taken : List ℕ) : Type 0 where
    pub came : List StreamItem
    pub seats : List Progress
    pub after : After t.gives ps h came seats
    pub output_ended : Bool
    pub written : LastWrote t.gives came ps seats (items_of (taken ++ in_hand pipe) output_ended)
    pub line : Line came ps pipe.seats.items seats pipe.output taken
    pub same_end : pipe.ended ≡ has_end came
    pub going : pipe.spent ≡ false
    pub closed : pipe.in_round ≡ false

  -- the text that was taken, and what is in hand, begin the pipeline's text on what the schedule
  -- gives
  abbrev pub BeginsAnswer : List t.Plan → Pipe T t → List Event → List ℕ → Type 0
  BeginsAnswer ps pipe h taken = (text : List ℕ) (report : Option Report)
      → Pipeline t.gives 1 ps (bytes_given h) (end_given h) text report
      → Begins text (taken ++ in_hand pipe)

  -- the text that was taken, and what is in hand, are what the last stage has written by this
  -- schedule
  pub record HasWritten (ps : List t.Plan) (pipe : Pipe T t) (h : List Event)
      (taken : List ℕ) : Type 0 where
    pub came : List StreamItem
    pub seats : List Progress
    pub after : After t.gives ps h came seats
    pub output_ended : Bool
    pub written : LastWrote t.gives came ps seats (items_of (taken ++ in_hand pipe) output_ended)

  -- this pipe is in a round, which began with that one
  pub record Began (before pipe : Pipe T t) : Type 0 where
    pub closed : before.in_round ≡ false
    pub is_open : pipe.in_round ≡ true
    pub same_output : pipe.output ≡ before.output
    pub same_end : pipe.ended ≡ before.ended
    pub same_spent : pipe.spent ≡ before.spent

  -- the seats are this pipe's own, in their order: each as it was when the round began, or as its
  -- work left it
  pub record Own (pipe : Pipe T t) (seats : List (Seated T t)) : Type 0 where
    pub before : Pipe T t
    pub began : Began before pipe
    pub left : Each (LeftBy t) before.seats.items seats
