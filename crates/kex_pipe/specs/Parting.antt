-- Stages that hand out their desks.
use Rattle.std.specs.Prelude.{◌≡◌, ◌-◌, ℕ, List, Option, All, slice_index_or}
use Rattle.kex_pipe.specs.Histories.{StageFed}
use Rattle.kex_pipe.specs.declared.pipe.Pipe.{Pipe}
use Rattle.kex_pipe.specs.declared.seat.Seat.{Seat as Seated}
use Rattle.kex_pipe.specs.declared.turn.Turn.{Ghosts}

module _ {T : Type 0} (t : Ghosts T) where
  -- a seat whose stage stands for what it stood for, with what lay before and after it
  pub record SeatStays (old new : Seated T t) : Type 0 where
    pub plan : t.plan new.staged.stage ≡ t.plan old.staged.stage
    pub stands : (h : Option StageFed) → t.stands old.staged.stage h → t.stands new.staged.stage h
    pub turned : new.staged.turned ≡ old.staged.turned
    pub inbox : new.inbox ≡ old.inbox
    pub outbox : new.outbox ≡ old.outbox
    pub usable : new.usable ≡ old.usable

  -- the desks are those of the stage with this number, counted from 1
  abbrev pub AreDesksOf : {D : Type 0} → (T → D → Type 0) → ℕ → Pipe T t → List D → Type 0
  AreDesksOf Owns i pipe desks = (s : Seated T t)
      → All (λ d. Owns (slice_index_or pipe.seats.items (i - 1) s).staged.stage d) desks
