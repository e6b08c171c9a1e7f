-- What is given over rings is worked off by some rounds, and then by settling.
use Rattle.std.proofs.Common.{ℕ, List, [], ◌++◌, refl, sym, ◌∙◌, append-nil}
use Rattle.kex_model.specs.Schedules.{Event, Settled}
use Rattle.kex_pipe.specs.Events.{bytes_given}
use Rattle.kex_pipe.specs.declared.turn.Turn.{Ghosts}
use Rattle.kex_rings.specs.Lines.{turns_from}
use Rattle.kex_rings.specs.Standing.{RingsStand, WorksOff}
use Rattle.kex_rings.specs.declared.pipe.RingPipe.{RingPipe}
use Rattle.kex_rings.proofs.StageTurns.{same-bytes, same-end}
use Rattle.kex_pipeline.specs.Piped.{IsGiven, IsWorkedOff}

module _ {T : Type 0} (t : Ghosts T) (ps : List t.Plan) (h : List Event) (taken : List ℕ) where
  -- the pipe stands for a schedule that gave these bytes more
  abbrev pub Given : RingPipe T t → List ℕ → Type 0
  Given pipe more = IsGiven (λ k. RingsStand t ps pipe k taken) more h

  pub none-given : (pipe : RingPipe T t) → RingsStand t ps pipe h taken → Given pipe []
  none-given pipe s = record { events = h; bytes = sym (append-nil (bytes_given h)); same_end = refl; stands_for = s }

  -- all is worked off already
  pub settled-off : (pipe : RingPipe T t) (s : RingsStand t ps pipe h taken) → Settled t.gives s.came ps s.seats → IsWorkedOff t.gives ps (λ k. RingsStand t ps pipe k taken) h
  settled-off pipe s done = record { events = h; same_bytes = refl; same_end = refl; stands_for = s; settled = record { came = s.came; seats = s.seats; after = s.after; settled = done } }

  module _ (old pipe : RingPipe T t) (g : Given old []) where
    pub round-made : (counts : List ℕ) → ((k : List Event) → RingsStand t ps old k taken → RingsStand t ps pipe (k ++ turns_from 0 counts) taken) → Given pipe []
    round-made counts next = record {
      events = g.events ++ turns_from 0 counts;
      bytes = same-bytes g.events 0 counts ∙ g.bytes;
      same_end = same-end g.events 0 counts ∙ g.same_end;
      stands_for = next g.events g.stands_for;
    }

    pub rest-settled : ((k : List Event) → RingsStand t ps old k taken → WorksOff t ps pipe k taken) → IsWorkedOff t.gives ps (λ k. RingsStand t ps pipe k taken) h
    rest-settled settles =
        let w = settles g.events g.stands_for in
        record {
          events = w.events;
          same_bytes = w.same_bytes ∙ g.bytes ∙ append-nil (bytes_given h);
          same_end = w.same_end ∙ g.same_end;
          stands_for = w.stands;
          settled = record { came = w.stands.came; seats = w.stands.seats; after = w.stands.after; settled = w.settled };
        }
