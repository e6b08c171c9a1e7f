-- Turns in the order of the stages: each settles one stage more.
use Rattle.std.proofs.Common.{◌≡◌, ℕ, zero, suc, Bool, List, [], ◌∷◌, ◌++◌, length, take, drop, refl, sym, ap, subst, ◌∙◌, append-nil, arith}
use Rattle.std.proofs.Math.Seq.{drop-append_seam}
use Rattle.std.proofs.lemmas.List.{take_all}
use Rattle.kex_model.specs.Answers.{Answer}
use Rattle.kex_model.specs.Schedules.{StreamItem, Progress, Event, turn, Turned}
use Rattle.kex_pipe.specs.Rounds.{waits_at, turn_of}
use Rattle.kex_pipe.specs.Settling.{SettledTo}
use Rattle.kex_pipe.specs.Standing.{Line, Stands}
use Rattle.kex_pipe.specs.Waiting.{waiting_items}
use Rattle.kex_pipe.specs.declared.inbox.Inbox.{Inbox}
use Rattle.kex_pipe.specs.declared.seat.Seat.{Seat as Seated}
use Rattle.kex_pipe.specs.declared.pipe.Pipe.{Pipe}
use Rattle.kex_pipe.specs.declared.turn.Turn.{Ghosts}
use Rattle.kex_pipe.proofs.Lines.{sits-wrote}
use Rattle.kex_pipe.proofs.RoundTurns.{drop-all}
use Rattle.kex_pipe.proofs.Schedule.{bytes_given-append, end_given-append}
use Rattle.kex_pipe.specs.Events.{bytes_given, end_given}
use Rattle.kex_pipeline.proofs.PipeAnswers.{or-not}
use Rattle.kex_pipeline.proofs.Schedules.{did, one-writes, same-came, same-seats}
use Rattle.kex_pipeline.proofs.StageRounds.{Rounding}

-- a turn of all that waits leaves nothing
all-taken : (came taken waits : List StreamItem) → came ≡ taken ++ waits → drop (length (taken ++ take (length waits) (drop (length taken) came))) came ≡ []
all-taken came taken waits is =
    let rest : drop (length taken) came ≡ waits = ap (λ z. drop (length taken) z) is ∙ drop-append_seam taken waits in
    let all : taken ++ take (length waits) (drop (length taken) came) ≡ came = ap (λ z. taken ++ take (length waits) z) rest ∙ ap (λ z. taken ++ z) (take_all (length waits) waits (omega arith)) ∙ sym is in
    ap (λ z. drop (length z) came) all ∙ drop-all came

module _ {T : Type 0} (t : Ghosts T) (one : (p : t.Plan) (w : List ℕ) (e : Bool) (a b : Answer) → t.gives p w e a → t.gives p w e b → a ≡ b) where
  settles-next : (i : ℕ) (came : List StreamItem) (ps : List t.Plan) (ss : List (Seated T t)) (xs ys : List Progress) (b : Inbox) (taken : List ℕ) → Line t came ps ss xs b taken → Turned t.gives i (waits_at t ss i) came ps xs ys → SettledTo t.gives i came ps xs → SettledTo t.gives (suc i) came ps ys
  settles-next i came [] ss xs ys b taken line turns done = absurd turns
  settles-next i came (p ∷ ps) [] xs ys b taken line turns done = absurd line
  settles-next i came (p ∷ ps) (s ∷ ss) [] ys b taken line turns done = absurd line
  settles-next zero came (p ∷ ps) (s ∷ ss) (x ∷ xs) ys b taken line (out, wrote, is) done =
      subst (λ z. SettledTo t.gives (suc zero) came (p ∷ ps) z) (sym is) (refl, all-taken came x.taken (waiting_items s.inbox) line.0, out, wrote, tt)
  settles-next (suc i) came (p ∷ ps) (s ∷ ss) (x ∷ xs) ys b taken line (out, zs, wrote, turns, is) (had, none, next, w, done) =
      let here = sits-wrote t p s.staged x line.1 line.2 in
      let wrote_is : out ≡ line.1 = one-writes t.gives one p x.turned x.taken out line.1 wrote here in
      let next_is : next ≡ line.1 = one-writes t.gives one p x.turned x.taken next line.1 w here in
      subst (λ z. SettledTo t.gives (suc (suc i)) came (p ∷ ps) z) (sym is) (
        had,
        none,
        line.1,
        here,
        settles-next i line.1 ps ss xs zs b taken line.3 (subst (λ z. Turned t.gives i (waits_at t ss i) z ps xs zs) wrote_is turns) (subst (λ z. SettledTo t.gives i z ps xs) next_is done),
      )

  pub turn-made : (i : ℕ) (ps : List t.Plan) (h : List Event) (taken : List ℕ) (old pipe : Pipe T t) → ((k : List Event) → Stands t ps old k taken → Stands t ps pipe (k ++ turn_of t old.seats.items i ∷ []) taken) → Rounding t i ps h taken old → Rounding t (suc i) ps h taken pipe
  turn-made i ps h taken old pipe next r =
      let m = waits_at t old.seats.items i in
      let event = turn_of t old.seats.items i in
      let n = next r.events r.stands in
      let d = did t.gives ps n.after r.events (turn (suc i) m) refl in
      let seats : d.0 ≡ r.stands.seats = same-seats t.gives one ps d.1 r.stands.after in
      let came : n.came ≡ r.stands.came = same-came t.gives ps d.1 r.stands.after in
      let turns : Turned t.gives i m r.stands.came ps r.stands.seats n.seats = subst (λ z. Turned t.gives i m z ps r.stands.seats n.seats) came (subst (λ z. Turned t.gives i m n.came ps z n.seats) seats d.2) in
      let front : SettledTo t.gives (suc i) r.stands.came ps n.seats = settles-next i r.stands.came ps old.seats.items r.stands.seats n.seats old.output taken r.stands.line turns r.front in
      record {
        events = r.events ++ event ∷ [];
        same_bytes = bytes_given-append r.events (event ∷ []) ∙ append-nil (bytes_given r.events) ∙ r.same_bytes;
        same_end = end_given-append r.events (event ∷ []) ∙ or-not (end_given r.events) ∙ r.same_end;
        stands = n;
        front = subst (λ z. SettledTo t.gives (suc i) z ps n.seats) (sym came) front;
      }
