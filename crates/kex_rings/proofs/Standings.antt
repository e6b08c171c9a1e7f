-- What a pipe with rings stands for, and that its text is the pipeline's.
use Rattle.std.proofs.Common.{◌≡◌, ◌<◌, ◌+◌, ◌&&◌, ℕ, zero, suc, Bool, true, false, List, [], ◌∷◌, ◌++◌, Option, Some, None, length, map, take, get_or, refl, sym, ap, ap₂, subst, ◌∙◌, append_assoc, append-nil, arith}
use Rattle.std.specs.Prelude.{is_none}
use Rattle.std.proofs.Math.ListN.{set}
use Rattle.std.proofs.lemmas.List.{map-append}
use Rattle.kex_code.specs.Codes.{Begins}
use Rattle.kex_model.specs.Answers.{Answer, Stop, Report, later_report, Pipeline}
use Rattle.kex_model.specs.Schedules.{StreamItem, byte, bytes_in, has_end, end_items, items_of, Progress, fresh, Event, After, Settled, LastWrote}
use Rattle.kex_pipe.specs.Events.{bytes_given, end_given}
use Rattle.kex_pipe.specs.Histories.{StageFed, stop_in}
use Rattle.kex_pipe.specs.Rounds.{Each}
use Rattle.kex_pipe.specs.Seats.{IsWhole, IsStageFed, written_by, Sits}
use Rattle.kex_pipe.specs.Waiting.{unread_bytes, waiting_items}
use Rattle.kex_pipe.specs.Reports.{latest_report, HasStop, LastStop}
use Rattle.kex_pipe.specs.declared.inbox.Inbox.{Inbox}
use Rattle.kex_pipe.specs.declared.seat.Seat.{Seat as Seated}
use Rattle.kex_pipe.specs.declared.turn.Turn.{Ghosts}
use Rattle.kex_pipe.proofs.Items.{bytes-items, end-items, bytes-append, no-items, rest-empty}
use Rattle.kex_pipe.proofs.SeatTurns.{left}
use Rattle.kex_pipe.proofs.Lines.{sits-wrote}
use Rattle.kex_pipe.proofs.Schedule.{came-given, out-items}
use Rattle.kex_pipe.proofs.Begins.{bytes-front, sits-begins, one-wrote}
use Rattle.kex_pipe.proofs.Stops.{later-latest, latest-later, sits-stop, IsNew}
use Rattle.kex_rings.specs.declared.ring_seat.RingSeat.{RingSeat}
use Rattle.kex_rings.specs.declared.pipe.RingPipe.{RingPipe}
use Rattle.kex_rings.specs.Items.{items_as}
use Rattle.kex_rings.specs.Ends.{Giver, sent_to, taken_from, seen_in, AreBeside}
use Rattle.kex_rings.specs.Looking.{lies_before, IsIdle}
use Rattle.kex_rings.specs.Lines.{RingLine, Joined, AreNew}
use Rattle.kex_rings.specs.Standing.{RingsStand, RingsBeginAnswer, RingsHaveWritten, rings_in_hand}

pub whole-given : (h : List Event) (came : List StreamItem) → came ≡ items_of (bytes_given h) (end_given h) → IsWhole came
whole-given h came e = (bytes_given h, end_given h, e)

none-seen : {A : Type 0} (xs ys : List A) → xs ++ ys ≡ [] → ys ≡ []
none-seen [] ys e = e
none-seen (x ∷ xs) ys e = cc

module _ {T : Type 0} (t : Ghosts T) where
  pub line-wrote : (came ahead : List StreamItem) (ps : List t.Plan) (ss : List (RingSeat T t)) (xs : List Progress) (b : Inbox) (taken : List ℕ) → RingLine t came ahead ps ss xs b taken → (f : Bool) × LastWrote t.gives came ps xs (items_of (taken ++ unread_bytes b) f)
  line-wrote came ahead [] [] [] b taken h = (b.ended, out-items t taken (unread_bytes b) b.ended ∙ sym h.0)
  line-wrote came ahead (p ∷ ps) (s ∷ ss) (x ∷ xs) b taken h =
      let r = line-wrote h.1 (waiting_items s.seat.outbox) ps ss xs b taken h.3 in
      (r.0, (h.1, sits-wrote t p s.seat.staged x h.1 h.2, r.1))
  line-wrote came ahead ps ss xs b taken h = absurd h

  pub standing : (ps : List t.Plan) (pipe : RingPipe T t) (h : List Event) (taken : List ℕ) (came : List StreamItem) (xs : List Progress) → After t.gives ps h came xs → RingLine t came [] ps pipe.seats.items xs pipe.output taken → pipe.ended ≡ has_end came → pipe.spent ≡ false → RingsStand t ps pipe h taken
  standing ps pipe h taken came xs after line same_end going =
      let r = line-wrote came [] ps pipe.seats.items xs pipe.output taken line in
      record { came = came; seats = xs; after = after; output_ended = r.0; written = r.1; line = line; same_end = same_end; going = going }

  -- the same, with what else is known of the places
  pub standing-and : (Q : List StreamItem → List Progress → Type 0) (ps : List t.Plan) (pipe : RingPipe T t) (h : List Event) (taken : List ℕ) (came : List StreamItem) (xs : List Progress) → After t.gives ps h came xs → RingLine t came [] ps pipe.seats.items xs pipe.output taken → pipe.ended ≡ has_end came → pipe.spent ≡ false → Q came xs → (s : RingsStand t ps pipe h taken) × Q s.came s.seats
  standing-and Q ps pipe h taken came xs after line same_end going q =
      let r = line-wrote came [] ps pipe.seats.items xs pipe.output taken line in
      (record { came = came; seats = xs; after = after; output_ended = r.0; written = r.1; line = line; same_end = same_end; going = going }, q)

  -- more comes to the first stage, before which no ring is
  pub line-more : (room : ℕ) (came came' : List StreamItem) (ps : List t.Plan) (ss : List (RingSeat T t)) (xs : List Progress) (b : Inbox) (taken : List ℕ) (s s' d : RingSeat T t) → Joined t (AreBeside room) None ss → s ≡ get_or ss 0 d → s'.seat.staged ≡ s.seat.staged → s'.seat.outbox ≡ s.seat.outbox → s'.from ≡ s.from → ((front : List StreamItem) → came ≡ front ++ waiting_items s.seat.inbox → came' ≡ front ++ waiting_items s'.seat.inbox) → 0 < length ss → RingLine t came [] ps ss xs b taken → RingLine t came' [] ps (set ss 0 s') xs b taken
  line-more room came came' ps [] xs b taken s s' d j s_is staged outbox from more some h = absurd (omega arith)
  line-more room came came' (p ∷ ps) (s0 ∷ ss) (x ∷ xs) b taken s s' d j s_is staged outbox from more some h =
      let none : items_as (seen_in s0.from) ≡ [] = ap items_as (none-seen (taken_from s0.from) (seen_in s0.from) j.0.1) in
      let none' : items_as (seen_in s'.from) ≡ [] = ap (λ z. items_as (seen_in z)) (from ∙ ap (λ z. z.from) s_is) ∙ none in
      let plain : (u : RingSeat T t) → items_as (seen_in u.from) ≡ [] → lies_before t u ++ [] ≡ waiting_items u.seat.inbox = λ u e. append-nil (lies_before t u) ∙ ap (λ z. waiting_items u.seat.inbox ++ z) e ∙ append-nil (waiting_items u.seat.inbox) in
      let now = more x.taken (h.0 ∙ ap (λ z. x.taken ++ z) (plain s0 none) ∙ ap (λ z. x.taken ++ waiting_items z.seat.inbox) (sym s_is)) in
      (now ∙ ap (λ z. x.taken ++ z) (sym (plain s' none')), h.1, subst (λ z. Sits t p z x h.1) (ap (λ z. z.seat.staged) (sym s_is) ∙ sym staged) h.2, subst (λ z. RingLine t h.1 (waiting_items z) ps ss xs b taken) (ap (λ z. z.seat.outbox) (sym s_is) ∙ sym outbox) h.3)
  line-more room came came' ps ss xs b taken s s' d j s_is staged outbox from more some h = absurd h

  -- the output is taken
  pub line-taken : (came ahead : List StreamItem) (ps : List t.Plan) (ss : List (RingSeat T t)) (xs : List Progress) (b b' : Inbox) (taken out : List ℕ) → out ≡ unread_bytes b → unread_bytes b' ≡ [] → b'.ended ≡ b.ended → RingLine t came ahead ps ss xs b taken → RingLine t came ahead ps ss xs b' (taken ++ out)
  line-taken came ahead [] [] [] b b' taken out out_is none end h =
      (h.0 ∙ sym (out-items t taken (unread_bytes b) b.ended) ∙ ap₂ (λ z f. map byte (taken ++ z) ++ end_items f) (sym out_is) (sym end) ∙ ap (λ z. map byte (taken ++ out) ++ items_of z b'.ended) (sym none), h.1)
  line-taken came ahead (p ∷ ps) (s ∷ ss) (x ∷ xs) b b' taken out out_is none end h =
      (h.0, h.1, h.2, line-taken h.1 (waiting_items s.seat.outbox) ps ss xs b b' taken out out_is none end h.3)
  line-taken came ahead ps ss xs b b' taken out out_is none end h = absurd h

  -- the output is as it was
  pub has-written : (ps : List t.Plan) (before pipe : RingPipe T t) (h : List Event) (taken : List ℕ) → rings_in_hand t pipe ≡ rings_in_hand t before → RingsStand t ps before h taken → RingsHaveWritten t ps pipe h taken
  has-written ps before pipe h taken same s = record {
    came = s.came;
    seats = s.seats;
    after = s.after;
    output_ended = s.output_ended;
    written = subst (λ z. LastWrote t.gives s.came ps s.seats (items_of (taken ++ z) s.output_ended)) (sym same) s.written;
  }

  -- what was in hand was taken
  pub written-taken : (ps : List t.Plan) (before pipe : RingPipe T t) (h : List Event) (taken out : List ℕ) → out ≡ rings_in_hand t before → rings_in_hand t pipe ≡ [] → RingsHaveWritten t ps before h taken → RingsHaveWritten t ps pipe h (taken ++ out)
  written-taken ps before pipe h taken out all none w =
      let whole : taken ++ rings_in_hand t before ≡ (taken ++ out) ++ rings_in_hand t pipe = ap (λ z. taken ++ z) (sym all) ∙ sym (append-nil (taken ++ out)) ∙ ap (λ z. (taken ++ out) ++ z) (sym none) in
      record {
        came = w.came;
        seats = w.seats;
        after = w.after;
        output_ended = w.output_ended;
        written = subst (λ z. LastWrote t.gives w.came ps w.seats (items_of z w.output_ended)) whole w.written;
      }

  module _ (one : (p : t.Plan) (w : List ℕ) (e : Bool) (a b : Answer) → t.gives p w e a → t.gives p w e b → a ≡ b) where
    module _ (grows : (p : t.Plan) (w v : List ℕ) (e : Bool) (a b : Answer) → t.gives p w false a → t.gives p (w ++ v) e b → Begins b.text a.text) (ends : (p : t.Plan) (w : List ℕ) (e : Bool) (a : Answer) → t.gives p w e a → a.ended ≡ (e && is_none a.stop)) where
      line-begins : (i : ℕ) (came ahead : List StreamItem) (ps : List t.Plan) (ss : List (RingSeat T t)) (xs : List Progress) (b : Inbox) (taken w : List ℕ) (e : Bool) (text : List ℕ) (report : Option Report) → Begins (items_of w e) came → RingLine t came ahead ps ss xs b taken → Pipeline t.gives i ps w e text report → Begins text (taken ++ unread_bytes b)
      line-begins i came ahead [] [] [] b taken w e text report front h answer =
          let r = bytes-front (taken ++ unread_bytes b) w e (end_items b.ended ++ front.0) (front.1 ∙ ap (λ z. z ++ front.0) (h.0 ∙ sym (append_assoc (map byte taken) (map byte (unread_bytes b)) (end_items b.ended)) ∙ ap (λ z. z ++ end_items b.ended) (sym (map-append byte taken (unread_bytes b)))) ∙ append_assoc (map byte (taken ++ unread_bytes b)) (end_items b.ended) front.0) in
          (r.0, answer.0 ∙ r.1)
      line-begins i came ahead (p ∷ ps) (s ∷ ss) (x ∷ xs) b taken w e text report front h (a, rest, ga, later_ones, er) =
          let waits = lies_before t s ++ ahead in
          let all : items_of w e ≡ x.taken ++ (waits ++ front.0) = front.1 ∙ ap (λ z. z ++ front.0) h.0 ∙ append_assoc x.taken waits front.0 in
          line-begins (suc i) h.1 (waiting_items s.seat.outbox) ps ss xs b taken a.text a.ended text rest (sits-begins t one grows ends p s.seat.staged x h.1 (waits ++ front.0) w e a h.2 all ga) h.3 later_ones
      line-begins i came ahead ps ss xs b taken w e text report front h answer = absurd h

      pub stands-begins : (ps : List t.Plan) (pipe : RingPipe T t) (h : List Event) (taken : List ℕ) → RingsStand t ps pipe h taken → RingsBeginAnswer t ps pipe h taken
      stands-begins ps pipe h taken s = λ text report answer.
          line-begins 1 s.came [] ps pipe.seats.items s.seats pipe.output taken (bytes_given h) (end_given h) text report ([], sym (append-nil s.came ∙ came-given t.gives s.after)) s.line answer

    no-lies : (s : RingSeat T t) (ahead : List StreamItem) → IsIdle t s → ahead ≡ [] → lies_before t s ++ ahead ≡ []
    no-lies s ahead idle none = ap₂ (λ a b. (a ++ items_as b) ++ ahead) (ap₂ items_of idle.1.0 idle.1.1) idle.2 ∙ none

    pub idle-settled : (came ahead : List StreamItem) (ps : List t.Plan) (ss : List (RingSeat T t)) (xs : List Progress) (b : Inbox) (taken : List ℕ) → ahead ≡ [] → ((k : ℕ) → k < length ss → (d : RingSeat T t) → IsIdle t (get_or ss k d)) → RingLine t came ahead ps ss xs b taken → Settled t.gives came ps xs
    idle-settled came ahead [] [] [] b taken none idle h = tt
    idle-settled came ahead (p ∷ ps) (s ∷ ss) (x ∷ xs) b taken none idle h =
        let z = idle zero (omega arith) s in
        (sym h.2.same_turned ∙ z.0, left x.taken (lies_before t s ++ ahead) came h.0 ∙ no-lies s ahead z none, h.1, sits-wrote t p s.seat.staged x h.1 h.2, idle-settled h.1 (waiting_items s.seat.outbox) ps ss xs b taken (ap₂ items_of z.3.0 z.3.1) (λ k lt d. idle (suc k) (omega arith) d) h.3)
    idle-settled came ahead ps ss xs b taken none idle h = absurd h

    front-none : (xs ys : List StreamItem) → xs ++ ys ≡ [] → xs ≡ []
    front-none [] ys e = refl
    front-none (x ∷ xs) ys e = cc

    as-none : (s : RingSeat T t) → items_as (seen_in s.from) ≡ [] → seen_in s.from ≡ []
    as-none s e = cases (seen_in s.from) e
      where
        cases : (xs : List _) → items_as xs ≡ [] → xs ≡ []
        cases [] e = refl
        cases (x ∷ xs) e = cc

    -- of what waits before the next stage nothing is left when all is settled
    settled-ahead : (came ahead : List StreamItem) (ps : List t.Plan) (ss : List (RingSeat T t)) (xs : List Progress) (b : Inbox) (taken : List ℕ) → RingLine t came ahead ps ss xs b taken → Settled t.gives came ps xs → ahead ≡ []
    settled-ahead came ahead [] [] [] b taken h done = h.1
    settled-ahead came ahead (p ∷ ps) (s ∷ ss) (x ∷ xs) b taken h done = rest-empty (lies_before t s) ahead (sym (left x.taken (lies_before t s ++ ahead) came h.0) ∙ done.1)
    settled-ahead came ahead ps ss xs b taken h done = absurd h

    pub settled-idle : (k : ℕ) (came ahead : List StreamItem) (ps : List t.Plan) (ss : List (RingSeat T t)) (xs : List Progress) (b : Inbox) (taken : List ℕ) (d : RingSeat T t) → k < length ss → RingLine t came ahead ps ss xs b taken → Settled t.gives came ps xs → IsIdle t (get_or ss k d)
    settled-idle zero came ahead (p ∷ ps) (s ∷ ss) (x ∷ xs) b taken d lt h done =
        let same = one-wrote t one p x.turned x.taken done.2 h.1 done.3 (sits-wrote t p s.seat.staged x h.1 h.2) in
        let lies : lies_before t s ≡ [] = front-none (lies_before t s) ahead (sym (left x.taken (lies_before t s ++ ahead) came h.0) ∙ done.1) in
        let seen = as-none s (rest-empty (waiting_items s.seat.inbox) (items_as (seen_in s.from)) lies) in
        let behind = settled-ahead h.1 (waiting_items s.seat.outbox) ps ss xs b taken h.3 (subst (λ z. Settled t.gives z ps xs) same done.4) in
        (h.2.same_turned ∙ done.0, no-items (unread_bytes s.seat.inbox) s.seat.inbox.ended (front-none (waiting_items s.seat.inbox) (items_as (seen_in s.from)) lies), seen, no-items (unread_bytes s.seat.outbox) s.seat.outbox.ended behind)
    settled-idle (suc k) came ahead (p ∷ ps) (s ∷ ss) (x ∷ xs) b taken d lt h done =
        let same = one-wrote t one p x.turned x.taken done.2 h.1 done.3 (sits-wrote t p s.seat.staged x h.1 h.2) in
        settled-idle k h.1 (waiting_items s.seat.outbox) ps ss xs b taken d (omega arith) h.3 (subst (λ z. Settled t.gives z ps xs) same done.4)
    settled-idle k came ahead ps [] xs b taken d lt h done = absurd (omega arith)
    settled-idle k came ahead ps ss xs b taken d lt h done = absurd h

    -- settled, the output and the report are the pipeline's
    pub settled-answer : (i : ℕ) (came ahead : List StreamItem) (ps : List t.Plan) (ss : List (RingSeat T t)) (xs : List Progress) (b : Inbox) (taken w : List ℕ) (e : Bool) (report : Option Report) → came ≡ items_of w e → RingLine t came ahead ps ss xs b taken → Settled t.gives came ps xs → LastStop t i ps xs report → Pipeline t.gives i ps w e (taken ++ unread_bytes b) report
    settled-answer i came ahead [] [] [] b taken w e report is h done stop =
        (ap (λ z. taken ++ z) (sym (bytes-items (unread_bytes b) b.ended)) ∙ ap (λ z. z ++ bytes_in (waiting_items b)) (sym (bytes-items taken false)) ∙ sym (bytes-append (items_of taken false) (waiting_items b) (end-items taken false)) ∙ ap (λ z. bytes_in (z ++ waiting_items b)) (append-nil (map byte taken)) ∙ ap bytes_in (sym h.0 ∙ is) ∙ bytes-items w e, stop)
    settled-answer i came ahead (p ∷ ps) (s ∷ ss) (x ∷ xs) b taken w e report is h done (own, rest, has, others, er) =
        cases h.2.history h.2.fed h.2.wrote (λ a wrote. settled-answer (suc i) h.1 (waiting_items s.seat.outbox) ps ss xs b taken a.text a.ended rest wrote h.3 (subst (λ z. Settled t.gives z ps xs) same done.4) others)
      where
        empty : lies_before t s ++ ahead ≡ []
        empty = sym (left x.taken (lies_before t s ++ ahead) came h.0) ∙ done.1

        all : x.taken ≡ items_of w e
        all = sym (append-nil x.taken) ∙ ap (λ z. x.taken ++ z) (sym empty) ∙ sym h.0 ∙ is

        same : done.2 ≡ h.1
        same = one-wrote t one p x.turned x.taken done.2 h.1 done.3 (sits-wrote t p s.seat.staged x h.1 h.2)

        cases : (f : Option StageFed) → IsStageFed t p x f → h.1 ≡ written_by f → ((a : Answer) → h.1 ≡ items_of a.text a.ended → Pipeline t.gives (suc i) ps a.text a.ended (taken ++ unread_bytes b) rest) → Pipeline t.gives i (p ∷ ps) w e (taken ++ unread_bytes b) report
        cases None fed wrote next = let bad : true ≡ false = sym done.0 ∙ fed.0 in cc
        cases (Some f) fed wrote next =
            let bytes : f.bytes ≡ w = fed.1 ∙ ap bytes_in all ∙ bytes-items w e in
            let end : f.ended ≡ e = fed.2 ∙ ap has_end all ∙ end-items w e in
            let gf : t.gives p w e f.answer = subst (λ z. t.gives p w z f.answer) end (subst (λ z. t.gives p z f.ended f.answer) bytes fed.3) in
            let stopped : HasStop t p x.taken true own = subst (λ z. HasStop t p x.taken z own) done.0 has in
            let ga : t.gives p w e stopped.0 = subst (λ z. t.gives p w z stopped.0) (ap has_end all ∙ end-items w e) (subst (λ z. t.gives p z (has_end x.taken) stopped.0) (ap bytes_in all ∙ bytes-items w e) stopped.1) in
            let own_is : own ≡ f.answer.stop = stopped.2 ∙ ap (λ z. z.stop) (one p w e stopped.0 f.answer ga gf) in
            (f.answer, rest, gf, next f.answer wrote, er ∙ ap (λ z. later_report i z rest) own_is)
    settled-answer i came ahead ps ss xs b taken w e report is h done stop = absurd h

  -- one stage more
  pub last-stop-more : (k i j : ℕ) (came ahead : List StreamItem) (ps : List t.Plan) (ss : List (RingSeat T t)) (xs : List Progress) (b : Inbox) (taken : List ℕ) (d : RingSeat T t) (own : Option Stop) (report : Option Report) → k < length ss → j ≡ i + k → ((h : Option StageFed) → t.stands (get_or ss k d).seat.staged.stage h → own ≡ stop_in h) → RingLine t came ahead ps ss xs b taken → LastStop t i (take k ps) (take k xs) report → LastStop t i (take (suc k) ps) (take (suc k) xs) (latest_report j own report)
  last-stop-more zero i j came ahead (p ∷ ps) (s ∷ ss) (x ∷ xs) b taken d own report lt number tells h before =
      (own, None, sits-stop t p s.seat.staged x h.1 own h.2 tells, refl, ap (λ z. latest_report j own z) before ∙ latest-later j own ∙ ap (λ z. later_report z own None) (let e : j ≡ i = omega arith in e))
  last-stop-more (suc k) i j came ahead (p ∷ ps) (s ∷ ss) (x ∷ xs) b taken d own report lt number tells h (first, rest, has, others, is) =
      (first, latest_report j own rest, has, last-stop-more k (suc i) j h.1 (waiting_items s.seat.outbox) ps ss xs b taken d own rest (omega arith) (omega arith) tells h.3 others, ap (λ z. latest_report j own z) is ∙ later-latest i j first own rest)
  last-stop-more k i j came ahead ps [] xs bs taken d own report lt number tells h before = absurd (omega arith)
  last-stop-more k i j came ahead ps ss xs b taken d own report lt number tells h before = absurd h

  pub last-stop-all : (i : ℕ) (came ahead : List StreamItem) (ps : List t.Plan) (ss : List (RingSeat T t)) (xs : List Progress) (b : Inbox) (taken : List ℕ) (report : Option Report) → RingLine t came ahead ps ss xs b taken → LastStop t i (take (length ss) ps) (take (length ss) xs) report → LastStop t i ps xs report
  last-stop-all i came ahead [] [] [] b taken report h before = before
  last-stop-all i came ahead (p ∷ ps) (s ∷ ss) (x ∷ xs) b taken report h (own, rest, has, others, is) = (own, rest, has, last-stop-all (suc i) h.1 (waiting_items s.seat.outbox) ps ss xs b taken rest h.3 others, is)
  last-stop-all i came ahead ps ss xs b taken report h before = absurd h

  -- through new rings nothing is seen yet
  pub new-seen : (room : ℕ) (to : Giver) (s : RingSeat T t) → AreBeside room to s.from → sent_to to ≡ [] → seen_in s.from ≡ []
  new-seen room to s beside none = none-seen (taken_from s.from) (seen_in s.from) (beside.1 ∙ none)

  -- the line of stages that had no turn
  pub new-line : (room : ℕ) (to : Giver) (stages : List T) (ss : List (Seated T t)) (row : List (RingSeat T t)) (b : Inbox) → Each (IsNew t) stages ss → Each (λ s r. r.seat ≡ s) ss row → Joined t (AreBeside room) to row → sent_to to ≡ [] → AreNew t row → waiting_items b ≡ [] → ((k : ℕ) (d : T) → k < length stages → t.stands (get_or stages k d) None) → RingLine t [] [] (map t.plan stages) row (map (λ p. fresh) (map t.plan stages)) b []
  new-line room to [] [] [] b new same j none made empty unfed = (sym empty, refl)
  new-line room to (stage ∷ stages) (s ∷ ss) (r ∷ row) b new same j none made empty unfed =
      let n = new.0 in
      let own = made zero r (omega arith) in
      let staged = ap (λ z. z.staged) same.0 ∙ n.staged in
      let lies : lies_before t r ++ [] ≡ [] = append-nil (lies_before t r) ∙ ap₂ (λ a z. waiting_items a ++ items_as z) (ap (λ z. z.inbox) same.0) (new-seen room to r j.0 none) ∙ append-nil (waiting_items s.inbox) ∙ n.inbox in (
        sym lies,
        [],
        record { same_plan = ap (λ z. t.plan z.stage) staged; same_turned = ap (λ z. z.turned) staged; history = None; fed = (refl, refl); stands_for = subst (λ z. t.stands z.stage None) (sym staged) (unfed zero stage (omega arith)); wrote = refl },
        subst (λ z. RingLine t [] z (map t.plan stages) row (map (λ p. fresh) (map t.plan stages)) b []) (sym (ap (λ z. waiting_items z.outbox) same.0 ∙ n.outbox)) (new-line room r.to stages ss row b new.1 same.1 j.1 own.0 (λ k d lt. made (suc k) d (omega arith)) empty (λ k d lt. unfed (suc k) d (omega arith))),
      )
  new-line room to [] [] (r ∷ row) b new same j none made empty unfed = absurd same
  new-line room to [] (s ∷ ss) row b new same j none made empty unfed = absurd new
  new-line room to (stage ∷ stages) [] row b new same j none made empty unfed = absurd new
  new-line room to (stage ∷ stages) (s ∷ ss) [] b new same j none made empty unfed = absurd same
