-- What a schedule gives, and the line that a pipe is.
use Rattle.std.proofs.Common.{◌≡◌, ◌<◌, ℕ, suc, Bool, true, false, List, [], ◌∷◌, ◌++◌, ◌||◌, length, map, get_or, refl, sym, ap, ap₂, subst, ◌∙◌, append_assoc, append-nil, arith}
use Rattle.std.proofs.Math.ListN.{set}
use Rattle.std.proofs.lemmas.List.{map-append}
use Rattle.kex_model.specs.Answers.{Answer}
use Rattle.kex_model.specs.Schedules.{StreamItem, byte, finish, has_end, end_items, items_of, Progress, Event, give, give_end, turn, After, begun, given, ended, turned, LastWrote}
use Rattle.kex_pipe.specs.Events.{bytes_given, end_given}
use Rattle.kex_pipe.specs.Seats.{Sits}
use Rattle.kex_pipe.specs.Waiting.{unread_bytes, waiting_items}
use Rattle.kex_pipe.specs.Standing.{Line, Stands, HasWritten, in_hand}
use Rattle.kex_pipe.specs.declared.inbox.Inbox.{Inbox}
use Rattle.kex_pipe.specs.declared.seat.Seat.{Seat as Seated}
use Rattle.kex_pipe.specs.declared.pipe.Pipe.{Pipe}
use Rattle.kex_pipe.specs.declared.turn.Turn.{Ghosts}
use Rattle.kex_pipe.proofs.Items.{end-items, end-append}
use Rattle.kex_pipe.proofs.SeatTurns.{or-false}
use Rattle.kex_pipe.proofs.Lines.{sits-wrote}

pub bytes_given-append : (h k : List Event) → bytes_given (h ++ k) ≡ bytes_given h ++ bytes_given k
bytes_given-append [] k = refl
bytes_given-append (give w ∷ h) k = ap (λ z. w ++ z) (bytes_given-append h k) ∙ sym (append_assoc w (bytes_given h) (bytes_given k))
bytes_given-append (give_end ∷ h) k = bytes_given-append h k
bytes_given-append (turn i m ∷ h) k = bytes_given-append h k

pub end_given-append : (h k : List Event) → end_given (h ++ k) ≡ (end_given h || end_given k)
end_given-append [] k = refl
end_given-append (give w ∷ h) k = end_given-append h k
end_given-append (give_end ∷ h) k = refl
end_given-append (turn i m ∷ h) k = end_given-append h k

-- what came is what the schedule gives
given-of : (h k : List Event) (came more : List StreamItem) → came ≡ items_of (bytes_given h) (end_given h) → has_end came ≡ false → more ≡ items_of (bytes_given k) (end_given k) → came ++ more ≡ items_of (bytes_given (h ++ k)) (end_given (h ++ k))
given-of h k came more is no_end more_is =
    let shut : end_given h ≡ false = sym (end-items (bytes_given h) (end_given h)) ∙ ap has_end (sym is) ∙ no_end in
    let front : came ≡ map byte (bytes_given h) = is ∙ ap (λ z. items_of (bytes_given h) z) shut ∙ append-nil (map byte (bytes_given h)) in
    ap₂ (λ a b. a ++ b) front more_is ∙ sym (append_assoc (map byte (bytes_given h)) (map byte (bytes_given k)) (end_items (end_given k))) ∙ ap (λ z. z ++ end_items (end_given k)) (sym (map-append byte (bytes_given h) (bytes_given k)))
    ∙ ap₂ items_of (sym (bytes_given-append h k)) (ap (λ z. z || end_given k) (sym shut) ∙ sym (end_given-append h k))

or-not : (a : Bool) → a ≡ (a || false)
or-not true = refl
or-not false = refl

module _ {P : Type 0} (gives : P → List ℕ → Bool → Answer → Type 0) where
  pub came-given : {ps : List P} {h : List Event} {came : List StreamItem} {xs : List Progress} → After gives ps h came xs → came ≡ items_of (bytes_given h) (end_given h)
  came-given begun = refl
  came-given (given {h = h} {came = came} w a no_end) = given-of h (give w ∷ []) came (map byte w) (came-given a) no_end (sym (ap (λ z. map byte z ++ []) (append-nil w) ∙ append-nil (map byte w)))
  came-given (ended {h = h} {came = came} a no_end) = given-of h (give_end ∷ []) came (finish ∷ []) (came-given a) no_end refl
  came-given (turned {h = h} i m a t) = came-given a ∙ ap₂ items_of (sym (bytes_given-append h (turn (suc i) m ∷ []) ∙ append-nil (bytes_given h))) (or-not (end_given h) ∙ sym (end_given-append h (turn (suc i) m ∷ [])))

module _ {T : Type 0} (t : Ghosts T) where
  pub out-items : (taken w : List ℕ) (e : Bool) → items_of (taken ++ w) e ≡ map byte taken ++ items_of w e
  out-items taken w e = ap (λ z. z ++ end_items e) (map-append byte taken w) ∙ append_assoc (map byte taken) (map byte w) (end_items e)

  -- what the last stage has written is what was taken from the output, and what is in hand
  pub line-wrote : (came : List StreamItem) (ps : List t.Plan) (ss : List (Seated T t)) (xs : List Progress) (b : Inbox) (taken : List ℕ) → Line t came ps ss xs b taken → (f : Bool) × LastWrote t.gives came ps xs (items_of (taken ++ unread_bytes b) f)
  line-wrote came [] [] [] b taken h = (b.ended, out-items taken (unread_bytes b) b.ended ∙ sym h)
  line-wrote came (p ∷ ps) (s ∷ ss) (x ∷ xs) b taken h =
      let r = line-wrote h.1 ps ss xs b taken h.3 in
      (r.0, (h.1, sits-wrote t p s.staged x h.1 h.2, r.1))
  line-wrote came ps ss xs b taken h = absurd h

  pub standing : (ps : List t.Plan) (pipe : Pipe T t) (h : List Event) (taken : List ℕ) (came : List StreamItem) (xs : List Progress) → After t.gives ps h came xs → Line t came ps pipe.seats.items xs pipe.output taken → pipe.ended ≡ has_end came → pipe.spent ≡ false → pipe.in_round ≡ false → Stands t ps pipe h taken
  standing ps pipe h taken came xs after line same_end going closed =
      let r = line-wrote came ps pipe.seats.items xs pipe.output taken line in
      record { came = came; seats = xs; after = after; output_ended = r.0; written = r.1; line = line; same_end = same_end; going = going; closed = closed }

  -- the same, with what else is known of the places
  pub standing-and : (Q : List StreamItem → List Progress → Type 0) (ps : List t.Plan) (pipe : Pipe T t) (h : List Event) (taken : List ℕ) (came : List StreamItem) (xs : List Progress) → After t.gives ps h came xs → Line t came ps pipe.seats.items xs pipe.output taken → pipe.ended ≡ has_end came → pipe.spent ≡ false → pipe.in_round ≡ false → Q came xs → (s : Stands t ps pipe h taken) × Q s.came s.seats
  standing-and Q ps pipe h taken came xs after line same_end going closed q =
      let r = line-wrote came ps pipe.seats.items xs pipe.output taken line in
      (record { came = came; seats = xs; after = after; output_ended = r.0; written = r.1; line = line; same_end = same_end; going = going; closed = closed }, q)

  -- more comes
  pub line-more : (came came' : List StreamItem) (ps : List t.Plan) (ss : List (Seated T t)) (xs : List Progress) (b : Inbox) (taken : List ℕ) (s s' d : Seated T t) → 0 < length ss → s ≡ get_or ss 0 d → s'.staged ≡ s.staged → s'.outbox ≡ s.outbox → ((front : List StreamItem) → came ≡ front ++ waiting_items s.inbox → came' ≡ front ++ waiting_items s'.inbox) → Line t came ps ss xs b taken → Line t came' ps (set ss 0 s') xs b taken
  line-more came came' ps [] xs b taken s s' d some s_is staged outbox more h = absurd (omega arith)
  line-more came came' (p ∷ ps) (s0 ∷ ss) (x ∷ xs) b taken s s' d some s_is staged outbox more h =
      (more x.taken (rw s_is h.0), h.1, subst (λ z. Sits t p z x h.1) (ap (λ z. z.staged) (sym s_is) ∙ sym staged) h.2, h.3, ap waiting_items (outbox ∙ ap (λ z. z.outbox) s_is) ∙ h.4)
  line-more came came' ps ss xs b taken s s' d some s_is staged outbox more h = absurd h

  no-end-waits : (front : List StreamItem) (came : List StreamItem) (b : Inbox) → has_end came ≡ false → came ≡ front ++ waiting_items b → b.ended ≡ false
  no-end-waits front came b no_end is = sym (end-items (unread_bytes b) b.ended) ∙ or-false (has_end front) (has_end (waiting_items b)) (sym (end-append front (waiting_items b)) ∙ ap has_end (sym is) ∙ no_end)

  pub waits-more : (came : List StreamItem) (b b' : Inbox) (w : List ℕ) → has_end came ≡ false → unread_bytes b' ≡ unread_bytes b ++ w → b'.ended ≡ b.ended → (front : List StreamItem) → came ≡ front ++ waiting_items b → came ++ map byte w ≡ front ++ waiting_items b'
  waits-more came b b' w no_end bytes end front is =
      let shut = no-end-waits front came b no_end is in
      let before : waiting_items b ≡ map byte (unread_bytes b) = ap (λ z. items_of (unread_bytes b) z) shut ∙ append-nil (map byte (unread_bytes b)) in
      let after : waiting_items b' ≡ map byte (unread_bytes b) ++ map byte w = ap₂ items_of bytes (end ∙ shut) ∙ append-nil (map byte (unread_bytes b ++ w)) ∙ map-append byte (unread_bytes b) w in
      ap (λ z. z ++ map byte w) (is ∙ ap (λ z. front ++ z) before) ∙ append_assoc front (map byte (unread_bytes b)) (map byte w) ∙ ap (λ z. front ++ z) (sym after)

  pub waits-end : (came : List StreamItem) (b b' : Inbox) → has_end came ≡ false → unread_bytes b' ≡ unread_bytes b → b'.ended ≡ true → (front : List StreamItem) → came ≡ front ++ waiting_items b → came ++ finish ∷ [] ≡ front ++ waiting_items b'
  waits-end came b b' no_end bytes end front is =
      let shut = no-end-waits front came b no_end is in
      let before : waiting_items b ≡ map byte (unread_bytes b) = ap (λ z. items_of (unread_bytes b) z) shut ∙ append-nil (map byte (unread_bytes b)) in
      let after : waiting_items b' ≡ map byte (unread_bytes b) ++ finish ∷ [] = ap₂ items_of bytes end in
      ap (λ z. z ++ finish ∷ []) (is ∙ ap (λ z. front ++ z) before) ∙ append_assoc front (map byte (unread_bytes b)) (finish ∷ []) ∙ ap (λ z. front ++ z) (sym after)

  -- the output is taken
  pub line-taken : (came : List StreamItem) (ps : List t.Plan) (ss : List (Seated T t)) (xs : List Progress) (b b' : Inbox) (taken out : List ℕ) → out ≡ unread_bytes b → unread_bytes b' ≡ [] → b'.ended ≡ b.ended → Line t came ps ss xs b taken → Line t came ps ss xs b' (taken ++ out)
  line-taken came [] [] [] b b' taken out out_is none end h =
      h ∙ sym (out-items taken (unread_bytes b) b.ended) ∙ ap₂ (λ z f. map byte (taken ++ z) ++ end_items f) (sym out_is) (sym end) ∙ ap (λ z. map byte (taken ++ out) ++ items_of z b'.ended) (sym none)
  line-taken came (p ∷ ps) (s ∷ ss) (x ∷ xs) b b' taken out out_is none end h =
      (h.0, h.1, h.2, line-taken h.1 ps ss xs b b' taken out out_is none end h.3, h.4)
  line-taken came ps ss xs b b' taken out out_is none end h = absurd h

  -- the output is as it was
  pub has-written : (ps : List t.Plan) (before pipe : Pipe T t) (h : List Event) (taken : List ℕ) → in_hand t pipe ≡ in_hand t before → Stands t ps before h taken → HasWritten t ps pipe h taken
  has-written ps before pipe h taken same s = record {
    came = s.came;
    seats = s.seats;
    after = s.after;
    output_ended = s.output_ended;
    written = subst (λ z. LastWrote t.gives s.came ps s.seats (items_of (taken ++ z) s.output_ended)) (sym same) s.written;
  }

  -- what was in hand was taken
  pub written-taken : (ps : List t.Plan) (before pipe : Pipe T t) (h : List Event) (taken out : List ℕ) → out ≡ in_hand t before → in_hand t pipe ≡ [] → HasWritten t ps before h taken → HasWritten t ps pipe h (taken ++ out)
  written-taken ps before pipe h taken out all none w =
      let whole : taken ++ in_hand t before ≡ (taken ++ out) ++ in_hand t pipe = ap (λ z. taken ++ z) (sym all) ∙ sym (append-nil (taken ++ out)) ∙ ap (λ z. (taken ++ out) ++ z) (sym none) in
      record {
        came = w.came;
        seats = w.seats;
        after = w.after;
        output_ended = w.output_ended;
        written = subst (λ z. LastWrote t.gives w.came ps w.seats (items_of z w.output_ended)) whole w.written;
      }
