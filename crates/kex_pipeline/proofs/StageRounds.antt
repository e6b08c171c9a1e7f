-- Rounds give nothing, and each settles one stage more.
use Rattle.std.proofs.Common.{◌≡◌, ℕ, zero, suc, ◌≤◌, ◌+◌, ◌-◌, take, drop, Bool, false, List, [], ◌∷◌, ◌++◌, ◌||◌, length, map, refl, sym, ap, ◌∙◌, arith, append-nil, append_assoc}
use Rattle.kex_model.specs.Answers.{Answer}
use Rattle.kex_model.specs.Schedules.{StreamItem, Progress, Event, give, Settled}
use Rattle.kex_pipe.specs.Events.{bytes_given, end_given}
use Rattle.kex_pipe.specs.Rounds.{turn_of}
use Rattle.kex_pipe.specs.Settling.{SettledTo}
use Rattle.kex_pipe.specs.Standing.{Line, Stands}
use Rattle.kex_pipe.specs.declared.inbox.Inbox.{Inbox}
use Rattle.kex_pipe.specs.declared.seat.Seat.{Seat as Seated}
use Rattle.kex_pipe.specs.declared.pipe.Pipe.{Pipe}
use Rattle.kex_pipe.specs.declared.turn.Turn.{Ghosts}
use Rattle.kex_pipe.proofs.Schedule.{bytes_given-append, end_given-append}
use Rattle.kex_pipeline.specs.Piped.{IsGiven, IsWorkedOff}
use Rattle.kex_pipeline.proofs.PipeAnswers.{bytes-more, end-open, or-not}

take-nil : (m : ℕ) → let none : List ℕ = [] in take m none ≡ []
take-nil zero = refl
take-nil (suc m) = refl

-- a front, and what lies between it and a longer one
pub front-more : (xs : List ℕ) (n m : ℕ) → n ≤ m → take n xs ++ take (m - n) (drop n xs) ≡ take m xs
front-more xs zero m le = let e : m - 0 ≡ m = omega arith in ap (λ z. take z xs) e
front-more [] (suc n) zero le = absurd (omega arith)
front-more [] (suc n) (suc m) le = take-nil (suc m - suc n)
front-more (x ∷ xs) (suc n) zero le = absurd (omega arith)
front-more (x ∷ xs) (suc n) (suc m) le = let e : suc m - suc n ≡ m - n = omega arith in ap (λ z. x ∷ take n xs ++ take z (drop n xs)) e ∙ ap (λ z. x ∷ z) (front-more xs n m (omega arith))

module _ {T : Type 0} (t : Ghosts T) where
  turns-bytes : (ss : List (Seated T t)) (order : List ℕ) → bytes_given (map (turn_of t ss) order) ≡ []
  turns-bytes ss [] = refl
  turns-bytes ss (k ∷ order) = turns-bytes ss order

  turns-end : (ss : List (Seated T t)) (order : List ℕ) → end_given (map (turn_of t ss) order) ≡ false
  turns-end ss [] = refl
  turns-end ss (k ∷ order) = turns-end ss order

  round-bytes : (ss : List (Seated T t)) (order : List ℕ) (h : List Event) → bytes_given (h ++ map (turn_of t ss) order) ≡ bytes_given h
  round-bytes ss order h = bytes_given-append h (map (turn_of t ss) order) ∙ ap (λ z. bytes_given h ++ z) (turns-bytes ss order) ∙ append-nil (bytes_given h)

  round-end : (ss : List (Seated T t)) (order : List ℕ) (h : List Event) → end_given (h ++ map (turn_of t ss) order) ≡ end_given h
  round-end ss order h = end_given-append h (map (turn_of t ss) order) ∙ ap (λ z. end_given h || z) (turns-end ss order) ∙ or-not (end_given h)

  pub none-given : (ps : List t.Plan) (h : List Event) (taken : List ℕ) (pipe : Pipe T t) → Stands t ps pipe h taken → IsGiven (λ k. Stands t ps pipe k taken) [] h
  none-given ps h taken pipe s = record { events = h; bytes = sym (append-nil (bytes_given h)); same_end = refl; stands_for = s }

  -- a part more was given, with a round after it
  pub part-given : (front part more : List ℕ) (ss : List (Seated T t)) (order : List ℕ) (ps : List t.Plan) (h : List Event) (taken : List ℕ) (old pipe : Pipe T t) → front ++ part ≡ more → ((k : List Event) → Stands t ps old k taken → Stands t ps pipe ((k ++ give part ∷ []) ++ map (turn_of t ss) order) taken) → IsGiven (λ k. Stands t ps old k taken) front h → IsGiven (λ k. Stands t ps pipe k taken) more h
  part-given front part more ss order ps h taken old pipe joined next g =
      let given = g.events ++ give part ∷ [] in
      record {
        events = given ++ map (turn_of t ss) order;
        bytes = round-bytes ss order given ∙ bytes-more g.events part ∙ ap (λ z. z ++ part) g.bytes ∙ append_assoc (bytes_given h) front part ∙ ap (λ z. bytes_given h ++ z) joined;
        same_end = round-end ss order given ∙ end-open g.events part ∙ g.same_end;
        stands_for = next g.events g.stands_for;
      }

  -- after some rounds this many stages have worked off all that came to them
  pub record Rounding (i : ℕ) (ps : List t.Plan) (h : List Event) (taken : List ℕ) (pipe : Pipe T t) : Type 0 where
    pub events : List Event
    pub same_bytes : bytes_given events ≡ bytes_given h
    pub same_end : end_given events ≡ end_given h
    pub stands : Stands t ps pipe events taken
    pub front : SettledTo t.gives i stands.came ps stands.seats

  pub one-round : (i : ℕ) (ss : List (Seated T t)) (order : List ℕ) (ps : List t.Plan) (h : List Event) (taken : List ℕ) (old pipe : Pipe T t) → ((k : List Event) (s : Stands t ps old k taken) → SettledTo t.gives i s.came ps s.seats → (now : Stands t ps pipe (k ++ map (turn_of t ss) order) taken) × SettledTo t.gives (suc i) now.came ps now.seats) → Rounding i ps h taken old → Rounding (suc i) ps h taken pipe
  one-round i ss order ps h taken old pipe next r =
      let n = next r.events r.stands r.front in
      record { events = r.events ++ map (turn_of t ss) order; same_bytes = round-bytes ss order r.events ∙ r.same_bytes; same_end = round-end ss order r.events ∙ r.same_end; stands = n.0; front = n.1 }

  settled-all : (i : ℕ) (came : List StreamItem) (ps : List t.Plan) (ss : List (Seated T t)) (xs : List Progress) (b : Inbox) (taken : List ℕ) (out : List StreamItem) → length ss ≤ i → Line t out ps ss xs b taken → SettledTo t.gives i came ps xs → Settled t.gives came ps xs
  settled-all i came [] [] [] b taken out le h f = tt
  settled-all zero came (p ∷ ps) (s ∷ ss) (x ∷ xs) b taken out le h f = absurd (omega arith)
  settled-all (suc i) came (p ∷ ps) (s ∷ ss) (x ∷ xs) b taken out le h (had, none, next, w, f) = (had, none, next, w, settled-all i next ps ss xs b taken h.1 (omega arith) h.3 f)
  settled-all i came ps ss xs b taken out le h f = absurd h

  pub settled-off : (ps : List t.Plan) (h : List Event) (taken : List ℕ) (i : ℕ) (pipe : Pipe T t) (r : Rounding i ps h taken pipe) → Settled t.gives r.stands.came ps r.stands.seats → IsWorkedOff t.gives ps (λ k. Stands t ps pipe k taken) h
  settled-off ps h taken i pipe r done =
      record { events = r.events; same_bytes = r.same_bytes; same_end = r.same_end; stands_for = r.stands; settled = record { came = r.stands.came; seats = r.stands.seats; after = r.stands.after; settled = done } }

  pub all-rounds : (i : ℕ) (ps : List t.Plan) (h : List Event) (taken : List ℕ) (pipe : Pipe T t) → length pipe.seats.items ≤ i → Rounding i ps h taken pipe → IsWorkedOff t.gives ps (λ k. Stands t ps pipe k taken) h
  all-rounds i ps h taken pipe le r = settled-off ps h taken i pipe r (settled-all i r.stands.came ps pipe.seats.items r.stands.seats pipe.output taken r.stands.came le r.stands.line r.front)

-- what was worked off of these events was of those that gave the same
pub off-of : {P : Type 0} (gives : P → List ℕ → Bool → Answer → Type 0) (ps : List P) (stands : List Event → Type 0) (given events : List Event) → bytes_given events ≡ bytes_given given → end_given events ≡ end_given given → IsWorkedOff gives ps stands events → IsWorkedOff gives ps stands given
off-of gives ps stands given events bytes end w = record { events = w.events; same_bytes = w.same_bytes ∙ bytes; same_end = w.same_end ∙ end; stands_for = w.stands_for; settled = w.settled }

-- a piece more was given, and worked off
pub piece-given : {P : Type 0} (gives : P → List ℕ → Bool → Answer → Type 0) (ps : List P) (before after : List Event → Type 0) (h : List Event) (front part more : List ℕ) → front ++ part ≡ more → ((k : List Event) → before k → IsWorkedOff gives ps after (k ++ give part ∷ [])) → IsGiven before front h → IsGiven after more h
piece-given gives ps before after h front part more joined next g =
    let w = next g.events g.stands_for in
    record {
      events = w.events;
      bytes = w.same_bytes ∙ bytes-more g.events part ∙ ap (λ z. z ++ part) g.bytes ∙ append_assoc (bytes_given h) front part ∙ ap (λ z. bytes_given h ++ z) joined;
      same_end = w.same_end ∙ end-open g.events part ∙ g.same_end;
      stands_for = w.stands_for;
    }

take-take : {A : Type 0} (n m : ℕ) (xs : List A) → n ≤ m → take n (take m xs) ≡ take n xs
take-take zero m xs le = refl
take-take (suc n) zero xs le = absurd (omega arith)
take-take (suc n) (suc m) [] le = refl
take-take (suc n) (suc m) (x ∷ xs) le = ap (λ z. x ∷ z) (take-take n m xs (omega arith))

-- as many of what lies between a front and a longer one
pub front-some : (xs : List ℕ) (n m count : ℕ) → count ≤ m - n → take n xs ++ take count (take (m - n) (drop n xs)) ≡ take (n + count) xs
front-some xs n m count le =
    let e : n + count - n ≡ count = omega arith in
    ap (λ z. take n xs ++ z) (take-take count (m - n) (drop n xs) le ∙ ap (λ z. take z (drop n xs)) (sym e)) ∙ front-more xs n (n + count) (omega arith)

-- some bytes more were given, and worked off
pub parts-given : {P : Type 0} (gives : P → List ℕ → Bool → Answer → Type 0) (ps : List P) (before mid after : List Event → Type 0) (h : List Event) (front part more : List ℕ) → front ++ part ≡ more → ((k : List Event) → before k → IsGiven mid part k) → ((k : List Event) → mid k → IsWorkedOff gives ps after k) → IsGiven before front h → IsGiven after more h
parts-given gives ps before mid after h front part more joined next off g =
    let r = next g.events g.stands_for in
    let w = off r.events r.stands_for in
    record {
      events = w.events;
      bytes = w.same_bytes ∙ r.bytes ∙ ap (λ z. z ++ part) g.bytes ∙ append_assoc (bytes_given h) front part ∙ ap (λ z. bytes_given h ++ z) joined;
      same_end = w.same_end ∙ r.same_end ∙ g.same_end;
      stands_for = w.stands_for;
    }
