-- A round with rings is its turns, in the order of the stages.
use Rattle.std.proofs.Common.{◌≡◌, ◌+◌, ◌⊎◌, inl, inr, ℕ, false, List, [], ◌∷◌, ◌++◌, Some, None, length, map, drop, refl, sym, ap, ap₂, subst, ◌∙◌, append_assoc, append-nil}
use Rattle.std.proofs.Math.Seq.{drop-append_seam}
use Rattle.std.proofs.lemmas.List.{map-append}
use Rattle.kex_model.specs.Schedules.{StreamItem, byte, has_end, Progress}
use Rattle.kex_pipe.specs.Seats.{IsWhole, Sits}
use Rattle.kex_pipe.specs.Waiting.{unread_bytes, waiting_items}
use Rattle.kex_pipe.specs.declared.inbox.Inbox.{Inbox}
use Rattle.kex_pipe.specs.declared.turn.Turn.{Ghosts}
use Rattle.kex_pipe.proofs.Items.{end-append, end-items, whole-front}
use Rattle.kex_pipe.proofs.Lines.{sits-wrote, sits-whole}
use Rattle.kex_pipe.proofs.SeatTurns.{or-false}
use Rattle.kex_rings.specs.declared.item.Item.{Item as Passed}
use Rattle.kex_rings.specs.declared.ring_seat.RingSeat.{RingSeat}
use Rattle.kex_rings.specs.Items.{item_as, items_as}
use Rattle.kex_rings.specs.Ends.{Giver, sent_to, taken_from, seen_in, IsLast, AreBeside}
use Rattle.kex_rings.specs.Looking.{fed_more, lies_before, Looks, EachLooks, CarriedOut}
use Rattle.kex_rings.specs.Lines.{RingLine, Joined, LineRounds}
use Rattle.kex_rings.proofs.Wholes.{front-whole}
use Rattle.kex_rings.proofs.StageTurns.{Steps, steps-after, fed-next}

pub same-rest : {A : Type 0} (front xs ys : List A) → front ++ xs ≡ front ++ ys → xs ≡ ys
same-rest front xs ys e = sym (drop-append_seam front xs) ∙ ap (λ z. drop (length front) z) e ∙ drop-append_seam front ys

-- nothing is moved past an end
pub may-move : (front : List StreamItem) (to : Inbox) (rest : List StreamItem) → IsWhole (front ++ (waiting_items to ++ rest)) → (to.ended ≡ false) ⊎ (rest ≡ [])
may-move front to [] whole = inr refl
may-move front to (y ∷ ys) (w, ended, whole) =
    let shut : has_end (front ++ waiting_items to) ≡ false = whole-front (front ++ waiting_items to) (y ∷ ys) w ended (append_assoc front (waiting_items to) (y ∷ ys) ∙ whole) (λ n. cc) in
    inl (sym (end-items (unread_bytes to) to.ended) ∙ or-false (has_end front) (has_end (waiting_items to)) (sym (end-append front (waiting_items to)) ∙ shut))

module _ {T : Type 0} (t : Ghosts T) where
  -- what had come to the first of these, but for what was not sent to it yet
  abbrev pub front_of : List (RingSeat T t) → List Progress → Inbox → List ℕ → List StreamItem
  front_of [] xs b taken = map byte taken ++ waiting_items b
  front_of (s ∷ ss) [] b taken = []
  front_of (s ∷ ss) (x ∷ xs) b taken = x.taken ++ lies_before t s

  pub came-front : (came ahead : List StreamItem) (ps : List t.Plan) (ss : List (RingSeat T t)) (xs : List Progress) (b : Inbox) (taken : List ℕ) → RingLine t came ahead ps ss xs b taken → came ≡ front_of ss xs b taken ++ ahead
  came-front came ahead [] [] [] b taken h = h.0 ∙ sym (append-nil (map byte taken ++ waiting_items b)) ∙ ap (λ z. (map byte taken ++ waiting_items b) ++ z) (sym h.1)
  came-front came ahead (p ∷ ps) (s ∷ ss) (x ∷ xs) b taken h = h.0 ∙ sym (append_assoc x.taken (lies_before t s) ahead)
  came-front came ahead ps ss xs b taken h = absurd h

  -- as a line, with what the last stage has written after the output
  abbrev pub Open : List StreamItem → List StreamItem → List t.Plan → List (RingSeat T t) → List Progress → Inbox → List ℕ → Type 0
  Open came ahead [] [] [] b taken = came ≡ map byte taken ++ (waiting_items b ++ ahead)
  Open came ahead (p ∷ ps) (s ∷ ss) (x ∷ xs) b taken = (came ≡ x.taken ++ (lies_before t s ++ ahead)) × (out : List StreamItem) × Sits t p s.seat.staged x out × Open out (waiting_items s.seat.outbox) ps ss xs b taken
  Open came ahead ps ss xs b taken = ⊥

  -- the looks of each stage; what came out of its ring and what lies there is what lay there, and what was sent
  abbrev pub Flows : ℕ → List Passed → List (RingSeat T t) → List (RingSeat T t) → List ℕ → Type 0
  Flows room more [] [] [] = more ≡ []
  Flows room more (s ∷ ss) (s' ∷ ss') (c ∷ cs) = (l : Looks t room s s' c) × (seen_in s.from ++ more ≡ l.popped ++ seen_in s'.from) × Flows room l.more ss ss' cs
  Flows room more ss ss' cs = ⊥

  none-behind : (to to' : Giver) (more : List Passed) → IsLast to → IsLast to' → sent_to to' ≡ sent_to to ++ more → more ≡ []
  none-behind None None more a b went = sym went
  none-behind None (Some q) more a b went = absurd b
  none-behind (Some p) to' more a b went = absurd a

  pub flows-of : (room : ℕ) (to to' : Giver) (more : List Passed) (ss ss' : List (RingSeat T t)) (cs : List ℕ) → Joined t (AreBeside room) to ss → Joined t (AreBeside room) to' ss' → sent_to to' ≡ sent_to to ++ more → EachLooks t room ss ss' cs → Flows room more ss ss' cs
  flows-of room to to' more [] [] [] j j' went work = none-behind to to' more j j' went
  flows-of room to to' more (s ∷ ss) (s' ∷ ss') (c ∷ cs) j j' went work =
      let l = work.0 in
      let before : (taken_from s.from ++ l.popped) ++ seen_in s'.from ≡ (taken_from s.from ++ seen_in s.from) ++ more = ap (λ z. z ++ seen_in s'.from) (sym l.came) ∙ j'.0.1 ∙ went ∙ ap (λ z. z ++ more) (sym j.0.1) in
      let same = same-rest (taken_from s.from) (l.popped ++ seen_in s'.from) (seen_in s.from ++ more) (sym (append_assoc (taken_from s.from) l.popped (seen_in s'.from)) ∙ before ∙ append_assoc (taken_from s.from) (seen_in s.from) more) in
      (l, sym same, flows-of room s.to s'.to l.more ss ss' cs j.1 j'.1 l.went work.1)
  flows-of room to to' more [] (s' ∷ ss') cs j j' went work = absurd work
  flows-of room to to' more [] [] (c ∷ cs) j j' went work = absurd work
  flows-of room to to' more (s ∷ ss) [] cs j j' went work = absurd work
  flows-of room to to' more (s ∷ ss) (s' ∷ ss') [] j j' went work = absurd work

  pub record Goes (came ahead : List StreamItem) (ps : List t.Plan) (ss : List (RingSeat T t)) (b : Inbox) (taken : List ℕ) (xs : List Progress) (cs : List ℕ) : Type 0 where
    pub seats : List Progress
    pub line : Open came ahead ps ss seats b taken
    pub steps : Steps t.gives came ps xs seats cs

  pub ring-line : (room : ℕ) (came ahead came' ahead' : List StreamItem) (more : List Passed) (ps : List t.Plan) (ss ss' : List (RingSeat T t)) (xs : List Progress) (b : Inbox) (taken cs : List ℕ) → RingLine t came ahead ps ss xs b taken → came' ≡ front_of ss xs b taken ++ (items_as more ++ ahead') → IsWhole came' → Flows room more ss ss' cs → Goes came' ahead' ps ss' b taken xs cs
  ring-line room came ahead came' ahead' more [] [] [] [] b taken [] h is whole work = record {
    seats = [];
    line = is ∙ ap (λ z. (map byte taken ++ waiting_items b) ++ (items_as z ++ ahead')) work ∙ append_assoc (map byte taken) (waiting_items b) ahead';
    steps = tt;
  }
  ring-line room came ahead came' ahead' more (p ∷ ps) (s ∷ ss) (s' ∷ ss') (x ∷ xs) b taken (c ∷ cs) h is whole work =
      let l = work.0 in
      let seen = items_as (seen_in s.from) in
      let seen' = items_as (seen_in s'.from) in
      let inbox = waiting_items s.seat.inbox in
      let flow : seen ++ items_as more ≡ items_as l.popped ++ seen' = sym (map-append item_as (seen_in s.from) more) ∙ ap items_as work.1 ∙ map-append item_as l.popped (seen_in s'.from) in
      let lot : (inbox ++ seen) ++ (items_as more ++ ahead') ≡ (inbox ++ items_as l.popped) ++ (seen' ++ ahead') =
      append_assoc inbox seen (items_as more ++ ahead') ∙ ap (λ z. inbox ++ z) (sym (append_assoc seen (items_as more) ahead') ∙ ap (λ z. z ++ ahead') flow ∙ append_assoc (items_as l.popped) seen' ahead') ∙ sym (append_assoc inbox (items_as l.popped) (seen' ++ ahead')) in
      let all : came' ≡ (x.taken ++ (inbox ++ items_as l.popped)) ++ (seen' ++ ahead') = is ∙ append_assoc x.taken (inbox ++ seen) (items_as more ++ ahead') ∙ ap (λ z. x.taken ++ z) lot ∙ sym (append_assoc x.taken (inbox ++ items_as l.popped) (seen' ++ ahead')) in
      let r = l.feeds p x h.1 (front_of ss xs b taken) (front-whole (x.taken ++ (inbox ++ items_as l.popped)) (seen' ++ ahead') (subst IsWhole all whole)) h.2 (came-front h.1 (waiting_items s.seat.outbox) ps ss xs b taken h.3) in
      let next : came' ≡ (x.taken ++ r.got) ++ (lies_before t s' ++ ahead') =
      all ∙ ap (λ z. (x.taken ++ z) ++ (seen' ++ ahead')) r.parts ∙ ap (λ z. z ++ (seen' ++ ahead')) (sym (append_assoc x.taken r.got (waiting_items s'.seat.inbox))) ∙ append_assoc (x.taken ++ r.got) (waiting_items s'.seat.inbox) (seen' ++ ahead')
      ∙ ap (λ z. (x.taken ++ r.got) ++ z) (sym (append_assoc (waiting_items s'.seat.inbox) seen' ahead')) in
      let rest = ring-line room h.1 (waiting_items s.seat.outbox) r.out (waiting_items s'.seat.outbox) l.more ps ss ss' xs b taken cs h.3 r.out_is (sits-whole t p s'.seat.staged (fed_more r.got x) r.out r.sits) work.2 in
      record {
        seats = fed_more r.got x ∷ rest.seats;
        line = (next, r.out, r.sits, rest.line);
        steps = (fed-next c came' r.got (lies_before t s' ++ ahead') x next r.count_is, r.out, sits-wrote t p s'.seat.staged (fed_more r.got x) r.out r.sits, rest.steps);
      }
  ring-line room came ahead came' ahead' more [] [] (s' ∷ ss') [] b taken cs h is whole work = absurd work
  ring-line room came ahead came' ahead' more [] [] [] [] b taken (c ∷ cs) h is whole work = absurd work
  ring-line room came ahead came' ahead' more (p ∷ ps) (s ∷ ss) [] (x ∷ xs) b taken cs h is whole work = absurd work
  ring-line room came ahead came' ahead' more (p ∷ ps) (s ∷ ss) (s' ∷ ss') (x ∷ xs) b taken [] h is whole work = absurd work
  ring-line room came ahead came' ahead' more ps ss ss' xs b taken cs h is whole work = absurd h

  -- what the last stage has written goes after the output in hand
  pub out-line : (came ahead : List StreamItem) (ps : List t.Plan) (front : List (RingSeat T t)) (s : RingSeat T t) (new : List (RingSeat T t)) (xs : List Progress) (b b' : Inbox) (taken : List ℕ) (c : CarriedOut t front s b new b') → IsWhole came → Open came ahead ps (front ++ s ∷ []) xs b taken → RingLine t came ahead ps (front ++ c.s' ∷ []) xs b' taken
  out-line came ahead (p ∷ []) [] s new (x ∷ []) b b' taken c whole h =
      let s' = c.s' in
      let lies : lies_before t s ≡ lies_before t s' = ap₂ (λ a z. waiting_items a ++ items_as (seen_in z)) (sym c.same_inbox) (sym c.same_from) in
      let out = h.3 ∙ ap (λ z. map byte taken ++ z) (sym (c.moves (may-move (map byte taken) b (waiting_items s.seat.outbox) (subst IsWhole h.3 (sits-whole t p s.seat.staged x h.1 h.2))))) in
      (h.0 ∙ ap (λ z. x.taken ++ (z ++ ahead)) lies, h.1, subst (λ z. Sits t p z x h.1) (sym c.same_staged) h.2, (out, c.none_left))
  out-line came ahead (p ∷ ps) (f ∷ front) s new (x ∷ xs) b b' taken c whole h =
      (h.0, h.1, h.2, out-line h.1 (waiting_items f.seat.outbox) ps front s (front ++ c.s' ∷ []) xs b b' taken (record { s' = c.s'; is = refl; same_from = c.same_from; same_to = c.same_to; same_staged = c.same_staged; same_inbox = c.same_inbox; same_usable = c.same_usable; none_left = c.none_left; moves = c.moves }) (sits-whole t p f.seat.staged x h.1 h.2) h.3)
  out-line came ahead (p ∷ []) [] s new (x ∷ y ∷ xs) b b' taken c whole h = absurd h.3
  out-line came ahead (p ∷ q ∷ ps) [] s new (x ∷ xs) b b' taken c whole h = absurd h.3
  out-line came ahead (p ∷ ps) [] s new [] b b' taken c whole h = absurd h
  out-line came ahead [] [] s new xs b b' taken c whole h = absurd h
  out-line came ahead [] (f ∷ front) s new xs b b' taken c whole h = absurd h
  out-line came ahead (p ∷ ps) (f ∷ front) s new [] b b' taken c whole h = absurd h

  -- all of a round
  pub line-rounds : (room : ℕ) (ss front : List (RingSeat T t)) (s : RingSeat T t) (mid new : List (RingSeat T t)) (b b' : Inbox) (cs : List ℕ) → Joined t (AreBeside room) None ss → Joined t (AreBeside room) None mid → EachLooks t room ss mid cs → mid ≡ front ++ s ∷ [] → CarriedOut t front s b new b' → LineRounds t ss b new b' cs
  line-rounds room ss front s mid new b b' cs j j' work is c = λ ps h came xs taken whole after line.
      let flows = flows-of room None None [] ss mid cs j j' refl work in
      let all : came ≡ front_of ss xs b taken ++ ([] ++ []) = came-front came [] ps ss xs b taken line in
      let r = ring-line room came [] came [] [] ps ss mid xs b taken cs line all whole flows in
      (r.seats, steps-after t.gives h came ps xs r.seats cs after r.steps, subst (λ z. RingLine t came [] ps z r.seats b' taken) (sym c.is) (out-line came [] ps front s new r.seats b b' taken c whole (subst (λ z. Open came [] ps z r.seats b taken) is r.line)))
