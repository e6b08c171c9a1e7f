-- What waits is worked off, step by step.
use Rattle.std.proofs.Common.{◌≡◌, ◌+◌, ◌<◌, ◌⊎◌, inl, ℕ, zero, suc, false, List, [], ◌∷◌, ◌++◌, None, length, map, get_or, refl, sym, ap, ap₂, subst, ◌∙◌, append_assoc, append-nil, length-append, arith}
use Rattle.std.specs.Prelude.{IsTrue}
use Rattle.std.proofs.Math.ListN.{set}
use Rattle.kex_model.specs.Schedules.{StreamItem, byte, Progress, turn, turned, more_taken, items_of, Settled}
use Rattle.kex_pipe.specs.Rounds.{Each, Takes}
use Rattle.kex_pipe.specs.Seats.{IsWhole, Sits}
use Rattle.kex_pipe.specs.Waiting.{unread_bytes, waiting_items}
use Rattle.kex_pipe.specs.declared.inbox.Inbox.{Inbox}
use Rattle.kex_pipe.specs.declared.seat.Seat.{Seat as Seated}
use Rattle.kex_pipe.specs.declared.turn.Turn.{Ghosts}
use Rattle.kex_pipe.proofs.Items.{no-items}
use Rattle.kex_pipe.proofs.Lines.{sits-wrote, sits-whole}
use Rattle.kex_pipe.proofs.SeatTurns.{left}
use Rattle.kex_pipe.proofs.Transfers.{all-set, get-front}
use Rattle.kex_rings.specs.declared.ring_seat.RingSeat.{RingSeat}
use Rattle.kex_rings.specs.Items.{items_as}
use Rattle.kex_rings.specs.Ends.{Giver, sent_to, seen_in, AreBeside}
use Rattle.kex_rings.specs.Looking.{lies_before, AllRingSeatsUsable}
use Rattle.kex_rings.specs.Lines.{RingLine, Joined, AreNew, LineSettles}
use Rattle.kex_rings.specs.Settling.{MovesFrom, Gathers, GathersAll, StageLine, HandsOn, StageSteps, LineWorks, AllSeatsUsable, AllAtRest}
use Rattle.kex_rings.proofs.Wholes.{front-whole}
use Rattle.kex_rings.proofs.Looks.{back-whole}
use Rattle.kex_rings.proofs.Line.{may-move}
use Rattle.kex_rings.proofs.Joins.{all-both}
use Rattle.kex_rings.proofs.StageTurns.{same-bytes, same-end}
use Rattle.kex_rings.proofs.Standings.{new-seen}

heads : {A : Type 0} {x y : A} {xs ys : List A} → x ∷ xs ≡ y ∷ ys → x ≡ y
heads e = cc

tails : {A : Type 0} {x y : A} {xs ys : List A} → x ∷ xs ≡ y ∷ ys → xs ≡ ys
tails e = cc

all-back : {A : Type 0} (P : A → Type 0) (xs ys : List A) → ((k : ℕ) (d : A) → k < length (xs ++ ys) → P (get_or (xs ++ ys) k d)) → (k : ℕ) (d : A) → k < length ys → P (get_or ys k d)
all-back P [] ys all = all
all-back P (x ∷ xs) ys all = all-back P xs ys (λ k d lt. all (suc k) d (omega arith))

all-front : {A : Type 0} (P : A → Type 0) (xs ys : List A) → ((k : ℕ) (d : A) → k < length (xs ++ ys) → P (get_or (xs ++ ys) k d)) → (k : ℕ) (d : A) → k < length xs → P (get_or xs k d)
all-front P xs ys all k d lt = subst P (sym (get-front xs ys k d lt)) (all k d (omega (arith, lt, length-append xs ys)))

module _ {T : Type 0} (t : Ghosts T) where
  pub gathers : (s : RingSeat T t) (s' : Seated T t) (inbox c0 c1 c2 : Inbox) → (IsWhole (waiting_items s.seat.inbox ++ items_as (seen_in s.from)) → waiting_items inbox ≡ waiting_items s.seat.inbox ++ items_as (seen_in s.from))
      → ((inbox.ended ≡ false) ⊎ (waiting_items c0 ≡ []) → waiting_items s'.inbox ≡ waiting_items inbox ++ waiting_items c0) → waiting_items c1 ≡ [] → ((c1.ended ≡ false) ⊎ (waiting_items s.seat.outbox ≡ []) → waiting_items c2 ≡ waiting_items c1 ++ waiting_items s.seat.outbox)
      → s'.staged ≡ s.seat.staged → waiting_items s'.outbox ≡ [] → Gathers t s s' (waiting_items c0) (waiting_items c2)
  gathers s s' inbox c0 c1 c2 out_of moves carried on staged none = record {
    same_staged = staged;
    none_behind = none;
    lies = λ whole.
        let lies : waiting_items inbox ≡ lies_before t s = out_of (front-whole (lies_before t s) (waiting_items c0) whole) in
        moves (may-move [] inbox (waiting_items c0) (subst (λ z. IsWhole (z ++ waiting_items c0)) (sym lies) whole)) ∙ ap (λ z. z ++ waiting_items c0) lies;
    on_is = on (inl (no-items (unread_bytes c1) c1.ended carried).1) ∙ ap (λ z. z ++ waiting_items s.seat.outbox) carried;
  }

  -- one more
  pub gathers-more : (ss : List (RingSeat T t)) (ss' : List (Seated T t)) (s : RingSeat T t) (s' : Seated T t) (c0 c1 c2 : List StreamItem) → GathersAll t ss ss' c0 c1 → Gathers t s s' c1 c2 → GathersAll t (ss ++ s ∷ []) (ss' ++ s' ∷ []) c0 c2
  gathers-more [] [] s s' c0 c1 c2 before by = (c2, subst (λ z. Gathers t s s' z c2) before by, refl)
  gathers-more (a ∷ ss) (a' ∷ ss') s s' c0 c1 c2 before by = (before.0, before.1, gathers-more ss ss' s s' before.0 c1 c2 before.2 by)
  gathers-more [] (a' ∷ ss') s s' c0 c1 c2 before by = absurd before
  gathers-more (a ∷ ss) [] s s' c0 c1 c2 before by = absurd before

  pub gathers-length : (ss : List (RingSeat T t)) (ss' : List (Seated T t)) (c c' : List StreamItem) → GathersAll t ss ss' c c' → length ss' ≡ length ss
  gathers-length [] [] c c' h = refl
  gathers-length (s ∷ ss) (s' ∷ ss') c c' h = ap suc (gathers-length ss ss' h.0 c' h.2)
  gathers-length [] (s' ∷ ss') c c' h = absurd h
  gathers-length (s ∷ ss) [] c c' h = absurd h

  pub row-usable : (ss : List (Seated T t)) (row : List (RingSeat T t)) → Each (λ s r. r.seat ≡ s) ss row → AllSeatsUsable t ss → AllRingSeatsUsable t row
  row-usable [] [] same all k d lt = absurd (omega arith)
  row-usable (s ∷ ss) (r ∷ row) same all zero d lt = subst (λ z. IsTrue z.usable) (sym same.0) (all zero s (omega arith))
  row-usable (s ∷ ss) (r ∷ row) same all (suc k) d lt = row-usable ss row same.1 (λ n e less. all (suc n) e (omega arith)) k d (omega arith)
  row-usable [] (r ∷ row) same all k d lt = absurd same
  row-usable (s ∷ ss) [] same all k d lt = absurd same

  -- without rings
  gathered-line : (came unsent on : List StreamItem) (ps : List t.Plan) (ss : List (RingSeat T t)) (ss' : List (Seated T t)) (xs : List Progress) (b made : Inbox) (taken : List ℕ) → waiting_items made ≡ [] → IsWhole came → GathersAll t ss ss' unsent on → RingLine t came unsent ps ss xs b taken → StageLine t came ps ss' xs (map byte taken ++ waiting_items b) made
  gathered-line came unsent on [] [] [] [] b made taken none whole work h = h.0 ∙ sym (append-nil (map byte taken ++ waiting_items b)) ∙ ap (λ z. (map byte taken ++ waiting_items b) ++ z) (sym none)
  gathered-line came unsent on (p ∷ ps) (s ∷ ss) (s' ∷ ss') (x ∷ xs) b made taken none whole work h =
      let by = work.1 in
      let lies = by.lies (back-whole x.taken (lies_before t s ++ unsent) (subst IsWhole h.0 whole)) in
      let rest = subst (λ z. GathersAll t ss ss' z on) by.on_is work.2 in
      (h.0 ∙ ap (λ z. x.taken ++ z) (sym lies), h.1, subst (λ z. Sits t p z x h.1) (sym by.same_staged) h.2, gathered-line h.1 (waiting_items s.seat.outbox) on ps ss ss' xs b made taken none (sits-whole t p s.seat.staged x h.1 h.2) rest h.3, by.none_behind)
  gathered-line came unsent on [] [] (s' ∷ ss') [] b made taken none whole work h = absurd work
  gathered-line came unsent on (p ∷ ps) (s ∷ ss) [] (x ∷ xs) b made taken none whole work h = absurd work
  gathered-line came unsent on ps ss ss' xs b made taken none whole work h = absurd h

  -- the last stage has taken a turn
  pub steps-last : (m : ℕ) (s s2 s' : Seated T t) (made made' : Inbox) → Takes t m s s2 → s'.staged ≡ s2.staged → s'.inbox ≡ s2.inbox → waiting_items s'.outbox ≡ [] → MovesFrom s2.outbox made made' → StageSteps t 0 m (s ∷ []) made (s' ∷ []) made'
  steps-last m s s2 s' made made' takes staged inbox none moves (p ∷ []) came (x ∷ []) front whole h =
      let y = more_taken m came x in
      let r = takes.turns p x came h.1 h.1 whole h.0 h.2 (sym (append-nil h.1) ∙ ap (λ z. h.1 ++ z) (sym h.4)) in
      let all : r.out ≡ front ++ (waiting_items made ++ waiting_items s2.outbox) = r.out_is ∙ ap (λ z. z ++ waiting_items s2.outbox) h.3 ∙ append_assoc front (waiting_items made) (waiting_items s2.outbox) in
      let behind : r.out ≡ front ++ waiting_items made' = all ∙ ap (λ z. front ++ z) (sym (moves (may-move front made (waiting_items s2.outbox) (subst IsWhole all (sits-whole t p s2.staged y r.out r.sits))))) in
      (y ∷ [], (r.out, sits-wrote t p s2.staged y r.out r.sits, refl), (r.came_is ∙ ap (λ z. y.taken ++ waiting_items z) (sym inbox), r.out, subst (λ z. Sits t p z y r.out) (sym staged) r.sits, behind, none))
  steps-last m s s2 s' made made' takes staged inbox none moves (p ∷ []) came (x ∷ z ∷ xs) front whole h = absurd h.3
  steps-last m s s2 s' made made' takes staged inbox none moves (p ∷ q ∷ ps) came (x ∷ xs) front whole h = absurd h.3
  steps-last m s s2 s' made made' takes staged inbox none moves (p ∷ ps) came [] front whole h = absurd h
  steps-last m s s2 s' made made' takes staged inbox none moves [] came xs front whole h = absurd h

  -- one with another stage after it has
  pub steps-next : (m : ℕ) (s s2 s' n n' : Seated T t) (ss : List (Seated T t)) (made : Inbox) → Takes t m s s2 → s'.staged ≡ s2.staged → s'.inbox ≡ s2.inbox → waiting_items s'.outbox ≡ [] → n'.staged ≡ n.staged → n'.outbox ≡ n.outbox → MovesFrom s2.outbox n.inbox n'.inbox → StageSteps t 0 m (s ∷ n ∷ ss) made (s' ∷ n' ∷ ss) made
  steps-next m s s2 s' n n' ss made takes staged inbox none n_staged n_outbox moves (p ∷ q ∷ ps) came (x ∷ z ∷ xs) front whole h =
      let y = more_taken m came x in
      let r = takes.turns p x came h.1 h.1 whole h.0 h.2 (sym (append-nil h.1) ∙ ap (λ u. h.1 ++ u) (sym h.4)) in
      let all : r.out ≡ z.taken ++ (waiting_items n.inbox ++ waiting_items s2.outbox) = r.out_is ∙ ap (λ u. u ++ waiting_items s2.outbox) h.3.0 ∙ append_assoc z.taken (waiting_items n.inbox) (waiting_items s2.outbox) in
      let behind : r.out ≡ z.taken ++ waiting_items n'.inbox = all ∙ ap (λ u. z.taken ++ u) (sym (moves (may-move z.taken n.inbox (waiting_items s2.outbox) (subst IsWhole all (sits-whole t p s2.staged y r.out r.sits))))) in (
        y ∷ z ∷ xs,
        (r.out, sits-wrote t p s2.staged y r.out r.sits, refl),
        (
          r.came_is ∙ ap (λ u. y.taken ++ waiting_items u) (sym inbox),
          r.out,
          subst (λ u. Sits t p u y r.out) (sym staged) r.sits,
          (behind, h.3.1, subst (λ u. Sits t q u z h.3.1) (sym n_staged) h.3.2, h.3.3, ap waiting_items n_outbox ∙ h.3.4),
          none,
        ),
      )
  steps-next m s s2 s' n n' ss made takes staged inbox none n_staged n_outbox moves (p ∷ q ∷ ps) came (x ∷ []) front whole h = absurd h.3
  steps-next m s s2 s' n n' ss made takes staged inbox none n_staged n_outbox moves (p ∷ []) came (x ∷ xs) front whole h = absurd h.3
  steps-next m s s2 s' n n' ss made takes staged inbox none n_staged n_outbox moves (p ∷ ps) came [] front whole h = absurd h
  steps-next m s s2 s' n n' ss made takes staged inbox none n_staged n_outbox moves [] came xs front whole h = absurd h

  pub steps-first : (m : ℕ) (s s2 s' : Seated T t) (ss ss' : List (Seated T t)) (made made' : Inbox) → Takes t m s s2 → s'.staged ≡ s2.staged → s'.inbox ≡ s2.inbox → waiting_items s'.outbox ≡ [] → HandsOn t s2.outbox ss made ss' made' → StageSteps t 0 m (s ∷ ss) made (s' ∷ ss') made'
  steps-first m s s2 s' [] [] made made' takes staged inbox none on = steps-last m s s2 s' made made' takes staged inbox none on
  steps-first m s s2 s' (n ∷ ss) (n' ∷ ss') made made' takes staged inbox none on =
      subst (λ z. StageSteps t 0 m (s ∷ n ∷ ss) made (s' ∷ n' ∷ ss') z) (sym on.4) (subst (λ z. StageSteps t 0 m (s ∷ n ∷ ss) made (s' ∷ n' ∷ z) made) (sym on.3) (steps-next m s s2 s' n n' ss made takes staged inbox none on.1 on.2 on.0))
  steps-first m s s2 s' [] (n' ∷ ss') made made' takes staged inbox none on = absurd on
  steps-first m s s2 s' (n ∷ ss) [] made made' takes staged inbox none on = absurd on

  -- a stage before it stays as it is
  steps-behind : (i m : ℕ) (f : Seated T t) (ss ss' : List (Seated T t)) (made made' : Inbox) → StageSteps t i m ss made ss' made' → StageSteps t (suc i) m (f ∷ ss) made (f ∷ ss') made'
  steps-behind i m f ss ss' made made' steps (p ∷ ps) came (x ∷ xs) front whole h =
      let r = steps ps h.1 xs front (sits-whole t p f.staged x h.1 h.2) h.3 in
      (x ∷ r.0, (h.1, r.0, sits-wrote t p f.staged x h.1 h.2, r.1, refl), (h.0, h.1, h.2, r.2, h.4))
  steps-behind i m f ss ss' made made' steps (p ∷ ps) came [] front whole h = absurd h
  steps-behind i m f ss ss' made made' steps [] came xs front whole h = absurd h

  -- the same, for lists in two parts
  pub steps-at : (i m : ℕ) (ss fs bs bs' : List (Seated T t)) (s2 s' d r : Seated T t) (made made' : Inbox) → i < length ss → Takes t m (get_or ss i d) s2 → set ss i s2 ≡ fs ++ bs → length fs ≡ i + 1 → s'.staged ≡ (get_or fs i r).staged → s'.inbox ≡ (get_or fs i r).inbox → waiting_items s'.outbox ≡ []
      → HandsOn t (get_or fs i r).outbox bs made bs' made' → StageSteps t i m ss made (set fs i s' ++ bs') made'
  steps-at zero m (s ∷ ss) (f ∷ []) bs bs' s2 s' d r made made' lt takes cut long staged inbox none on =
      let first : f ≡ s2 = sym (heads cut) in
      steps-first m s s2 s' ss bs' made made' takes (staged ∙ ap (λ z. z.staged) first) (inbox ∙ ap (λ z. z.inbox) first) none (subst (λ z. HandsOn t z.outbox ss made bs' made') first (subst (λ z. HandsOn t f.outbox z made bs' made') (sym (tails cut)) on))
  steps-at (suc i) m (s ∷ ss) (f ∷ fs) bs bs' s2 s' d r made made' lt takes cut long staged inbox none on =
      subst (λ z. StageSteps t (suc i) m (s ∷ ss) made (z ∷ set fs i s' ++ bs') made') (heads cut) (steps-behind i m s ss (set fs i s' ++ bs') made made' (steps-at i m ss fs bs bs' s2 s' d r made made' (omega arith) takes (tails cut) (omega arith) staged inbox none on))
  steps-at i m [] fs bs bs' s2 s' d r made made' lt takes cut long staged inbox none on = absurd (omega arith)
  steps-at i m (s ∷ ss) [] bs bs' s2 s' d r made made' lt takes cut long staged inbox none on = absurd (omega arith)
  steps-at zero m (s ∷ ss) (f ∷ g ∷ fs) bs bs' s2 s' d r made made' lt takes cut long staged inbox none on = absurd (omega arith)

  pub usable-behind : (i : ℕ) (ss fs bs : List (Seated T t)) (s2 : Seated T t) → set ss i s2 ≡ fs ++ bs → IsTrue s2.usable → AllSeatsUsable t ss → AllSeatsUsable t bs
  usable-behind i ss fs bs s2 cut own all = all-back (λ s. IsTrue s.usable) fs bs (subst (AllSeatsUsable t) cut (all-set (λ s. IsTrue s.usable) ss i s2 all own))

  pub usable-handed : (i : ℕ) (ss fs bs bs' : List (Seated T t)) (s2 s' r : Seated T t) → set ss i s2 ≡ fs ++ bs → length fs ≡ i + 1 → IsTrue s2.usable → AllSeatsUsable t ss → s'.usable ≡ (get_or fs i r).usable → AllSeatsUsable t bs' → AllSeatsUsable t (set fs i s' ++ bs')
  usable-handed i ss fs bs bs' s2 s' r cut long own all same behind =
      let front = all-front (λ s. IsTrue s.usable) fs bs (subst (AllSeatsUsable t) cut (all-set (λ s. IsTrue s.usable) ss i s2 all own)) in
      all-both (λ s. IsTrue s.usable) (set fs i s') bs' (all-set (λ s. IsTrue s.usable) fs i s' front (subst IsTrue (sym same) (front i r (omega (arith, long))))) behind

  pub works-none : (ss : List (Seated T t)) (made : Inbox) → LineWorks t ss made ss made
  works-none ss made ps h came xs front whole after line = record { events = h; same_bytes = refl; same_end = refl; seats = xs; after = after; line = line }

  -- a step more
  pub works-more : (i m : ℕ) (ss mid ss' : List (Seated T t)) (b made made' : Inbox) → LineWorks t ss b mid made → StageSteps t i m mid made ss' made' → LineWorks t ss b ss' made'
  works-more i m ss mid ss' b made made' before steps ps h came xs front whole after line =
      let w = before ps h came xs front whole after line in
      let r = steps ps came w.seats front whole w.line in
      record {
        events = w.events ++ turn (suc i) m ∷ [];
        same_bytes = same-bytes w.events i (m ∷ []) ∙ w.same_bytes;
        same_end = same-end w.events i (m ∷ []) ∙ w.same_end;
        seats = r.0;
        after = turned i m w.after r.1;
        line = r.2;
      }

  at-rest : (came : List StreamItem) (ps : List t.Plan) (ss : List (Seated T t)) (xs : List Progress) (front : List StreamItem) (made : Inbox) → AllAtRest t ss → StageLine t came ps ss xs front made → Settled t.gives came ps xs
  at-rest came [] [] [] front made rest h = tt
  at-rest came (p ∷ ps) (s ∷ ss) (x ∷ xs) front made rest h =
      let own = rest zero s (omega arith) in
      (sym h.2.same_turned ∙ own.0, left x.taken (waiting_items s.inbox) came h.0 ∙ ap₂ items_of own.1.0 own.1.1, h.1, sits-wrote t p s.staged x h.1 h.2, at-rest h.1 ps ss xs front made (λ k d lt. rest (suc k) d (omega arith)) h.3)
  at-rest came ps ss xs front made rest h = absurd h

  -- with new rings
  ringed-line : (room : ℕ) (to : Giver) (came : List StreamItem) (ps : List t.Plan) (ss : List (Seated T t)) (row : List (RingSeat T t)) (xs : List Progress) (b made b' : Inbox) (taken : List ℕ) → IsWhole came → StageLine t came ps ss xs (map byte taken ++ waiting_items b) made → Each (λ s r. r.seat ≡ s) ss row → Joined t (AreBeside room) to row → sent_to to ≡ [] → AreNew t row
      → ((b.ended ≡ false) ⊎ (waiting_items made ≡ []) → waiting_items b' ≡ waiting_items b ++ waiting_items made) → RingLine t came [] ps row xs b' taken
  ringed-line room to came [] [] [] [] b made b' taken whole h same j none new moves =
      let all : came ≡ map byte taken ++ (waiting_items b ++ waiting_items made) = h ∙ append_assoc (map byte taken) (waiting_items b) (waiting_items made) in
      (all ∙ ap (λ z. map byte taken ++ z) (sym (moves (may-move (map byte taken) b (waiting_items made) (subst IsWhole all whole)))), refl)
  ringed-line room to came (p ∷ ps) (s ∷ ss) (r ∷ row) (x ∷ xs) b made b' taken whole h same j none new moves =
      let own = new zero r (omega arith) in
      let rest = ringed-line room r.to h.1 ps ss row xs b made b' taken (sits-whole t p s.staged x h.1 h.2) h.3 same.1 j.1 own.0 (λ n d lt. new (suc n) d (omega arith)) moves in
      let lies : lies_before t r ++ [] ≡ waiting_items s.inbox = append-nil (lies_before t r) ∙ ap₂ (λ a z. waiting_items a ++ items_as z) (ap (λ z. z.inbox) same.0) (new-seen t room to r j.0 none) ∙ append-nil (waiting_items s.inbox) in
      let unsent : waiting_items r.seat.outbox ≡ [] = ap (λ z. waiting_items z.outbox) same.0 ∙ h.4 in
      (h.0 ∙ ap (λ z. x.taken ++ z) (sym lies), h.1, subst (λ z. Sits t p z.staged x h.1) (sym same.0) h.2, subst (λ z. RingLine t h.1 z ps row xs b' taken) (sym unsent) rest)
  ringed-line room to came [] [] (r ∷ row) [] b made b' taken whole h same j none new moves = absurd same
  ringed-line room to came (p ∷ ps) (s ∷ ss) [] (x ∷ xs) b made b' taken whole h same j none new moves = absurd same
  ringed-line room to came ps ss row xs b made b' taken whole h same j none new moves = absurd h

  pub line-settles : (room : ℕ) (ss : List (RingSeat T t)) (gathered worked : List (Seated T t)) (row : List (RingSeat T t)) (none_yet unsent empty made b b' : Inbox) → waiting_items none_yet ≡ [] → GathersAll t ss gathered (waiting_items none_yet) (waiting_items unsent) → waiting_items empty ≡ [] → LineWorks t gathered empty worked made → AllAtRest t worked
      → Each (λ s r. r.seat ≡ s) worked row → Joined t (AreBeside room) None row → AreNew t row → ((b.ended ≡ false) ⊎ (waiting_items made ≡ []) → waiting_items b' ≡ waiting_items b ++ waiting_items made) → LineSettles t ss b row b'
  line-settles room ss gathered worked row none_yet unsent empty made b b' nothing gather none work rest same j new moves = λ ps h came xs taken whole after line.
      let before = map byte taken ++ waiting_items b in
      let first = gathered-line came [] (waiting_items unsent) ps ss gathered xs b empty taken none whole (subst (λ z. GathersAll t ss gathered z (waiting_items unsent)) nothing gather) line in
      let w = work ps h came xs before whole after first in
      (w.events, w.same_bytes, w.same_end, w.seats, w.after, ringed-line room None came ps worked row w.seats b made b' taken whole w.line same j refl new moves, at-rest came ps worked w.seats before made rest w.line)
