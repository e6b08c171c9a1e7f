-- What a round keeps, and how far it gets.
use Rattle.std.proofs.Common.{◌≡◌, ◌≤◌, ◌<◌, ◌+◌, ◌-◌, ℕ, zero, suc, Bool, true, List, [], ◌∷◌, ◌++◌, Some, None, length, map, take, get_or, min, refl, sym, ap, subst, ◌∙◌, append-nil, length-append, arith, Global}
use Rattle.std.specs.Prelude.{IsTrue, IsErr, Result, Ok, Err, OnOk, IsSome, is_ok}
use Rattle.std.proofs.Math.ListN.{set}
use Rattle.std.proofs.lemmas.List.{map-append}
use Rattle.rtrb.specs.Ring.{sent, known_free, producer_capacity}
use Rattle.rtrb.specs.declared.producer.Producer.{Producer}
use Rattle.rtrb.specs.declared.AnyItems.{AnyItems}
use Rattle.kex_pipe.specs.Rounds.{Each}
use Rattle.kex_pipe.specs.Seats.{Sits}
use Rattle.kex_pipe.specs.Waiting.{waiting_items}
use Rattle.kex_pipe.specs.declared.inbox.Inbox.{Inbox}
use Rattle.kex_pipe.specs.declared.turn.Turn.{Ghosts}
use Rattle.kex_rings.specs.declared.item.Item.{Item}
use Rattle.kex_rings.specs.declared.ring_seat.RingSeat.{RingSeat}
use Rattle.kex_rings.specs.Items.{items_as}
use Rattle.kex_rings.specs.Ends.{Giver, Taker, sent_to, free_in, taken_from, SameGiver, SameTaker, IsLast, ArePaired, AreBeside}
use Rattle.kex_rings.specs.Looking.{fed_more, Looks, EachLooks, OnlyLooked, AllRingSeatsUsable, WorkedAll, unsent_of, unsent_items}
use Rattle.kex_rings.specs.Lines.{Joined, HaveRings, AllGetOn}
use Rattle.kex_rings.proofs.Looks.{same-taker, same-giver, one-taker, one-giver, unsent-same}
use Rattle.kex_rings.proofs.Joins.{all-both, all-one, both-looks}

pub same-pair : (room : ℕ) (to to' : Giver) (from from' : Taker) → SameGiver to to' → SameTaker from from' → ArePaired room to from → ArePaired room to' from'
same-pair room None None None None a b h = tt
same-pair room (Some p) (Some p') (Some c) (Some c') a b h = ((b.0.0 ∙ h.0.0 ∙ sym a.0.0, b.0.1 ∙ h.0.1 ∙ sym a.0.1, b.0.2 ∙ h.0.2 ∙ sym a.0.2, b.0.3 ∙ h.0.3 ∙ sym a.0.3), a.1 ∙ h.1)
same-pair room None (Some p') from from' a b h = absurd a
same-pair room (Some p) None from from' a b h = absurd a
same-pair room None None None (Some c) a b h = absurd b
same-pair room None None (Some c) from' a b h = absurd h
same-pair room (Some p) (Some p') None from' a b h = absurd h
same-pair room (Some p) (Some p') (Some c) None a b h = absurd b

same-last : (to to' : Giver) → SameGiver to to' → IsLast to → IsLast to'
same-last None None a h = tt
same-last None (Some p) a h = absurd a
same-last (Some p) to' a h = absurd h

pub record Ended {A : Type 0} (xs : List A) : Type 0 where
  pub front : List A
  pub last : A
  pub is : xs ≡ front ++ last ∷ []

pub ended-by : {A : Type 0} (xs : List A) → 0 < length xs → Ended xs
ended-by [] some = absurd (omega arith)
ended-by (x ∷ []) some = record { front = []; last = x; is = refl }
ended-by (x ∷ y ∷ xs) some = let r = ended-by (y ∷ xs) (omega arith) in record { front = x ∷ r.front; last = r.last; is = ap (λ z. x ∷ z) r.is }

-- at least as many slots are known to be free as the room is more than what was sent
free-slots : (room : ℕ) (p : Producer Item Global AnyItems) → producer_capacity p ≡ room → room - length (sent p) ≤ known_free p
free-slots room p e = let h = p.counts.0 in omega (arith, e, h)

module _ {T : Type 0} (t : Ghosts T) where
  pub joined-pairs : (room : ℕ) (to : Giver) (ss : List (RingSeat T t)) → Joined t (AreBeside room) to ss → Joined t (ArePaired room) to ss
  joined-pairs room to [] j = j
  joined-pairs room to (s ∷ ss) j = (j.0.0, joined-pairs room s.to ss j.1)

  pub joined-kept : (room : ℕ) (to to' : Giver) (ss ss' : List (RingSeat T t)) (cs : List ℕ) → SameGiver to to' → Joined t (ArePaired room) to ss → EachLooks t room ss ss' cs → Joined t (ArePaired room) to' ss'
  joined-kept room to to' [] [] [] a j work = same-last to to' a j
  joined-kept room to to' (s ∷ ss) (s' ∷ ss') (c ∷ cs) a j work = (same-pair room to to' s.from s'.from a work.0.same_from j.0, joined-kept room s.to s'.to ss ss' cs work.0.same_to j.1 work.1)
  joined-kept room to to' [] (s' ∷ ss') cs a j work = absurd work
  joined-kept room to to' [] [] (c ∷ cs) a j work = absurd work
  joined-kept room to to' (s ∷ ss) [] cs a j work = absurd work
  joined-kept room to to' (s ∷ ss) (s' ∷ ss') [] a j work = absurd work

  same-ring : (to to' : Giver) → SameGiver to to' → IsSome to → IsSome to'
  same-ring (Some p) (Some q) a h = refl
  same-ring None None a h = h
  same-ring None (Some q) a h = absurd a
  same-ring (Some p) None a h = absurd a

  pub rings-kept : (room : ℕ) (ss ss' : List (RingSeat T t)) (cs : List ℕ) → EachLooks t room ss ss' cs → HaveRings t ss → HaveRings t ss'
  rings-kept room [] [] cs work h = tt
  rings-kept room (s ∷ []) (s' ∷ []) cs work h = tt
  rings-kept room (s ∷ n ∷ ss) (s' ∷ n' ∷ ss') (c ∷ cs) work h = (same-ring s.to s'.to work.0.same_to h.0, rings-kept room (n ∷ ss) (n' ∷ ss') cs work.1 h.1)
  rings-kept room [] (s' ∷ ss') cs work h = absurd work
  rings-kept room (s ∷ ss) [] cs work h = absurd work
  rings-kept room (s ∷ ss) (s' ∷ ss') [] work h = absurd work
  rings-kept room (s ∷ []) (s' ∷ n' ∷ ss') (c ∷ cs) work h = absurd work.1
  rings-kept room (s ∷ n ∷ ss) (s' ∷ []) (c ∷ cs) work h = absurd work.1

  pub rings-out : (front : List (RingSeat T t)) (s s' : RingSeat T t) → HaveRings t (front ++ s ∷ []) → HaveRings t (front ++ s' ∷ [])
  rings-out [] s s' h = tt
  rings-out (a ∷ []) s s' h = h
  rings-out (a ∷ b ∷ front) s s' h = (h.0, rings-out (b ∷ front) s s' h.1)

  -- looks, and then a look with both ends in one hand
  pub looks-looked : (room : ℕ) (s m s' : RingSeat T t) (c : ℕ) → Looks t room s m c → OnlyLooked t m s' → Looks t room s s' c
  looks-looked room s m s' c l o = record {
    same_from = same-taker s.from m.from s'.from l.same_from o.same_from;
    same_to = same-giver s.to m.to s'.to l.same_to o.same_to;
    popped = l.popped;
    more = l.more;
    came = o.came ∙ l.came;
    went = o.went ∙ l.went;
    feeds = λ p x out front whole sits out_is.
        let r = l.feeds p x out front whole sits out_is in
        record {
          got = r.got;
          count_is = r.count_is;
          parts = r.parts ∙ ap (λ z. r.got ++ waiting_items z.inbox) (sym o.same_seat);
          out = r.out;
          sits = subst (λ z. Sits t p z.staged (fed_more r.got x) r.out) (sym o.same_seat) r.sits;
          out_is = r.out_is ∙ ap (λ z. front ++ (items_as l.more ++ waiting_items z.outbox)) (sym o.same_seat);
        };
    took = l.took;
    sent_most = l.sent_most;
    held = λ some_left.
        let rest = l.held some_left in
        record {
          none_popped = rest.none_popped;
          none_taken = rest.none_taken;
          rest = rest.rest ∙ ap (λ z. items_as l.more ++ z) (unsent-same t m.to s'.to m.seat.outbox o.same_to ∙ ap (λ z. unsent_of t s'.to z.outbox) (sym o.same_seat));
        };
    free = let x = l.free in let y = o.free in omega (arith, x, y);
  }

  pub retook : (room : ℕ) (s m s' : RingSeat T t) (c : ℕ) → s'.seat ≡ m.seat → s'.from ≡ m.from → s'.to ≡ m.to → Looks t room s m c → Looks t room s s' c
  retook room s m s' c seat from to l = looks-looked room s m s' c l (record {
    same_seat = seat;
    same_from = subst (λ z. SameTaker m.from z) (sym from) (one-taker m.from);
    same_to = subst (λ z. SameGiver m.to z) (sym to) (one-giver m.to);
    came = ap taken_from from;
    went = ap sent_to to;
    free = subst (λ z. free_in m.to ≤ free_in z) (sym to) (omega arith);
  })

  -- rows side by side
  pub both-worked : (room : ℕ) (a b : Bool) (fs fs' bs bs' : List (RingSeat T t)) → a ≡ true → WorkedAll t room a fs fs' → WorkedAll t room b bs bs' → WorkedAll t room b (fs ++ bs) (fs' ++ bs')
  both-worked room a b fs fs' bs bs' sure f g = record {
    looks = λ also. subst (λ z. EachLooks t room (fs ++ bs) (fs' ++ bs') z) (sym (map-append (λ s. s.took) fs' bs')) (both-looks t room fs fs' bs bs' (map (λ s. s.took) fs') (map (λ s. s.took) bs') (f.looks sure) (g.looks also));
    usable = λ also. all-both (λ s. IsTrue s.seat.usable) fs' bs' (f.usable sure) (g.usable also);
  }

  pub not-worked : {A E : Type 0} (r : Result A E) (room : ℕ) (ss ss' : List (RingSeat T t)) → IsErr r → WorkedAll t room (is_ok r) ss ss'
  not-worked (Ok x) room ss ss' err = cc
  not-worked (Err e) room ss ss' err = record { looks = λ yes. cc; usable = λ yes. cc }

  one-all : (room : ℕ) (ss : List (RingSeat T t)) (s s' : RingSeat T t) → length ss < 2 → 0 < length ss → s ≡ get_or ss 0 s → Looks t room s s' s'.took → IsTrue s'.seat.usable → EachLooks t room ss (set ss 0 s') (map (λ z. z.took) (set ss 0 s')) × AllRingSeatsUsable t (set ss 0 s')
  one-all room [] s s' few some is looks usable = absurd (omega arith)
  one-all room (a ∷ b ∷ ss) s s' few some is looks usable = absurd (omega arith)
  one-all room (a ∷ []) s s' few some is looks usable = ((subst (λ z. Looks t room z s' s'.took) is looks, tt), all-one (λ z. IsTrue z.seat.usable) s' usable)

  pub one-worked : {A E : Type 0} (r : Result A E) (room : ℕ) (ss : List (RingSeat T t)) (s s' : RingSeat T t) → length ss < 2 → 0 < length ss → s ≡ get_or ss 0 s → OnOk r (Looks t room s s' s'.took) → OnOk r (IsTrue s'.seat.usable) → WorkedAll t room (is_ok r) ss (set ss 0 s')
  one-worked (Ok x) room ss s s' few some is looks usable = record { looks = λ yes. (one-all room ss s s' few some is looks usable).0; usable = λ yes. (one-all room ss s s' few some is looks usable).1 }
  one-worked (Err e) room ss s s' few some is looks usable = record { looks = λ yes. cc; usable = λ yes. cc }

  pub each-looked : (room : ℕ) (ss mid ss' : List (RingSeat T t)) (cs : List ℕ) → EachLooks t room ss mid cs → Each (OnlyLooked t) mid ss' → EachLooks t room ss ss' cs
  each-looked room [] [] [] [] work look = tt
  each-looked room (s ∷ ss) (m ∷ mid) (s' ∷ ss') (c ∷ cs) work look = (looks-looked room s m s' c work.0 look.0, each-looked room ss mid ss' cs work.1 look.1)
  each-looked room [] [] (s' ∷ ss') cs work look = absurd look
  each-looked room [] [] [] (c ∷ cs) work look = absurd work
  each-looked room [] (m ∷ mid) ss' cs work look = absurd work
  each-looked room (s ∷ ss) [] ss' cs work look = absurd work
  each-looked room (s ∷ ss) (m ∷ mid) [] cs work look = absurd look
  each-looked room (s ∷ ss) (m ∷ mid) (s' ∷ ss') [] work look = absurd work

  pub usable-looked : (mid ss' : List (RingSeat T t)) → Each (OnlyLooked t) mid ss' → AllRingSeatsUsable t mid → AllRingSeatsUsable t ss'
  usable-looked [] [] look all k d lt = absurd (omega arith)
  usable-looked (m ∷ mid) (s ∷ ss') look all zero d lt = subst (λ z. IsTrue z.usable) (sym look.0.same_seat) (all zero m (omega arith))
  usable-looked (m ∷ mid) (s ∷ ss') look all (suc k) d lt = usable-looked mid ss' look.1 (λ n e less. all (suc n) e (omega arith)) k d (omega arith)
  usable-looked [] (s ∷ ss') look all k d lt = absurd look
  usable-looked (m ∷ mid) [] look all k d lt = absurd look

  pub looks-length : (room : ℕ) (ss ss' : List (RingSeat T t)) (cs : List ℕ) → EachLooks t room ss ss' cs → (length ss' ≡ length ss) × (length cs ≡ length ss)
  looks-length room [] [] [] work = (refl, refl)
  looks-length room (s ∷ ss) (s' ∷ ss') (c ∷ cs) work = let r = looks-length room ss ss' cs work.1 in (ap suc r.0, ap suc r.1)
  looks-length room [] (s' ∷ ss') cs work = absurd work
  looks-length room [] [] (c ∷ cs) work = absurd work
  looks-length room (s ∷ ss) [] cs work = absurd work
  looks-length room (s ∷ ss) (s' ∷ ss') [] work = absurd work

  -- what the last one had written is carried out
  pub joined-out : (R : Giver → Taker → Type 0) (to : Giver) (front : List (RingSeat T t)) (s s' : RingSeat T t) → s'.from ≡ s.from → s'.to ≡ s.to → Joined t R to (front ++ s ∷ []) → Joined t R to (front ++ s' ∷ [])
  joined-out R to [] s s' from end j = (subst (λ z. R to z) (sym from) j.0, subst IsLast (sym end) j.1)
  joined-out R to (f ∷ front) s s' from end j = (j.0, joined-out R f.to front s s' from end j.1)

  pub usable-out : (front : List (RingSeat T t)) (s s' : RingSeat T t) → s'.seat.usable ≡ s.seat.usable → AllRingSeatsUsable t (front ++ s ∷ []) → AllRingSeatsUsable t (front ++ s' ∷ [])
  usable-out [] s s' same all zero d lt = subst IsTrue (sym same) (all zero s (omega arith))
  usable-out [] s s' same all (suc k) d lt = absurd (omega arith)
  usable-out (f ∷ front) s s' same all zero d lt = all zero f (omega arith)
  usable-out (f ∷ front) s s' same all (suc k) d lt = usable-out front s s' same (λ n e less. all (suc n) e (omega arith)) k d (omega arith)

  goes-on : (room : ℕ) (to : Giver) (b : Inbox) (after more : List Item) → ((p : Producer Item Global AnyItems) → to ≡ Some p → producer_capacity p ≡ room) → after ≡ sent_to to ++ more → min (length (unsent_of t to b)) (free_in to) ≤ length more → min (length (unsent_of t to b)) (room - length (sent_to to)) + length (sent_to to) ≤ length after
  goes-on room None b after more size went most = omega (arith, ap length went)
  goes-on room (Some p) b after more size went most = let h = free-slots room p (size p refl) in omega (arith, ap length went, length-append (sent p) more, most, h)

  has-room : (room : ℕ) (to : Giver) (ss : List (RingSeat T t)) → Joined t (AreBeside room) to ss → (p : Producer Item Global AnyItems) → to ≡ Some p → producer_capacity p ≡ room
  has-room room to [] j p is = absurd (subst IsLast is j)
  has-room room to (s ∷ ss) j p is = paired-room s.from (subst (λ z. ArePaired room z s.from) is j.0.0)
    where
      paired-room : (from : Taker) → ArePaired room (Some p) from → producer_capacity p ≡ room
      paired-room None h = absurd h
      paired-room (Some c) h = h.1

  pub all-get-on : (room : ℕ) (to : Giver) (ss ss' : List (RingSeat T t)) (cs : List ℕ) → Joined t (AreBeside room) to ss → EachLooks t room ss ss' cs → AllGetOn t room ss ss' cs
  all-get-on room to [] [] [] j work = tt
  all-get-on room to (s ∷ ss) (s' ∷ ss') (c ∷ cs) j work =
      let l = work.0 in (
        record {
          took = l.took;
          sent = goes-on room s.to s.seat.outbox (sent_to s'.to) l.more (has-room room s.to ss j.1) l.went l.sent_most;
          held = λ some_left.
              let none = l.held (omega (arith, some_left, ap length l.went, length-append (sent_to s.to) l.more)) in
              (none.none_taken, l.came ∙ ap (λ z. taken_from s.from ++ z) none.none_popped ∙ append-nil (taken_from s.from));
        },
        all-get-on room s.to ss ss' cs j.1 work.1,
      )
  all-get-on room to [] (s' ∷ ss') cs j work = absurd work
  all-get-on room to [] [] (c ∷ cs) j work = absurd work
  all-get-on room to (s ∷ ss) [] cs j work = absurd work
  all-get-on room to (s ∷ ss) (s' ∷ ss') [] j work = absurd work

  pub get-on-out : (room : ℕ) (ss front : List (RingSeat T t)) (s s' : RingSeat T t) (cs : List ℕ) → s'.to ≡ s.to → s'.from ≡ s.from → AllGetOn t room ss (front ++ s ∷ []) cs → AllGetOn t room ss (front ++ s' ∷ []) cs
  get-on-out room (a ∷ []) [] s s' (c ∷ []) end front_end h = (
    record {
      took = h.0.took;
      sent = subst (λ z. min (length (unsent_items t a)) (room - length (sent_to a.to)) + length (sent_to a.to) ≤ length (sent_to z)) (sym end) h.0.sent;
      held = λ some_left.
          let none = h.0.held (subst (λ z. length (sent_to z) < length (sent_to a.to) + length (unsent_items t a)) end some_left) in
          (none.0, ap taken_from front_end ∙ none.1);
    },
    tt,
  )
  get-on-out room (a ∷ ss) (f ∷ front) s s' (c ∷ cs) end front_end h = (h.0, get-on-out room ss front s s' cs end front_end h.1)
  get-on-out room [] [] s s' cs end front_end h = absurd h
  get-on-out room [] (f ∷ front) s s' cs end front_end h = absurd h
  get-on-out room (a ∷ ss) [] s s' [] end front_end h = absurd h
  get-on-out room (a ∷ ss) (f ∷ front) s s' [] end front_end h = absurd h
  get-on-out room (a ∷ b ∷ ss) [] s s' (c ∷ cs) end front_end h = absurd h.1
  get-on-out room (a ∷ []) [] s s' (c ∷ d ∷ cs) end front_end h = absurd h.1

  pub took-more : (ss : List (RingSeat T t)) (i : ℕ) (d : RingSeat T t) → i < length ss → map (λ s. s.took) (take (suc i) ss) ≡ map (λ s. s.took) (take i ss) ++ (get_or ss i d).took ∷ []
  took-more [] i d lt = absurd (omega arith)
  took-more (s ∷ ss) zero d lt = refl
  took-more (s ∷ ss) (suc i) d lt = ap (λ z. s.took ∷ z) (took-more ss i d (omega arith))

  pub took-all : (ss : List (RingSeat T t)) (i : ℕ) → length ss ≤ i → map (λ s. s.took) (take i ss) ≡ map (λ s. s.took) ss
  took-all [] zero le = refl
  took-all [] (suc i) le = refl
  took-all (s ∷ ss) zero le = absurd (omega arith)
  took-all (s ∷ ss) (suc i) le = ap (λ z. s.took ∷ z) (took-all ss i (omega arith))
