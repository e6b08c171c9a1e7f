-- Looks, one after another.
use Rattle.std.proofs.Common.{◌≡◌, ◌≤◌, ◌<◌, ◌+◌, ◌++◌, ℕ, zero, suc, true, [], ◌∷◌, List, Option, Some, None, length, take, drop, refl, sym, ap, ap₂, subst, ◌∙◌, append_assoc, append-nil, length-append, take-append-drop, arith, min, Global}
use Rattle.std.proofs.Math.Seq.{drop-append_seam}
use Rattle.std.proofs.lemmas.List.{map-append, length-map}
use Rattle.rtrb.specs.declared.consumer.Consumer.{Consumer}
use Rattle.rtrb.specs.declared.AnyItems.{AnyItems}
use Rattle.kex_model.specs.Schedules.{Progress, more_taken}
use Rattle.kex_model.specs.Schedules as schedule
use Rattle.kex_pipe.specs.Histories.{StageFed}
use Rattle.kex_pipe.specs.Seats.{IsWhole, IsStageFed, written_by, Sits}
use Rattle.kex_pipe.specs.Rounds.{Takes}
use Rattle.kex_pipe.specs.Waiting.{waiting_items}
use Rattle.kex_pipe.specs.declared.inbox.Inbox.{Inbox}
use Rattle.kex_pipe.specs.declared.staged.Staged.{Staged}
use Rattle.kex_pipe.specs.declared.turn.Turn.{Ghosts}
use Rattle.kex_pipe.proofs.Items.{drop-items, rest-empty}
use Rattle.kex_pipe.proofs.SeatTurns.{taken-more}
use Rattle.kex_rings.specs.declared.item.Item.{Item}
use Rattle.kex_rings.specs.declared.ring_seat.RingSeat.{RingSeat}
use Rattle.kex_rings.specs.Items.{item_as, items_as}
use Rattle.kex_rings.specs.Ends.{Giver, Taker, sent_to, free_in, taken_from, SameGiver, SameTaker}
use Rattle.kex_rings.specs.Looking.{fed_more, found_count, unsent_of, unsent_items, RingSeatFeeds, IsHeldBack, Looks, SendsOn, FindsIn, TakesIn}
use Rattle.kex_rings.specs.Passing.{Pulls}
use Rattle.kex_rings.proofs.Wholes.{front-whole}
use Rattle.kex_rings.proofs.SentItems.{same-producer, same-consumer}

-- the back of a whole list is whole
pub back-whole : (xs ys : List schedule.StreamItem) → IsWhole (xs ++ ys) → IsWhole ys
back-whole xs ys (w, e, is) = (drop (length xs) w, _, sym (drop-append_seam xs ys) ∙ ap (λ z. drop (length xs) z) is ∙ drop-items (length xs) w e)

pub same-taker : (a b c : Taker) → SameTaker a b → SameTaker b c → SameTaker a c
same-taker None None None f g = tt
same-taker (Some a) (Some b) (Some c) f g = same-consumer a b c f g
same-taker None None (Some c) f g = absurd g
same-taker None (Some b) c f g = absurd f
same-taker (Some a) None c f g = absurd f
same-taker (Some a) (Some b) None f g = absurd g

pub same-giver : (a b c : Giver) → SameGiver a b → SameGiver b c → SameGiver a c
same-giver None None None f g = tt
same-giver (Some a) (Some b) (Some c) f g = same-producer a b c f g
same-giver None None (Some c) f g = absurd g
same-giver None (Some b) c f g = absurd f
same-giver (Some a) None c f g = absurd f
same-giver (Some a) (Some b) None f g = absurd g

pub one-taker : (a : Taker) → SameTaker a a
one-taker None = tt
one-taker (Some a) = ((refl, refl, refl, refl), refl)

pub one-giver : (a : Giver) → SameGiver a a
one-giver None = tt
one-giver (Some a) = ((refl, refl, refl, refl), refl)

pub length-took : {A : Type 0} (m : ℕ) (xs : List A) → m ≤ length xs → m ≡ length (take m xs)
length-took zero xs le = refl
length-took (suc m) [] le = absurd (omega arith)
length-took (suc m) (x ∷ xs) le = ap suc (length-took m xs (omega arith))

module _ {T : Type 0} (t : Ghosts T) where
  -- nothing unsent stays so
  still-sent : (to to' : Giver) (b b' : Inbox) (more : List Item) → SameGiver to to' → waiting_items b ≡ items_as more ++ waiting_items b' → unsent_of t to b ≡ [] → unsent_of t to' b' ≡ []
  still-sent None None b b' more same parts none = refl
  still-sent (Some p) (Some q) b b' more same parts none = rest-empty (items_as more) (waiting_items b') (sym parts ∙ none)
  still-sent None (Some q) b b' more same parts none = absurd same
  still-sent (Some p) None b b' more same parts none = absurd same

  -- the rest of what was unsent is unsent
  unsent-rest : (to to' : Giver) (b b' : Inbox) (more : List Item) → SameGiver to to' → waiting_items b ≡ items_as more ++ waiting_items b' → length more < length (unsent_of t to b) → unsent_of t to b ≡ items_as more ++ unsent_of t to' b'
  unsent-rest None None b b' more same parts some = absurd (omega arith)
  unsent-rest (Some p) (Some q) b b' more same parts some = parts
  unsent-rest None (Some q) b b' more same parts some = absurd same
  unsent-rest (Some p) None b b' more same parts some = absurd same

  -- all that was unsent was sent
  sent-all : (to to' : Giver) (b b' : Inbox) (more : List Item) → SameGiver to to' → waiting_items b ≡ items_as more ++ waiting_items b' → unsent_of t to' b' ≡ [] → length (unsent_of t to b) ≤ length more
  sent-all None None b b' more same parts none = omega arith
  sent-all (Some p) (Some q) b b' more same parts none = omega (arith, ap length parts, ap length none, length-append (items_as more) (waiting_items b'), length-map more item_as)
  sent-all None (Some q) b b' more same parts none = absurd same
  sent-all (Some p) None b b' more same parts none = absurd same

  -- the ends of one ring tell the same of an outbox
  pub unsent-same : (to to' : Giver) (b : Inbox) → SameGiver to to' → unsent_of t to b ≡ unsent_of t to' b
  unsent-same None None b same = refl
  unsent-same (Some p) (Some q) b same = refl
  unsent-same None (Some q) b same = absurd same
  unsent-same (Some p) None b same = absurd same

  none-unsent : (to : Giver) (b : Inbox) → waiting_items b ≡ [] → unsent_of t to b ≡ []
  none-unsent None b none = refl
  none-unsent (Some p) b none = none

  -- a stage that has written had a turn
  had-turn : (p : t.Plan) (s : Staged T) (x : Progress) (out : List schedule.StreamItem) → Sits t p s x out → (out ≡ [] → ⊥) → x.turned ≡ true
  had-turn p s x out sits some = cases sits.history sits.fed sits.wrote
    where
      cases : (h : Option StageFed) → IsStageFed t p x h → out ≡ written_by h → x.turned ≡ true
      cases None fed wrote = absurd (some wrote)
      cases (Some f) fed wrote = fed.0

  -- something is unsent still: nothing was taken
  pub only-sent : (room : ℕ) (s s' : RingSeat T t) → SendsOn t s s' → (unsent_items t s' ≡ [] → ⊥) → Looks t room s s' 0
  only-sent room s s' sends some = record {
    same_from = subst (λ z. SameTaker s.from z) (sym sends.same_from) (one-taker s.from);
    same_to = sends.same_to;
    popped = [];
    more = sends.more;
    came = ap taken_from sends.same_from ∙ sym (append-nil (taken_from s.from));
    went = sends.went;
    feeds = λ p x out front whole sits out_is.
        let now : out ≡ front ++ (items_as sends.more ++ waiting_items s'.seat.outbox) = out_is ∙ ap (λ z. front ++ z) sends.parts in
        let turned : x.turned ≡ true = had-turn p s.seat.staged x out sits (λ e. some (none-unsent s'.to s'.seat.outbox (rest-empty (items_as sends.more) (waiting_items s'.seat.outbox) (rest-empty front (items_as sends.more ++ waiting_items s'.seat.outbox) (sym now ∙ e))))) in
        let same : x ≡ fed_more [] x = ap₂ (λ a b. record { taken = a; turned = b }) (sym (append-nil x.taken)) turned in
        record {
          got = [];
          count_is = refl;
          parts = append-nil (waiting_items s.seat.inbox) ∙ ap waiting_items (sym sends.same_inbox);
          out = out;
          sits = subst (λ z. Sits t p z (fed_more [] x) out) (sym sends.same_staged) (subst (λ z. Sits t p s.seat.staged z out) same sits);
          out_is = now;
        };
    took = λ none. absurd (some (still-sent s.to s'.to s.seat.outbox s'.seat.outbox sends.more sends.same_to sends.parts none));
    sent_most = sends.most;
    held = λ some_left. record { none_popped = refl; none_taken = refl; rest = unsent-rest s.to s'.to s.seat.outbox s'.seat.outbox sends.more sends.same_to sends.parts some_left };
    free = sends.free;
  }

  -- what came out of a ring
  pub found-some : (room : ℕ) (s s' : RingSeat T t) (ring ring' : Consumer Item Global AnyItems) (count : ℕ) → s.from ≡ Some ring → s'.from ≡ Some ring' → s'.to ≡ s.to → s'.seat.staged ≡ s.seat.staged → s'.seat.outbox ≡ s.seat.outbox → Pulls room s.seat.inbox s'.seat.inbox ring ring' count → FindsIn t room s s' count
  found-some room s s' ring ring' count e e' to staged outbox pulls = record {
    same_from = subst (λ z. SameTaker z s'.from) (sym e) (subst (λ z. SameTaker (Some ring) z) (sym e') pulls.same);
    same_to = to;
    same_staged = staged;
    same_outbox = outbox;
    popped = pulls.items;
    came = ap taken_from e' ∙ pulls.came ∙ ap (λ z. taken_from z ++ pulls.items) (sym e);
    lies = pulls.lies;
    enough = omega (arith, pulls.count_is, length-append (waiting_items s.seat.inbox) (items_as pulls.items), length-map pulls.items item_as);
    least = subst (λ z. min room (found_count t z s.seat.inbox) ≤ count) (sym e) pulls.least;
  }

  -- what was found was fed
  pub taken-in : (room : ℕ) (s m s' : RingSeat T t) (count : ℕ) → FindsIn t room s m count → Takes t count m.seat s'.seat → s'.from ≡ m.from → s'.to ≡ m.to → TakesIn t room s s' count
  taken-in room s m s' count f takes from to = record {
    same_from = subst (λ z. SameTaker s.from z) (sym from) f.same_from;
    same_to = to ∙ f.same_to;
    popped = f.popped;
    came = ap taken_from from ∙ f.came;
    feeds = λ p x out front whole sits out_is.
        let lot : List schedule.StreamItem = waiting_items s.seat.inbox ++ items_as f.popped in
        let inbox : waiting_items m.seat.inbox ≡ lot = f.lies (back-whole x.taken lot whole) in
        let came : List schedule.StreamItem = x.taken ++ lot in
        let r = takes.turns p x came out front whole (ap (λ z. x.taken ++ z) (sym inbox)) (subst (λ z. Sits t p z x out) (sym f.same_staged) sits) (out_is ∙ ap (λ z. front ++ waiting_items z) (sym f.same_outbox)) in
        let seat : more_taken count came x ≡ fed_more (take count lot) x = ap (λ z. record { taken = z; turned = true }) (taken-more count came lot x refl) in
        record {
          got = take count lot;
          count_is = length-took count lot f.enough;
          parts = sym (take-append-drop count lot) ∙ ap (λ z. take count lot ++ z) (ap (λ z. drop count z) (sym inbox) ∙ sym takes.rest);
          out = r.out;
          sits = subst (λ z. Sits t p s'.seat.staged z r.out) seat r.sits;
          out_is = r.out_is;
        };
    took = f.least;
  }

  -- all was sent, and what was found was taken
  pub sent-and-taken : (room : ℕ) (s m s' : RingSeat T t) (count : ℕ) → SendsOn t s m → unsent_items t m ≡ [] → TakesIn t room m s' count → Looks t room s s' count
  sent-and-taken room s m s' count sends all takes = record {
    same_from = subst (λ z. SameTaker z s'.from) sends.same_from takes.same_from;
    same_to = subst (λ z. SameGiver s.to z) (sym takes.same_to) sends.same_to;
    popped = takes.popped;
    more = sends.more;
    came = takes.came ∙ ap (λ z. taken_from z ++ takes.popped) sends.same_from;
    went = ap sent_to takes.same_to ∙ sends.went;
    feeds = λ p x out front whole sits out_is.
        let before : List schedule.StreamItem = front ++ items_as sends.more in
        let now : out ≡ before ++ waiting_items m.seat.outbox = out_is ∙ ap (λ z. front ++ z) sends.parts ∙ sym (append_assoc front (items_as sends.more) (waiting_items m.seat.outbox)) in
        let r = takes.feeds p x out before (subst (λ z. IsWhole (x.taken ++ (waiting_items z ++ items_as takes.popped))) (sym sends.same_inbox) whole) (subst (λ z. Sits t p z x out) (sym sends.same_staged) sits) now in
        record {
          got = r.got;
          count_is = r.count_is;
          parts = ap (λ z. waiting_items z ++ items_as takes.popped) (sym sends.same_inbox) ∙ r.parts;
          out = r.out;
          sits = r.sits;
          out_is = r.out_is ∙ append_assoc front (items_as sends.more) (waiting_items s'.seat.outbox);
        };
    took = λ none. subst (λ z. min room z ≤ count) (ap₂ (λ a b. found_count t a b) sends.same_from sends.same_inbox) takes.took;
    sent_most = sends.most;
    held = λ some_left. let none_left = sent-all s.to m.to s.seat.outbox m.seat.outbox sends.more sends.same_to sends.parts all in absurd (omega (arith, some_left, none_left));
    free = subst (λ z. free_in s.to ≤ free_in z + length sends.more) (sym takes.same_to) sends.free;
  }

  feeds-more : (a b c : RingSeat T t) (one two more again : List Item) (m n k : ℕ) → k ≡ m + n → RingSeatFeeds t a b one more m → RingSeatFeeds t b c two again n → RingSeatFeeds t a c (one ++ two) (more ++ again) k
  feeds-more a b c one two more again m n k number f g = λ p x out front whole sits out_is.
      let items : items_as (one ++ two) ≡ items_as one ++ items_as two = map-append item_as one two in
      let lot : waiting_items a.seat.inbox ++ items_as (one ++ two) ≡ (waiting_items a.seat.inbox ++ items_as one) ++ items_as two = ap (λ z. waiting_items a.seat.inbox ++ z) items ∙ sym (append_assoc (waiting_items a.seat.inbox) (items_as one) (items_as two)) in
      let cut : x.taken ++ (waiting_items a.seat.inbox ++ items_as (one ++ two)) ≡ (x.taken ++ (waiting_items a.seat.inbox ++ items_as one)) ++ items_as two = ap (λ z. x.taken ++ z) lot ∙ sym (append_assoc x.taken (waiting_items a.seat.inbox ++ items_as one) (items_as two)) in
      let first = f p x out front (front-whole (x.taken ++ (waiting_items a.seat.inbox ++ items_as one)) (items_as two) (subst IsWhole cut whole)) sits out_is in
      let mid : waiting_items a.seat.inbox ++ items_as (one ++ two) ≡ first.got ++ (waiting_items b.seat.inbox ++ items_as two) = lot ∙ ap (λ z. z ++ items_as two) first.parts ∙ append_assoc first.got (waiting_items b.seat.inbox) (items_as two) in
      let rest : x.taken ++ (waiting_items a.seat.inbox ++ items_as (one ++ two)) ≡ (x.taken ++ first.got) ++ (waiting_items b.seat.inbox ++ items_as two) = ap (λ z. x.taken ++ z) mid ∙ sym (append_assoc x.taken first.got (waiting_items b.seat.inbox ++ items_as two)) in
      let second = g p (fed_more first.got x) first.out (front ++ items_as more) (subst IsWhole rest whole) first.sits (first.out_is ∙ sym (append_assoc front (items_as more) (waiting_items b.seat.outbox))) in
      record {
        got = first.got ++ second.got;
        count_is = omega (arith, number, first.count_is, second.count_is, length-append first.got second.got);
        parts = mid ∙ ap (λ z. first.got ++ z) second.parts ∙ sym (append_assoc first.got second.got (waiting_items c.seat.inbox));
        out = second.out;
        sits = subst (λ z. Sits t p c.seat.staged z second.out) (ap (λ z. record { taken = z; turned = true }) (append_assoc x.taken first.got second.got)) second.sits;
        out_is = second.out_is ∙ append_assoc front (items_as more) (items_as again ++ waiting_items c.seat.outbox) ∙ ap (λ z. front ++ z) (sym (append_assoc (items_as more) (items_as again) (waiting_items c.seat.outbox)) ∙ ap (λ z. z ++ waiting_items c.seat.outbox) (sym (map-append item_as more again)));
      }

  -- what is unsent still after looks, and after more of them
  abbrev IsHeldIf : List schedule.StreamItem → List schedule.StreamItem → List Item → List Item → ℕ → Type 0
  IsHeldIf before after popped more count = length more < length before → IsHeldBack before after popped more count

  held-more : (a b c : List schedule.StreamItem) (one two more again : List Item) (m n k : ℕ) → k ≡ m + n → IsHeldIf a b one more m → IsHeldIf b c two again n → IsHeldIf a c (one ++ two) (more ++ again) k
  held-more a b c one two more again m n k number f g = λ some_left.
      let first = f (omega (arith, some_left, length-append more again)) in
      let second = g (omega (arith, some_left, length-append more again, ap length first.rest, length-append (items_as more) b, length-map more item_as)) in
      record {
        none_popped = ap₂ (λ x y. x ++ y) first.none_popped second.none_popped;
        none_taken = omega (arith, number, first.none_taken, second.none_taken);
        rest = first.rest ∙ ap (λ z. items_as more ++ z) second.rest ∙ sym (append_assoc (items_as more) (items_as again) c) ∙ ap (λ z. z ++ c) (sym (map-append item_as more again));
      }

  pub looks-more : (room : ℕ) (a b c : RingSeat T t) (m n k : ℕ) → Looks t room a b m → Looks t room b c n → k ≡ m + n → Looks t room a c k
  looks-more room a b c m n k f g number = record {
    same_from = same-taker a.from b.from c.from f.same_from g.same_from;
    same_to = same-giver a.to b.to c.to f.same_to g.same_to;
    popped = f.popped ++ g.popped;
    more = f.more ++ g.more;
    came = g.came ∙ ap (λ z. z ++ g.popped) f.came ∙ append_assoc (taken_from a.from) f.popped g.popped;
    went = g.went ∙ ap (λ z. z ++ g.more) f.went ∙ append_assoc (sent_to a.to) f.more g.more;
    feeds = feeds-more a b c f.popped g.popped f.more g.more m n k number f.feeds g.feeds;
    took = λ none. let e = f.took none in omega (arith, e, number);
    sent_most = let e = f.sent_most in omega (arith, e, length-append f.more g.more);
    held = held-more (unsent_items t a) (unsent_items t b) (unsent_items t c) f.popped g.popped f.more g.more m n k number f.held g.held;
    free = let e = f.free in let d = g.free in omega (arith, e, d, length-append f.more g.more);
  }
