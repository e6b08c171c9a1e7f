-- Items that go into a ring, run by run.
use Rattle.std.proofs.Common.{◌≡◌, ◌<◌, ◌≤◌, ◌+◌, ◌⊎◌, Bool, inl, inr, ℕ, true, false, List, [], ◌∷◌, ◌++◌, length, map, take, drop, set, ◌&&◌, not, nat_lt, sym, ap, ap₂, ◌∙◌, append_assoc, append-nil, length-append, arith, min}
use Rattle.std.specs.Prelude.{Result, Ok, Err, OnOk, IfOk}
use Rattle.std.proofs.lemmas.List.{map-append, length-map, length-take, take-append-drop, take_all, take_more_set}
use Rattle.std.proofs.Math.Seq.{drop-append_seam}
use Rattle.std.proofs.lemmas.Bool.{ltb-true}
use Rattle.kex_model.specs.Schedules.{byte, finish, bytes_in, has_end, items_of}
use Rattle.rtrb.specs.Ring.{sent, known_free, SameProducer, SameConsumer}
use Rattle.rtrb.specs.declared.producer.Producer.{Producer}
use Rattle.rtrb.specs.declared.consumer.Consumer.{Consumer}
use Rattle.kex_pipe.specs.Waiting.{unread_bytes, waiting_items}
use Rattle.kex_pipe.specs.declared.inbox.Inbox.{Inbox}
use Rattle.kex_pipe.proofs.Items.{bytes-items, end-items, bytes-take, end-take, drop-items}
use Rattle.kex_rings.specs.declared.item.Item.{Item}
use Rattle.kex_rings.specs.declared.item.Item.TheVariants.{End}
use Rattle.kex_rings.specs.Items.{item_as, items_as}
use Rattle.kex_rings.specs.Passing.{Sends}
use Rattle.kex_rings.proofs.Wholes.{front-whole}

module _ {A P : Type 0} where
  pub same-producer : (a b c : Producer Item A P) → SameProducer a b → SameProducer b c → SameProducer a c
  same-producer a b c f g = ((g.0.0 ∙ f.0.0, g.0.1 ∙ f.0.1, g.0.2 ∙ f.0.2, g.0.3 ∙ f.0.3), g.1 ∙ f.1)

  pub same-consumer : (a b c : Consumer Item A P) → SameConsumer a b → SameConsumer b c → SameConsumer a c
  same-consumer a b c f g = ((g.0.0 ∙ f.0.0, g.0.1 ∙ f.0.1, g.0.2 ∙ f.0.2, g.0.3 ∙ f.0.3), g.1 ∙ f.1)

  pub record Sending (old new : Inbox) (ring ring' : Producer Item A P) : Type 0 where
    pub same : SameProducer ring ring'
    pub more : List Item
    pub went : sent ring' ≡ sent ring ++ more
    pub parts : waiting_items old ≡ items_as more ++ waiting_items new
    pub free : known_free ring ≤ known_free ring' + length more

  pub more-sent : (old mid new : Inbox) (ring ring' ring'' : Producer Item A P) (went : List Item) → Sending old mid ring ring' → SameProducer ring' ring'' → sent ring'' ≡ sent ring' ++ went → waiting_items mid ≡ items_as went ++ waiting_items new → known_free ring' ≤ known_free ring'' + length went → Sending old new ring ring''
  more-sent old mid new ring ring' ring'' went s same more cut free = record {
    same = same-producer ring ring' ring'' s.same same;
    more = s.more ++ went;
    went = more ∙ ap (λ z. z ++ went) s.went ∙ append_assoc (sent ring) s.more went;
    parts = s.parts ∙ ap (λ z. items_as s.more ++ z) cut ∙ sym (append_assoc (items_as s.more) (items_as went) (waiting_items new)) ∙ ap (λ z. z ++ waiting_items new) (sym (map-append item_as s.more went));
    free = omega (arith, s.free, free, length-append s.more went);
  }

  -- what was sent, by what is left
  pub all-sent : (old new : Inbox) (ring ring' : Producer Item A P) → Sending old new ring ring' → (length (waiting_items new) ≡ 0) ⊎ (known_free ring' ≡ 0) → Sends old new ring ring'
  all-sent old new ring ring' s most = record { same = s.same; more = s.more; went = s.went; parts = s.parts; most = cases most; free = s.free }
    where
      cases : (length (waiting_items new) ≡ 0) ⊎ (known_free ring' ≡ 0) → min (length (waiting_items old)) (known_free ring) ≤ length s.more
      cases (inl none) = omega (arith, ap length s.parts, length-append (items_as s.more) (waiting_items new), length-map s.more item_as, none)
      cases (inr full) = omega (arith, s.free, full)

-- a list is a front of it and what comes after that
behind : {A : Type 0} (n : ℕ) (xs ys zs : List A) → xs ++ ys ≡ take n zs → zs ≡ xs ++ drop (length xs) zs
behind n xs ys zs e =
    let whole : zs ≡ xs ++ (ys ++ drop n zs) = sym (take-append-drop n zs) ∙ ap (λ z. z ++ drop n zs) (sym e) ∙ append_assoc xs ys (drop n zs) in
    whole ∙ ap (λ z. xs ++ z) (sym (ap (λ z. drop (length xs) z) whole ∙ drop-append_seam xs (ys ++ drop n zs)))

-- what is left after the items that went, of those that were offered
pub run-cut : (n : ℕ) (mid new : Inbox) (went left run : List Item) → items_as run ≡ take n (waiting_items mid) → went ++ left ≡ run → unread_bytes new ≡ drop (length went) (unread_bytes mid) → new.ended ≡ (mid.ended && not (nat_lt (length (unread_bytes mid)) (length went))) → waiting_items mid ≡ items_as went ++ waiting_items new
run-cut n mid new went left run offered parts bytes end =
    let rest : waiting_items new ≡ drop (length went) (waiting_items mid) = ap₂ items_of bytes end ∙ sym (drop-items (length went) (unread_bytes mid) mid.ended) in
    behind n (items_as went) (items_as left) (waiting_items mid) (sym (map-append item_as went left) ∙ ap items_as parts ∙ offered)
    ∙ ap (λ k. items_as went ++ drop k (waiting_items mid)) (length-map went item_as) ∙ ap (λ z. items_as went ++ z) (sym rest)

take-items : (m : ℕ) (w : List ℕ) (e : Bool) → take m (items_of w e) ≡ items_of (take m w) (e && nat_lt (length w) m)
take-items m w e =
    let all = items_of w e in
    let front = front-whole (take m all) (drop m all) (w, e, take-append-drop m all) in
    front.2 ∙ ap₂ items_of (sym (bytes-items front.0 front.1) ∙ sym (ap bytes_in front.2) ∙ bytes-take m w e) (sym (end-items front.0 front.1) ∙ sym (ap has_end front.2) ∙ end-take m w e)

bytes-offered : (i : ℕ) (run : List Item) (bytes : List ℕ) → items_as (take i run) ≡ map byte (take i bytes) → i ≡ length bytes → items_as (take (length bytes) run) ≡ map byte bytes
bytes-offered i run bytes same all = ap (λ k. items_as (take k run)) (sym all) ∙ same ∙ ap (λ z. map byte z) (take_all i bytes (omega (arith, all)))

-- what is offered where the end is not among it
pub open-offer : (m i : ℕ) (b : Inbox) (run : List Item) (bytes : List ℕ) → bytes ≡ take m (unread_bytes b) → items_as (take i run) ≡ map byte (take i bytes) → i ≡ length bytes → (b.ended && nat_lt (length (unread_bytes b)) m) ≡ false → items_as (take (length bytes) run) ≡ take m (waiting_items b)
open-offer m i b run bytes front same all shut =
    bytes-offered i run bytes same all ∙ sym (append-nil (map byte bytes)) ∙ ap₂ items_of front (sym shut) ∙ sym (take-items m (unread_bytes b) b.ended)

both-right : (a b : Bool) → (a && b) ≡ true → b ≡ true
both-right true b e = e
both-right false b e = cc

-- and where it is
pub ended-offer : (m i : ℕ) (b : Inbox) (run : List Item) (bytes : List ℕ) → bytes ≡ take m (unread_bytes b) → items_as (take i run) ≡ map byte (take i bytes) → i ≡ length bytes → m ≤ length run → (b.ended && nat_lt (length (unread_bytes b)) m) ≡ true → items_as (take (length bytes + 1) (set run (length bytes) End)) ≡ take m (waiting_items b)
ended-offer m i b run bytes front same all long ended =
    let few : length (unread_bytes b) < m = ltb-true (length (unread_bytes b)) m (both-right b.ended (nat_lt (length (unread_bytes b)) m) ended) in
    let room : length bytes < length run = omega (arith, few, long, ap length front ∙ length-take m (unread_bytes b)) in
    ap items_as (take_more_set run (length bytes) End room) ∙ map-append item_as (take (length bytes) run) (End ∷ []) ∙ ap (λ z. z ++ finish ∷ []) (bytes-offered i run bytes same all)
    ∙ ap₂ items_of front (sym ended) ∙ sym (take-items m (unread_bytes b) b.ended)

pub on-ok : {A E P Q : Type 0} (r : Result A E) → (P → Q) → OnOk r P → OnOk r Q
on-ok (Ok x) f h = f h
on-ok (Err e) f h = h

pub if-ok : {A E : Type 0} (r : Result A E) (P Q : A → Type 0) → ((x : A) → P x → Q x) → IfOk r P → IfOk r Q
if-ok (Ok x) P Q f h = f x h
if-ok (Err e) P Q f h = h
