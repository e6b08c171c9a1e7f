-- A bounded worker that takes a piece, or the end.
use Rattle.std.proofs.Common.{◌≡◌, ℕ, ◌<◌, ◌≤◌, ◌+◌, ◌-◌, Bool, true, false, ◌||◌, not, List, [], ◌++◌, Option, Some, None, length, min, take, drop, refl, sym, ap, subst, ◌∙◌, append_assoc, append-nil, arith, length-append, length-take, take-append-drop}
use Rattle.std.specs.Prelude.{IsSome}
use Rattle.std.proofs.lemmas.List.{take_all}
use Rattle.kex_code.specs.Codes.{Begins}
use Rattle.kex_model.specs.Answers.{Answer, stopped_answer, at_end, at_limit}
use Rattle.kex_model.proofs.OpenAnswers.{same_front}
use Rattle.kex_pipe.specs.Histories.{StageFed, Feeds, IsFateOf, bytes_fed, ended_of, said_text, stop_as}
use Rattle.kex_pipe.specs.declared.turn.Stop.{Stop}
use Rattle.kex_pipe.specs.declared.turn.Why.TheVariants.{Byte, Limit}
use Rattle.kex_pipe.specs.Working.{Answering, CameToEnd, ReadMore}
use Rattle.kex_pipe.specs.Bounds.{StandsAs, end_stop, fate_of, stop_after}

-- what may not want memory is usable
pub usable_is : (may_want usable : Bool) → (usable ≡ false → may_want ≡ true) → (not may_want || usable) ≡ true → usable ≡ true
usable_is may_want true w e = refl
usable_is true false w e = e
usable_is false false w e = w refl

pub may_go_on : (may_want : Bool) → (not may_want || true) ≡ true
may_go_on true = refl
may_go_on false = refl

-- open where it neither stopped nor ended
pub open_of : (Gives : List ℕ → Bool → Answer → Type 0) (Open : List ℕ → List ℕ → Type 0) (stop : Option Stop) (over : Bool) (h : Option StageFed)
    → StandsAs Gives Open stop over h → ended_of h ≡ false → stop ≡ None → Open (bytes_fed h) (said_text h)
open_of Gives Open stop over None s e n = s.0
open_of Gives Open stop over (Some h) s e n = s.3 e n

fated : (stop : Option Stop) → IsFateOf (stop_as stop) (fate_of stop)
fated None = refl
fated (Some s) = refl

module _ {M : Type 0} (Says : List ℕ → Option ℕ → List ℕ → Type 0) (Closes : List ℕ → Bool → List ℕ → Type 0)
    (GivesBy : M → ℕ → List ℕ → Bool → Answer → Type 0) (m : M) (laws : Answering Says Closes (GivesBy m)) (limit : ℕ) where
  abbrev Gives : List ℕ → Bool → Answer → Type 0
  Gives w e a = GivesBy m limit w e a

  -- a front of a piece was read, as far as the limit lets it
  module _ (h : Option StageFed) (count : ℕ) (piece front : List ℕ) (counted : count ≡ length (bytes_fed h)) (within : count ≤ limit)
      (is : front ≡ take (min (limit - count) (length piece)) piece) where
    long : length front ≡ min (limit - count) (length piece)
    long = ap length is ∙ omega (arith, length-take (min (limit - count) (length piece)) piece)

    abbrev rest : List ℕ
    rest = drop (min (limit - count) (length piece)) piece

    abbrev begins : Begins piece front
    begins = (rest, sym (take-append-drop (min (limit - count) (length piece)) piece) ∙ ap (λ z. z ++ rest) (sym is))

    within_limit : take limit (bytes_fed h ++ piece) ≡ bytes_fed h ++ front
    within_limit =
        same_front (bytes_fed h ++ piece) (take limit (bytes_fed h ++ piece)) (bytes_fed h ++ front)
        (drop limit (bytes_fed h ++ piece), sym (take-append-drop limit (bytes_fed h ++ piece)))
        (rest, ap (λ z. bytes_fed h ++ z) begins.1 ∙ sym (append_assoc (bytes_fed h) front rest))
        (omega (arith, counted, within, long, length-take limit (bytes_fed h ++ piece), length-append (bytes_fed h) piece, length-append (bytes_fed h) front))

    answers : (at : Option ℕ) (past : Bool) (text : List ℕ) → (past ≡ true → length front < length piece) → (past ≡ false → length piece ≤ length front)
        → Says (bytes_fed h ++ front) at text
        → Gives (bytes_fed h ++ piece) false (record { text = text; ended = false; stop = stop_as (stop_after at (count + length front) past) })
    answers (Some at) past text lt le says =
        laws.stops_at limit (bytes_fed h ++ piece) false at text (subst (λ z. Says z (Some at) text) (sym within_limit) says)
    answers None true text lt le says =
        let short = lt refl in
        let here : count + length front ≡ limit = omega (arith, short, within, long) in
        let more : limit < length (bytes_fed h ++ piece) = omega (arith, counted, short, here, length-append (bytes_fed h) piece) in
        subst (λ n. Gives (bytes_fed h ++ piece) false (stopped_answer text n at_limit)) (sym here)
        (laws.too_long limit (bytes_fed h ++ piece) false text more (subst (λ z. Says z None text) (sym within_limit) says))
    answers None false text lt le says =
        let all : front ≡ piece = whole_piece (le refl) in
        let short : length (bytes_fed h ++ piece) ≤ limit = omega (arith, counted, within, long, le refl, length-append (bytes_fed h) piece) in
        laws.still_open limit (bytes_fed h ++ piece) text short (subst (λ z. Says (bytes_fed h ++ z) None text) all says)
      where
        whole_piece : length piece ≤ length front → front ≡ piece
        whole_piece le = is ∙ take_all (min (limit - count) (length piece)) piece (omega (arith, long, le))

    all_read : (at : Option ℕ) (past : Bool) → (past ≡ false → length piece ≤ length front) → stop_after at (count + length front) past ≡ None → (at ≡ None) × (front ≡ piece)
    all_read (Some at) past le e = let bad : Some (record { at = at; why = Byte }) ≡ None = e in cc
    all_read None true le e = let bad : Some (record { at = count + length front; why = Limit }) ≡ None = e in cc
    all_read None false le e = (refl, is ∙ take_all (min (limit - count) (length piece)) piece (omega (arith, long, le refl)))

    pub feeds : (Follows : List ℕ → List ℕ → Type 0) (U : Type 0) (m1 : M) (at : Option ℕ) (past : Bool) (old new : List ℕ)
        → m1 ≡ m → U → (past ≡ true → length front < length piece) → (past ≡ false → length piece ≤ length front)
        → ReadMore Says Follows (bytes_fed h) (said_text h) front at old new
        → Feeds (λ w e a. Gives w e a)
        (λ k. StandsAs (λ w e a. GivesBy m1 limit w e a) (λ w t. Follows w t × (count + length front ≡ length w)) (stop_after at (count + length front) past) false k × U)
        h (bytes_fed h ++ piece) false old new (fate_of (stop_after at (count + length front) past))
    feeds Follows U m1 at past old new same u lt le r =
        let text = said_text h ++ r.more in
        let gives = answers at past text lt le r.says in
        record {
          answer = record { text = text; ended = false; stop = stop_as (stop_after at (count + length front) past) };
          gives = gives;
          stands = (
            (
              subst (λ z. GivesBy z limit (bytes_fed h ++ piece) false (record { text = text; ended = false; stop = stop_as (stop_after at (count + length front) past) })) (sym same) gives,
              refl,
              refl,
              λ e n.
                  let x = all_read at past le n in (
                    subst (λ z. Follows (bytes_fed h ++ z) text) x.1 (r.follows x.0),
                    omega (arith, counted, ap length x.1, length-append (bytes_fed h) piece),
                  ),
            ),
            u,
          );
          added = r.more;
          whole = refl;
          appended = r.written;
          is_fate = fated (stop_after at (count + length front) past);
        }

  -- the end
  module _ (h : Option StageFed) (count : ℕ) (counted : count ≡ length (bytes_fed h)) (within : count ≤ limit) where
    closed : (parsed : Bool) (text : List ℕ) → Closes (bytes_fed h) parsed text
        → Gives (bytes_fed h) true (record { text = text; ended = parsed; stop = stop_as (end_stop parsed count) })
    closed true text c = laws.whole limit (bytes_fed h) text (omega (arith, counted, within)) c
    closed false text c =
        subst (λ n. Gives (bytes_fed h) true (stopped_answer text n at_end)) (sym counted) (laws.cut_off limit (bytes_fed h) text (omega (arith, counted, within)) c)

    pub ends : (Open : List ℕ → List ℕ → Type 0) (U : Type 0) (m1 : M) (parsed : Bool) (old new : List ℕ) → m1 ≡ m → U
        → CameToEnd Closes (bytes_fed h) (said_text h) parsed old new
        → Feeds (λ w e a. Gives w e a) (λ k. StandsAs (λ w e a. GivesBy m1 limit w e a) Open (end_stop parsed count) true k × U) h (bytes_fed h) true old new (fate_of (end_stop parsed count))
    ends Open U m1 parsed old new same u c =
        let text = said_text h ++ c.more in
        let gives = closed parsed text c.closes in
        record {
          answer = record { text = text; ended = parsed; stop = stop_as (end_stop parsed count) };
          gives = gives;
          stands = (
            (
              subst (λ z. GivesBy z limit (bytes_fed h) true (record { text = text; ended = parsed; stop = stop_as (end_stop parsed count) })) (sym same) gives,
              refl,
              refl,
              λ e n. let bad : true ≡ false = e in cc,
            ),
            u,
          );
          added = c.more;
          whole = refl;
          appended = c.written;
          is_fate = fated (end_stop parsed count);
        }

  -- a stage that has stopped drops what comes
  pub drops : (Open : List ℕ → List ℕ → Type 0) (U : Type 0) (s : Stop) (over : Bool) (h : Option StageFed) (w : List ℕ) (e : Bool) (out : List ℕ) → U
      → StandsAs Gives Open (Some s) over h → ended_of h ≡ false → Begins w (bytes_fed h)
      → Feeds (λ x d a. Gives x d a) (λ k. StandsAs Gives Open (Some s) e k × U) h w e out out (fate_of (Some s))
  drops Open U s over None w e out u h n b = let bad : Some s ≡ None = h.1 in cc
  drops Open U s over (Some k) w e out u h n b =
      let open_ = subst (λ z. Gives k.bytes z k.answer) n h.0 in
      let some : k.answer.stop ≡ None → ⊥ = λ none. let bad : stop_as (Some s) ≡ None = h.1 ∙ none in cc in
      let gives : Gives w e k.answer = subst (λ z. Gives z e k.answer) (sym b.1) (laws.stopped limit k.bytes b.0 e k.answer open_ some) in
      record {
        answer = k.answer;
        gives = gives;
        stands = ((gives, h.1, refl, λ x m. let bad : Some s ≡ None = m in cc), u);
        added = [];
        whole = sym (append-nil k.answer.text);
        appended = sym (append-nil out);
        is_fate = subst (λ z. IsSome z) h.1 refl;
      }
