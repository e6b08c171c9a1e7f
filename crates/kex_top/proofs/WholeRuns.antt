-- From one piece to the whole run.
use Rattle.std.proofs.Common.{◌≡◌, ◌++◌, ◌≤◌, ℕ, List, [], Bool, true, false, refl, sym, ◌∙◌, subst, ap, arith, append_assoc, length, inl, inr}
use Rattle.std.specs.Prelude.{◌⊎◌, Option, Some, None, IsSome, Err}
use Rattle.std.specs.Io.KnownBytes.{Appends, Consumes, IsAtEnd, Keeps}
use Rattle.kex_ports.specs.Causes.{Rose}
use Rattle.kex_ports.specs.Bytes.{IsPrefix}
use Rattle.kex_ports.proofs.Known.{append-nil, appends-nothing, appends-then, appends-same, appends-kept, prefix-whole}
use Rattle.kex_pipeline.specs.Sayings.{Said}
use Rattle.kex_pipeline.specs.History.{History, StagesFed, IsSaidSoFar, bytes_passed, history_text, WritesSaid, WritesEarly, WritesSaidFront, WritesUpTo}
use Rattle.kex_words.specs.Gains.{StreamChange, change}
use Rattle.kex_pipeline.specs.Troubles.{TroubleCause}
use Rattle.kex_top.specs.Run.{is_whole, IsSaidBy, Pumped, Ran, EndsAs, WritesAll, WritesBegun, WritesEarlier, status_of, status_for, status_after}
use Rattle.kex_pipe.specs.declared.turn.Fate.{Fate}
use Rattle.kex_pipe.specs.declared.turn.Why.{Why}
use Rattle.kex_pipe.specs.declared.turn.Why.TheVariants.{Byte, End, Limit}
use Rattle.kex_pipe.specs.declared.report.Rejected.{Rejected as Report}
use Rattle.kex_top.specs.declared.status.Status.{Status}
use Rattle.kex_top.specs.declared.status.Status.TheVariants.{Done, Rejected, TooLong, InputTooLong, ReadFault, WriteFault}
use Rattle.kex_pipeline.specs.declared.pass.Trouble.{Trouble}
use Rattle.kex_pipeline.specs.declared.pass.Trouble.TheVariants as trouble

appends-kept-after : (a b c : Option (List ℕ)) (x : List ℕ) → Appends a b x → Keeps b c → Appends a c x
appends-kept-after a b c x p k =
    appends-same a c (x ++ []) x (sym (append-nil x)) (appends-then a b c x [] p (appends-kept b c k))

-- A run that was worked off ends as its report says.
why-ends : (says : List ℕ → Bool → Said → Type 0) (n : ℕ) (w : List ℕ) (e : Bool) (source sink : StreamChange) (r : Report) (why : Why) → r.why ≡ why
    → WritesAll says w e (Some r) sink → source.now ≡ source.before → sink.now ≡ sink.before
    → EndsAs says n w e source sink (status_for why r)
why-ends says n w e source sink r Byte y all a b = (ap (λ (k : Why). status_for k r) y, all, a, b)
why-ends says n w e source sink r End y all a b = (ap (λ (k : Why). status_for k r) y, all, a, b)
why-ends says n w e source sink r Limit y all a b = (ap (λ (k : Why). status_for k r) y, all, a, b)

worked-ends : (says : List ℕ → Bool → Said → Type 0) (n : ℕ) (w : List ℕ) (e : Bool) (source sink : StreamChange) (r : Option Report)
    → WritesAll says w e r sink → (r ≡ None → e ≡ true)
    → source.now ≡ source.before → sink.now ≡ sink.before → EndsAs says n w e source sink (status_of r)
worked-ends says n w e source sink None all end a b = (end refl, all, a, b)
worked-ends says n w e source sink (Some r) all end a b = why-ends says n w e source sink r r.why refl all a b

module _ {Plan : Type 0} (says : Plan → List ℕ → Bool → Said → Type 0) (p p' : Plan) (same : p' ≡ p) (h : History) (n : ℕ) (source sink : StreamChange) (mid : Option (List ℕ)) (w : List ℕ) (e : Bool) (s : Status) where
  pub worked : (stands : History → Type 0) (r : Option Report) (fate : Fate)
      → Consumes source.old source.new w → (e ≡ true → IsAtEnd source.new)
      → source.now ≡ source.before → sink.now ≡ sink.before
      → Appends sink.old mid (history_text h) → (x : WritesSaid (says p') stands h w e mid sink.new fate)
      → s ≡ status_of r → r ≡ x.said.report → (r ≡ None → e ≡ true) → (earlier : Said) × says p w false earlier → Pumped (says p) n source sink s
  worked stands r fate read ended a b before x status report end opened =
      let all : WritesAll (says p) w e r sink = record {
        said = x.said;
        is_said = subst (λ q. says q w e x.said) same x.is_said;
        reports = sym report;
        appended = appends-same _ _ _ _ (sym x.whole) (appends-then _ _ _ _ _ before x.appended);
      } in (
        record {
          w = w;
          e = e;
          read = read;
          ended = ended;
          ends = subst (λ z. EndsAs (says p) n w e source sink z) (sym status) (worked-ends (says p) n w e source sink r all end a b);
        },
        λ whole. opened,
      )

-- what was written of some of a text is that of a front of it
module _ {Plan : Type 0} (says : Plan → List ℕ → Bool → Said → Type 0) (p p' : Plan) (same : p' ≡ p) (h : History) (w : List ℕ) (e : Bool) (sink : StreamChange) (mid : Option (List ℕ)) where
  earlier-of : (grows : (q : Plan) (v x : List ℕ) (d : Bool) (a b : Said) → says q v false a → says q (v ++ x) d b → IsPrefix a.text b.text)
      → Appends sink.old mid (history_text h) → WritesEarly (says p') h w mid sink.new → WritesEarlier (says p) w e sink
  earlier-of grows before x = record {
    added = history_text x.now;
    appended = appends-same _ _ _ _ (sym x.whole) (appends-then _ _ _ _ _ before x.appended);
    from = from x.now x.cut x.is_said;
    front = front x.now x.cut x.is_said;
  }
    where
      from : (k : History) → w ≡ bytes_passed k ++ x.rest → IsSaidSoFar (says p') k → (history_text k ≡ []) ⊎ IsSaidBy (says p) w (history_text k)
      from None cut said = inl refl
      from (Some f) cut said = inr (f.bytes, f.said, record { rest = x.rest; joined = cut }, subst (λ q. says q f.bytes false f.said) same said, refl)

      front : (k : History) → w ≡ bytes_passed k ++ x.rest → IsSaidSoFar (says p') k → (b : Said) → says p w e b → IsPrefix (history_text k) b.text
      front None cut said b h = record { rest = b.text; joined = refl }
      front (Some f) cut said b h = grows p f.bytes x.rest e f.said b (subst (λ q. says q f.bytes false f.said) same said) (subst (λ z. says p z e b) cut h)

module _ {Plan : Type 0} (says : Plan → List ℕ → Bool → Said → Type 0) (p p' : Plan) (same : p' ≡ p) (f : StagesFed) (n : ℕ) (source sink : StreamChange) (mid : Option (List ℕ)) (w : List ℕ) (e : Bool) (s : Status) where
  -- the piece before which the bytes f were said
  module _ (u : List ℕ) (cut : w ≡ f.bytes ++ u) (short : length u ≤ n) (is_said : says p f.bytes false f.said) (before : Appends sink.old mid f.said.text) where
    wanted : (grows : (q : Plan) (v x : List ℕ) (d : Bool) (a b : Said) → says q v false a → says q (v ++ x) d b → IsPrefix a.text b.text)
        → WritesEarly (says p') (Some f) w mid sink.new → WritesEarlier (says p) w e sink
    wanted grows early = earlier-of says p p' same (Some f) w e sink mid grows before early

    failed : WritesSaidFront (says p') (Some f) w e mid sink.new → WritesBegun (says p) n w e sink
    failed x = record {
      said = x.said;
      is_said = subst (λ q. says q w e x.said) same x.is_said;
      added = f.said.text ++ x.appended.added;
      appended = appends-then _ _ _ _ _ before x.appended.grown;
      front = record {
        rest = x.appended.front.rest;
        joined = x.whole ∙ ap (λ (z : List ℕ). f.said.text ++ z) x.appended.front.joined ∙ sym (append_assoc f.said.text x.appended.added x.appended.front.rest);
      };
      begun = λ more. (f.bytes, u, f.said, cut, short, is_said, record { rest = x.appended.added; joined = refl });
    }

    pub broken : (grows : (q : Plan) (v x : List ℕ) (d : Bool) (a b : Said) → says q v false a → says q (v ++ x) d b → IsPrefix a.text b.text)
        (count : ℕ) (t : Trouble)
        → Consumes source.old source.new w → (e ≡ true → IsAtEnd source.new) → source.now ≡ source.before
        → WritesUpTo (says p') (Some f) w e mid sink.new t
        → count ≡ sink.before → TroubleCause {T = Fate} count sink.now (Err t)
        → s ≡ status_after t → Pumped (says p) n source sink s
    broken grows count t read ended a x kept cause status = (
      record {
        w = w;
        e = e;
        read = read;
        ended = ended;
        ends = subst (λ z. EndsAs (says p) n w e source sink z) (sym status) (by_trouble t x (subst (λ k. TroubleCause {T = Fate} k sink.now (Err t)) kept cause));
      },
      λ whole. absurd (not_whole t (ap is_whole (sym status) ∙ whole)),
    )
      where
        not_whole : (t : Trouble) → is_whole (status_after t) ≡ true → ⊥
        not_whole trouble.Memory y = let bad : false ≡ true = y in cc
        not_whole trouble.Write y = let bad : false ≡ true = y in cc

        by_trouble : (t : Trouble) → WritesUpTo (says p') (Some f) w e mid sink.new t → TroubleCause {T = Fate} sink.before sink.now (Err t) → EndsAs (says p) n w e source sink (status_after t)
        by_trouble trouble.Memory y c = (wanted grows y, a, c)
        by_trouble trouble.Write y c = (failed y, omega (arith, a), c)

-- The first piece, of nothing, is in trouble.
module _ (says : List ℕ → Bool → Said → Type 0) (n : ℕ) (source sink : StreamChange) (s : Status) where
  begun-first : WritesSaidFront says None [] false sink.old sink.new → WritesBegun says n [] false sink
  begun-first x = record {
    said = x.said;
    is_said = x.is_said;
    added = x.appended.added;
    appended = x.appended.grown;
    front = record { rest = x.appended.front.rest; joined = x.whole ∙ x.appended.front.joined };
    begun = λ more. absurd (omega arith);
  }

  wanted-first : (grows : (v x : List ℕ) (d : Bool) (a b : Said) → says v false a → says (v ++ x) d b → IsPrefix a.text b.text) → WritesEarly says None [] sink.old sink.new → WritesEarlier says [] false sink
  wanted-first grows early = earlier-of {Plan = Unit {0}} (λ q v d a. says v d a) tt tt refl None [] false sink sink.old (λ q v x d a b. grows v x d a b) (appends-nothing sink.old) early

  pub broken-first : (grows : (v x : List ℕ) (d : Bool) (a b : Said) → says v false a → says (v ++ x) d b → IsPrefix a.text b.text) (t : Trouble) → Consumes source.old source.new [] → source.now ≡ source.before
      → WritesUpTo says None [] false sink.old sink.new t → TroubleCause {T = Fate} sink.before sink.now (Err t)
      → s ≡ status_after t → Pumped says n source sink s
  broken-first grows t read a x cause status = (
    record {
      w = [];
      e = false;
      read = read;
      ended = λ end. let bad : false ≡ true = end in cc;
      ends = subst (λ z. EndsAs says n [] false source sink z) (sym status) (by_trouble t x cause);
    },
    λ whole. absurd (not_whole t (ap is_whole (sym status) ∙ whole)),
  )
    where
      not_whole : (t : Trouble) → is_whole (status_after t) ≡ true → ⊥
      not_whole trouble.Memory y = let bad : false ≡ true = y in cc
      not_whole trouble.Write y = let bad : false ≡ true = y in cc

      by_trouble : (t : Trouble) → WritesUpTo says None [] false sink.old sink.new t → TroubleCause {T = Fate} sink.before sink.now (Err t) → EndsAs says n [] false source sink (status_after t)
      by_trouble trouble.Memory y c = (wanted-first grows y, a, c)
      by_trouble trouble.Write y c = (begun-first y, omega (arith, a), c)

pub some-not-none : (r r' : Option Report) → r ≡ r' → IsSome r' → r ≡ None → ⊥
some-not-none r None e is none = let bad : false ≡ true = is in cc
some-not-none r (Some x) e is none = cc

-- ---- the end of the output

-- The whole text was written, and the sink is closed without a fault.
all-closed : (says : List ℕ → Bool → Said → Type 0) (w : List ℕ) (e : Bool) (r : Option Report) (old mid new : Option (List ℕ)) (before count now : ℕ)
    → WritesAll says w e r (change old mid before count) → Keeps mid new → WritesAll says w e r (change old new before now)
all-closed says w e r old mid new before count now all kept = record {
  said = all.said;
  is_said = all.is_said;
  reports = all.reports;
  appended = appends-kept-after _ _ _ _ all.appended kept;
}

pub closed : (says : List ℕ → Bool → Said → Type 0) (n : ℕ) (source : StreamChange) (old mid new : Option (List ℕ)) (before count now : ℕ) (s : Status)
    → is_whole s ≡ true → Ran says n source (change old mid before count) s → Keeps mid new → now ≡ count
    → Ran says n source (change old new before now) s
closed says n source old mid new before count now s whole ran kept same = record { w = ran.w; e = ran.e; read = ran.read; ended = ran.ended; ends = by s whole ran.ends }
  where
    by : (s : Status) → is_whole s ≡ true → EndsAs says n ran.w ran.e source (change old mid before count) s → EndsAs says n ran.w ran.e source (change old new before now) s
    by Done h t = (t.0, all-closed says _ _ _ _ _ _ _ count _ t.1 kept, t.2, same ∙ t.3)
    by (Rejected r) h t = (t.0, all-closed says _ _ _ _ _ _ _ count _ t.1 kept, t.2, same ∙ t.3)
    by (TooLong r) h t = (t.0, all-closed says _ _ _ _ _ _ _ count _ t.1 kept, t.2, same ∙ t.3)
    by ReadFault h t = (t.0, all-closed says _ _ _ _ _ _ _ count _ t.1 kept, t.2, same ∙ t.3)
    by InputTooLong h t = absurd t
    by _ h t = let bad : false ≡ true = h in cc

-- The whole text was written, and then the sink failed.
late : {Plan : Type 0} (says : Plan → List ℕ → Bool → Said → Type 0) (p : Plan)
    → ((q : Plan) (v x : List ℕ) (d : Bool) (a b : Said) → says q v false a → says q (v ++ x) d b → IsPrefix a.text b.text)
    → (n : ℕ) (w : List ℕ) (e : Bool) (r : Option Report) (old mid new : Option (List ℕ)) (before count now : ℕ)
    → (earlier : Said) × says p w false earlier
    → WritesAll (says p) w e r (change old mid before count) → Keeps mid new → WritesBegun (says p) n w e (change old new before now)
late says p grows n w e r old mid new before count now (earlier, h) all kept = record {
  said = all.said;
  is_said = all.is_said;
  added = all.said.text;
  appended = appends-kept-after _ _ _ _ all.appended kept;
  front = prefix-whole all.said.text;
  begun = λ more. (w, [], earlier, append-nil w, omega arith, h, grows p w [] e earlier all.said h (subst (λ z. says p z e all.said) (append-nil w) all.is_said));
}

pub close-fails : {Plan : Type 0} (says : Plan → List ℕ → Bool → Said → Type 0) (p : Plan)
    → ((q : Plan) (v x : List ℕ) (d : Bool) (a b : Said) → says q v false a → says q (v ++ x) d b → IsPrefix a.text b.text)
    → (n : ℕ) (source : StreamChange) (old mid new : Option (List ℕ)) (before count now : ℕ) (s : Status)
    → is_whole s ≡ true → Pumped (says p) n source (change old mid before count) s → Keeps mid new → count ≤ now → Rose count now
    → Ran (says p) n source (change old new before now) WriteFault
close-fails says p grows n source old mid new before count now s whole (ran, opened) kept later rose = record { w = ran.w; e = ran.e; read = ran.read; ended = ran.ended; ends = by s whole (opened whole) ran.ends }
  where
    by : (s : Status) → is_whole s ≡ true → (earlier : Said) × says p ran.w false earlier → EndsAs (says p) n ran.w ran.e source (change old mid before count) s → EndsAs (says p) n ran.w ran.e source (change old new before now) WriteFault
    by Done h o t = (late says p grows n _ _ _ _ _ _ _ count _ o t.1 kept, omega (arith, t.2), (omega (arith, t.3, later), omega (arith, t.3, rose)))
    by (Rejected r) h o t = (late says p grows n _ _ _ _ _ _ _ count _ o t.1 kept, omega (arith, t.2), (omega (arith, t.3, later), omega (arith, t.3, rose)))
    by (TooLong r) h o t = (late says p grows n _ _ _ _ _ _ _ count _ o t.1 kept, omega (arith, t.2), (omega (arith, t.3, later), omega (arith, t.3, rose)))
    by ReadFault h o t = (late says p grows n _ _ _ _ _ _ _ count _ o t.1 kept, omega (arith, t.2), (omega (arith, t.3, later), omega (arith, t.3, rose)))
    by InputTooLong h o t = absurd t
    by _ h o t = let bad : false ≡ true = h in cc
