-- What a runner stands for when it is fed a piece, and at the end.
use Rattle.std.proofs.Common.{◌≡◌, ℕ, ◌+◌, ◌<◌, ◌≤◌, Bool, true, false, List, [], ◌∷◌, ◌++◌, inl, inr, ⊎_elim, Option, Some, None, length, get_or, take, drop, refl, sym, ap, subst, ◌∙◌, append_assoc, append-nil, length-append, arith}
use Rattle.std.proofs.lemmas.List.{take_all, take_more, take-append-drop, drop_more, length-take-le}
use Rattle.kex_code.specs.declared.symbol.Symbol.{Symbol}
use Rattle.kex_sst.specs.declared.parts.Part.{Part}
use Rattle.kex_sst.specs.Parts.{parts_code}
use Rattle.kex_sst.specs.Tables.{Transducer}
use Rattle.kex_sst.specs.Passes.{Pass, first_pass, passes, passes_if, whole_code}
use Rattle.kex_sst.proofs.Passes.{passes_more, passes_none}
use Rattle.kex_runner.specs.declared.answers.Fed.{Fed}
use Rattle.kex_runner.specs.declared.answers.Fed.TheVariants.{On, Dead}
use Rattle.kex_runner.specs.declared.answers.Ended.TheVariants.{Parsed, Cut}
use Rattle.kex_runner.specs.Following.{Follows, pass_at}
use Rattle.kex_runner.specs.Running.{Running, pass_of, StopsBehind, HasPassed, IsRunnerDead, IsRunOf, RunnerFeeds, HasNoEnd, RunnerEnds, runner_answer}

pub passes_on : (t : Transducer) (w v : List ℕ) (p : Pass) → passes t w ≡ Some p → passes t (w ++ v) ≡ passes_if t (Some p) v
passes_on t w v p e = passes_more t (Some (first_pass t.initial)) w v ∙ ap (λ z. passes_if t z v) e

-- where the table has stopped it goes on no more
pub stopped_none : {t : Transducer} {w v : List ℕ} → StopsBehind t w v → passes t w ≡ None
stopped_none {t} {w} {v} h =
    ap (λ z. passes t z) (h.front ∙ sym (append_assoc v (h.byte ∷ []) h.rest))
    ∙ passes_more t (Some (first_pass t.initial)) (v ++ h.byte ∷ []) h.rest
    ∙ ap (λ z. passes_if t z h.rest) h.stops
    ∙ passes_none t h.rest

pub dead_stands : {r : Running} {w : List ℕ} {c : List Symbol} → r.dead ≡ true → IsRunOf r w c → IsRunnerDead r w c
dead_stands d s = ⊎_elim (λ l. let bad : ⊥ = false_true (sym l.0 ∙ d) in absurd bad) (λ x. x) s
  where
    false_true : false ≡ true → ⊥
    false_true e = cc

pub live_stands : {r : Running} {w : List ℕ} {c : List Symbol} → r.dead ≡ false → IsRunOf r w c → HasPassed r w c
live_stands d s = ⊎_elim (λ l. l.1) (λ x. let bad : ⊥ = false_true (sym d ∙ x.0) in absurd bad) s
  where
    false_true : false ≡ true → ⊥
    false_true e = cc

no_end : (t : Transducer) (o : Option Pass) → o ≡ None → HasNoEnd t o
no_end t o e = subst (λ z. HasNoEnd t z) (sym e) tt

-- the end where a byte was refused
pub ends_dead : (r : Running) (before after : List Symbol) → r.dead ≡ true → after ≡ before ++ r.pending → RunnerEnds Cut r before after
ends_dead r before after d e = record {
  more = r.pending;
  code = e;
  over = λ w c s.
      let x : IsRunnerDead r w c = dead_stands {r = r} d s in (
        no_end r.table (passes r.table w) (stopped_none x.1.1),
        record { of = x.1.0; longest = inr x.1.1; pass = pass_of r c; passes = x.1.2.passes; code = refl },
      );
}

-- the end where nothing ends
pub ends_cut : (r : Running) (before after : List Symbol) → r.dead ≡ false → after ≡ before ++ r.pending → ((p : Pass) → p.state ≡ r.state → whole_code r.table p ≡ None) → RunnerEnds Cut r before after
ends_cut r before after d e none = record {
  more = r.pending;
  code = e;
  over = λ w c s.
      let x : HasPassed r w c = live_stands {r = r} d s in (
        subst (λ z. HasNoEnd r.table z) (sym x.passes) (none (pass_of r c) refl),
        record { of = w; longest = inl refl; pass = pass_of r c; passes = x.passes; code = refl },
      );
}

-- the end where the table ends
pub ends_parsed : (r : Running) (way : List Part) (before after : List Symbol) → r.dead ≡ false → after ≡ (before ++ r.pending) ++ parts_code r.registers 0 way → ((p : Pass) → p.state ≡ r.state → whole_code r.table p ≡ Some (p.code ++ parts_code p.registers 0 way)) → RunnerEnds Parsed r before after
ends_parsed r way before after d e some = record {
  more = r.pending ++ parts_code r.registers 0 way;
  code = e ∙ append_assoc before r.pending (parts_code r.registers 0 way);
  over = λ w c s.
      let x : HasPassed r w c = live_stands {r = r} d s in
      (pass_of r c, x.passes, some (pass_of r c) refl ∙ ap (λ z. Some z) (append_assoc c r.pending (parts_code r.registers 0 way)));
}

-- a runner that a piece was fed to, and has refused or not
abbrev pub fed : Running → ℕ → List (List Symbol) → ℕ → Bool → Running
fed r state registers count dead = record { table = r.table; words = r.words; state = state; pending = []; registers = registers; read = r.read + count; dead = dead; ended = r.ended; usable = true }

module _ (r : Running) (piece : List ℕ) (count state : ℕ) (registers : List (List Symbol)) (before mid after : List Symbol) (live : r.dead ≡ false) (first : mid ≡ before ++ r.pending) (f : Follows r.table r.state r.registers piece count state registers mid after) where
  added : after ≡ before ++ (r.pending ++ f.more)
  added = f.code ∙ ap (λ z. z ++ f.more) first ∙ append_assoc before r.pending f.more

  -- along the bytes that are taken
  along : {w : List ℕ} {c : List Symbol} → HasPassed r w c → passes r.table (w ++ take count piece) ≡ Some (pass_at state (c ++ (r.pending ++ f.more)) registers)
  along {w} {c} h = passes_on r.table w (take count piece) (pass_of r c) h.passes ∙ f.goes (c ++ r.pending) ∙ ap (λ z. Some (pass_at state z registers)) (append_assoc c r.pending f.more)

  taken : (dead : Bool) {w : List ℕ} {c : List Symbol} → HasPassed r w c → HasPassed (fed r state registers count dead) (w ++ take count piece) (c ++ (r.pending ++ f.more))
  taken dead {w} {c} h = record {
    passes = along h ∙ ap (λ z. Some (pass_at state z registers)) (sym (append-nil (c ++ (r.pending ++ f.more))));
    count = omega (arith, h.count, length-append w (take count piece), length-take-le count piece f.within);
  }

  pub feeds_on : length piece ≤ count → RunnerFeeds On r (fed r state registers count false) piece before after
  feeds_on le =
      let all : take count piece ≡ piece = take_all count piece le in
      record {
        more = r.pending ++ f.more;
        code = added;
        fed = λ w c s.
            let h : HasPassed r w c = live_stands {r = r} live s in (
              subst (λ z. passes r.table (w ++ z) ≡ Some (pass_at state (c ++ (r.pending ++ f.more)) registers)) all (along h),
              inl (refl, subst (λ z. HasPassed (fed r state registers count false) (w ++ z) (c ++ (r.pending ++ f.more))) all (taken false h)),
            );
        told = refl;
      }

  pub feeds_dead : count < length piece → RunnerFeeds Dead r (fed r state registers count true) piece before after
  feeds_dead lt = record {
    more = r.pending ++ f.more;
    code = added;
    fed = λ w c s.
        let h : HasPassed r w c = live_stands {r = r} live s in
        let stop = stops h in
        (stopped_none stop, inr (refl, (w ++ take count piece, stop, taken true h)));
    told = refl;
  }
    where
      stops : {w : List ℕ} {c : List Symbol} → HasPassed r w c → StopsBehind r.table (w ++ piece) (w ++ take count piece)
      stops {w} {c} h = record {
        byte = get_or piece count 0;
        rest = drop (count + 1) piece;
        front = ap (λ z. w ++ z) (sym (take-append-drop count piece) ∙ ap (λ z. take count piece ++ z) (drop_more piece count 0 lt)) ∙ sym (append_assoc w (take count piece) (get_or piece count 0 ∷ drop (count + 1) piece));
        stops =
            ap (λ z. passes r.table z) (append_assoc w (take count piece) (get_or piece count 0 ∷ []) ∙ ap (λ z. w ++ z) (sym (take_more piece count 0 lt)))
            ∙ passes_on r.table w (take (count + 1) piece) (pass_of r c) h.passes
            ∙ f.stops (c ++ r.pending) lt;
      }

-- a piece is taken as far as the table goes on
pub feeds : (r : Running) (piece : List ℕ) (count state : ℕ) (registers : List (List Symbol)) (before mid after : List Symbol) (dead : Bool) → r.dead ≡ false → mid ≡ before ++ r.pending → Follows r.table r.state r.registers piece count state registers mid after → (dead ≡ true → count < length piece) → (dead ≡ false → length piece ≤ count) → RunnerFeeds (runner_answer dead) r (fed r state registers count dead) piece before after
feeds r piece count state registers before mid after true live first f lt le = feeds_dead r piece count state registers before mid after live first f (lt refl)
feeds r piece count state registers before mid after false live first f lt le = feeds_on r piece count state registers before mid after live first f (le refl)

-- a runner that has refused a byte is fed more
pub feeds_after : (r : Running) (piece : List ℕ) (before after : List Symbol) → r.dead ≡ true → after ≡ before ++ r.pending → RunnerFeeds Dead r (record { table = r.table; words = r.words; state = r.state; pending = []; registers = r.registers; read = r.read; dead = r.dead; ended = r.ended; usable = true }) piece before after
feeds_after r piece before after d e = record {
  more = r.pending;
  code = e;
  fed = λ w c s.
      let x : IsRunnerDead r w c = dead_stands {r = r} d s in
      let stop : StopsBehind r.table (w ++ piece) x.1.0 = record {
        byte = x.1.1.byte;
        rest = x.1.1.rest ++ piece;
        front = ap (λ z. z ++ piece) x.1.1.front ∙ append_assoc x.1.0 (x.1.1.byte ∷ x.1.1.rest) piece;
        stops = x.1.1.stops;
      } in (
        stopped_none stop,
        inr (
          d,
          (
            x.1.0,
            stop,
            record {
              passes = x.1.2.passes ∙ ap (λ z. Some (pass_at r.state z r.registers)) (sym (append-nil (c ++ r.pending)));
              count = x.1.2.count;
            },
          ),
        ),
      );
  told = refl;
}

-- a runner jumps to where the table is after more bytes
pub jumps : (r : Running) (state bytes : ℕ) (w v : List ℕ) (c d : List Symbol) → r.pending ≡ [] → IsRunOf r w c → length v ≡ bytes → passes r.table (w ++ v) ≡ Some (pass_at state (c ++ d) []) → IsRunOf (record r { state = state; registers = []; read = r.read + bytes }) (w ++ v) (c ++ d)
jumps r state bytes w v c d none s count e =
    ⊎_elim
    (λ l. inl (
      l.0,
      record {
        passes = e ∙ ap (λ z. Some (pass_at state z [])) (sym (append-nil (c ++ d)) ∙ ap (λ z. (c ++ d) ++ z) (sym none));
        count = omega (arith, l.1.count, count, length-append w v);
      },
    ))
    (λ x. absurd (no_pass (sym (passes_more r.table (Some (first_pass r.table.initial)) w v ∙ ap (λ z. passes_if r.table z v) (stopped_none x.1.1) ∙ passes_none r.table v) ∙ e)))
    s
  where
    no_pass : {p : Pass} → None ≡ Some p → ⊥
    no_pass e = cc

-- what is pending is nothing
pub none_pending : (answer : Fed) (r n : Running) (piece : List ℕ) (before after : List Symbol) (pending : List Symbol) → pending ≡ [] → RunnerFeeds answer r (record n { pending = [] }) piece before after → RunnerFeeds answer r (record n { pending = pending }) piece before after
none_pending answer r n piece before after pending e f = subst (λ z. RunnerFeeds answer r (record n { pending = z }) piece before after) (sym e) f
