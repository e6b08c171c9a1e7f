-- Covered survivors: which of them a text leads on from, what is best, and where those that aren't covered come from.
use Rattle.std.proofs.Common.{◌≡◌, ℕ, zero, suc, ◌≤◌, List, [], ◌∷◌, ◌++◌, ◌⊎◌, inl, inr, ⊎_elim, length, refl, sym, ap, ap₂, subst, ◌∙◌, append-nil, append_assoc, arith}
use Rattle.kex_code.specs.declared.symbol.Symbol.{Symbol}
use Rattle.kex_code.specs.declared.symbol.Symbol.TheVariants.{L, R, Byte}
use Rattle.kex_code.specs.Codes.{bytes_of, Begins, Before, AtMost}
use Rattle.kex_model.specs.Moves.{Move, accept, Step, took, chose, went, code_of, Walk, Waits, IsWaiting}
use Rattle.kex_model.specs.Survivors.{NoReturn, IsPath, Reaches, Survives}
use Rattle.kex_model.proofs.Walks.{bytes_of-append}
use Rattle.kex_model.proofs.Derivations.{code_of-append, walk-append}
use Rattle.kex_model.proofs.Orders.{before_more, not_both, before_trans}
use Rattle.kex_machine.specs.Nodes.{Graph, node_moves, IsMachineInRange, IsTrimmed}
use Rattle.kex_machine.specs.Answers.{IsViableFor, IsGreedy}
use Rattle.kex_machine.specs.Covering.{cut_behind, EndsBy, IsFirstBy, IsUncovered, FirstLeads, BestByUncovered, UncoveredComes}
use Rattle.kex_machine.proofs.StraightWalks.{Straight, straight, Split, split, compared, no_side, no_effect, once_front, once_from, once_onward}
use Rattle.kex_machine.proofs.TreesThere.{least_code, greedy_of}
use Rattle.kex_machine.proofs.Ranges.{is_trim}

-- a code of at most n bytes is not cut
pub uncut : (n : ℕ) (c : List Symbol) → length (bytes_of c) ≤ n → cut_behind n c ≡ c
uncut n [] h = refl
uncut n (L ∷ c) h = ap (λ z. L ∷ z) (uncut n c h)
uncut n (R ∷ c) h = ap (λ z. R ∷ z) (uncut n c h)
uncut zero (Byte b ∷ c) h = absurd (omega (arith, h))
uncut (suc n) (Byte b ∷ c) h = ap (λ z. Byte b ∷ z) (uncut n c (omega (arith, h)))

-- a code is cut after the bytes of its front
pub cut_at_byte : (c : List Symbol) (b : ℕ) (d : List Symbol) → cut_behind (length (bytes_of c)) (c ++ Byte b ∷ d) ≡ c
cut_at_byte [] b d = refl
cut_at_byte (L ∷ c) b d = ap (λ z. L ∷ z) (cut_at_byte c b d)
cut_at_byte (R ∷ c) b d = ap (λ z. R ∷ z) (cut_at_byte c b d)
cut_at_byte (Byte x ∷ c) b d = ap (λ z. Byte x ∷ z) (cut_at_byte c b d)

at_most_not_before : (c d : List Symbol) → AtMost c d → Before d c → ⊥
at_most_not_before c d h b = ⊎_elim (λ e. not_both c c (subst (λ z. Before z c) (sym e) b) (subst (λ z. Before z c) (sym e) b)) (λ b'. not_both c d b' b) h

at_most_before : (c d e : List Symbol) → AtMost c d → Before d e → Before c e
at_most_before c d e h b = ⊎_elim (λ f. subst (λ z. Before z e) (sym f) b) (λ b'. before_trans c d e b' b) h

module _ (g : Graph) (range : IsMachineInRange g.start g.nodes g.registers) (trimmed : IsTrimmed g) where
  abbrev ms : ℕ → Move ℕ
  ms = node_moves g.nodes

  accept_waits : (e : ℕ) → ms e ≡ accept → Waits ms e
  accept_waits e acc = subst (λ z. IsWaiting z) (sym acc) tt

  -- a path on w, and on from there by a straight walk on x to a waiting place
  pub goes_behind : (w x : List ℕ) (p e : ℕ) (c : List Symbol) → Reaches ms g.start w p c → (r : Straight ms p e x) → Waits ms e → Reaches ms g.start (w ++ x) e (c ++ code_of r.steps)
  goes_behind w x p e c (hs, path, is) r waits = (
    hs ++ r.steps,
    record {
      walk = walk-append ms hs r.steps g.start p e path.walk r.walk;
      waits = waits;
      once = once_onward ms hs r.steps p e (g.start ∷ []) (p ∷ []) path.waits r.walk path.once r.once;
      reads = ap bytes_of (code_of-append hs r.steps) ∙ bytes_of-append (code_of hs) (code_of r.steps) ∙ ap₂ (λ u v. u ++ v) path.reads r.reads;
    },
    code_of-append hs r.steps ∙ ap (λ z. z ++ code_of r.steps) is,
  )

  -- a survivor of a longer text came by one of the shorter
  pub record From (w x : List ℕ) (d : List Symbol) (e : ℕ) : Type 0 where
    pub at : ℕ
    pub code : List Symbol
    pub back : List (Step ℕ)
    pub survives : Survives ms g.start w at code
    pub last : Walk ms at back e
    pub once : NoReturn (at ∷ []) back
    pub back_bytes : bytes_of (code_of back) ≡ x
    pub whole : d ≡ code ++ code_of back

  pub came : (w x : List ℕ) (e : ℕ) (d : List Symbol) → Survives ms g.start (w ++ x) e d → From w x d e
  came w x e d s = record { at = r.at; code = code_of r.front; back = r.back; survives = survives; last = r.last; once = last.once; back_bytes = r.back_bytes; whole = whole }
    where
      ks : List (Step ℕ)
      ks = s.reached.0

      path : IsPath ms g.start (w ++ x) e ks
      path = s.reached.1

      r : Split ms g.start e ks w x
      r = split ms ks g.start e w x path.walk path.waits path.reads

      whole : d ≡ code_of r.front ++ code_of r.back
      whole = sym s.reached.2 ∙ ap code_of r.same ∙ code_of-append r.front r.back

      once : NoReturn (g.start ∷ []) r.front
      once = once_front r.front r.back (g.start ∷ []) (subst (λ z. NoReturn (g.start ∷ []) z) r.same path.once)

      front : IsPath ms g.start w r.at r.front
      front = record { walk = r.first; waits = r.waits; once = once; reads = r.front_bytes }

      -- what comes back nowhere from the place on
      back_once : (js ks : List (Step ℕ)) (seen : List ℕ) → NoReturn seen (js ++ ks) → (many : List ℕ) × NoReturn many ks
      back_once [] ks seen n = (seen, n)
      back_once (took b t ∷ js) ks seen n = back_once js ks (t ∷ []) n
      back_once (chose y t ∷ js) ks seen n = back_once js ks (t ∷ seen) n.1
      back_once (went f t ∷ js) ks seen n = back_once js ks (t ∷ seen) n.1

      last : Straight ms r.at e x
      last = let m = back_once r.front r.back (g.start ∷ []) (subst (λ z. NoReturn (g.start ∷ []) z) r.same path.once) in
          record { steps = r.back; walk = r.last; once = once_from ms r.back r.at e (r.at ∷ []) m.0 r.waits r.last m.1; reads = r.back_bytes }

      least : (c : List Symbol) → Reaches ms g.start w r.at c → AtMost (code_of r.front) c
      least c (js, p, is) =
          ⊎_elim
          (λ same. inl (ap code_of same ∙ is))
          (λ h.
          ⊎_elim
          (λ b. inr (subst (λ z. Before (code_of r.front) z) is b))
          (λ b.
          let other = goes_behind w x r.at e c (js, p, is) last path.waits in
          absurd (at_most_not_before d (c ++ code_of r.back) (s.least (c ++ code_of r.back) other) (subst (λ z. Before (c ++ code_of r.back) z) (sym whole) (before_more c (code_of r.front) (code_of r.back) (code_of r.back) (subst (λ z. Before z (code_of r.front)) is b)))))
          h)
          (compared ms r.front js g.start r.at r.at r.first p.walk r.waits p.waits (r.front_bytes ∙ sym p.reads))

      survives : Survives ms g.start w r.at (code_of r.front)
      survives = record { reached = (r.front, front, refl); alive = (is_trim g trimmed).ends r.at; least = least }

  -- the codes of two survivors are one, or one comes before the other
  pub either_first : (w : List ℕ) (p q : ℕ) (c d : List Symbol) → Survives ms g.start w p c → Survives ms g.start w q d → (c ≡ d) ⊎ (Before c d ⊎ Before d c)
  either_first w p q c d h k =
      let a = h.reached in
      let b = k.reached in
      ⊎_elim
      (λ e. inl (sym a.2 ∙ ap code_of e ∙ b.2))
      (λ r. inr (⊎_elim (λ f. inl (subst (λ z. Before z d) a.2 (subst (λ z. Before (code_of a.0) z) b.2 f))) (λ f. inr (subst (λ z. Before z c) b.2 (subst (λ z. Before (code_of b.0) z) a.2 f))) r))
      (compared ms a.0 b.0 g.start p q a.1.walk b.1.walk a.1.waits b.1.waits (a.1.reads ∙ sym b.1.reads))

  -- the first by a text has one code
  pub one_first : (w x : List ℕ) (p q : ℕ) (c d : List Symbol) → IsFirstBy g w x p c → IsFirstBy g w x q d → c ≡ d
  one_first w x p q c d h k = ⊎_elim (λ e. e) (λ r. ⊎_elim (λ b. absurd (k.none_before p c h.survives b h.ends)) (λ b. absurd (h.none_before q d k.survives b k.ends)) r) (either_first w p q c d h.survives k.survives)

  -- from a waiting place a text begins with its first byte
  cut_of : (w : List ℕ) (p e : ℕ) (c : List Symbol) (back : List (Step ℕ)) → Waits ms p → Walk ms p back e → bytes_of c ≡ w → cut_behind (length w) (c ++ code_of back) ≡ c
  cut_of w p e c [] h walk b = ap (λ z. cut_behind (length w) z) (append-nil c) ∙ uncut (length w) c (omega (arith, ap length b))
  cut_of w p e c (took x t ∷ back) h walk b = ap (λ z. cut_behind z (c ++ Byte x ∷ code_of back)) (sym (ap length b)) ∙ cut_at_byte c x (code_of back)
  cut_of w p e c (chose x t ∷ back) h walk b = absurd (no_side h walk.0)
  cut_of w p e c (went x t ∷ back) h walk b = absurd (no_effect h walk.0)

  pub first_leads : (w x : List ℕ) → FirstLeads g w x
  first_leads w x d greedy = (r.at, r.code, record { survives = r.survives; ends = (r.back, e, r.last, acc, r.back_bytes); none_before = none }, (code_of r.back, r.whole), ap (λ z. cut_behind (length w) z) r.whole ∙ cut_of w r.at e r.code r.back r.survives.reached.1.waits r.last (ap bytes_of (sym r.survives.reached.2) ∙ r.survives.reached.1.reads))
    where
      e : ℕ
      e = greedy.greedy.0

      acc : ms e ≡ accept
      acc = greedy.greedy.1

      r : From w x d e
      r = came w x e d greedy.greedy.2

      none : (q : ℕ) (c : List Symbol) → Survives ms g.start w q c → Before c r.code → EndsBy g q x → ⊥
      none q c s before (js, e', walk, acc', bytes) =
          let t = straight ms js q e' walk in
          let t' : Straight ms q e' x = subst (λ z. Straight ms q e' z) bytes t in
          let reach = goes_behind w x q e' c s.reached t' (accept_waits e' acc') in
          let y = least_code g range trimmed (w ++ x) e' (c ++ code_of t'.steps) reach in
          let up : Before (c ++ code_of t'.steps) d = subst (λ z. Before (c ++ code_of t'.steps) z) (sym r.whole) (before_more c r.code (code_of t'.steps) (code_of r.back) before) in
          at_most_not_before d y.0 (greedy.least y.0 (e', acc', y.1)) (at_most_before y.0 (c ++ code_of t'.steps) d y.2 up)

  -- a first survivor gives a greedy code
  greedy_by : (w x : List ℕ) (p : ℕ) (c : List Symbol) → IsFirstBy g w x p c → (d : List Symbol) × IsGreedy g (w ++ x) d
  greedy_by w x p c h =
      let (js, e, walk, acc, bytes) = h.ends in
      let (hs, path, is) = h.survives.reached in
      let all : Walk ms g.start (hs ++ js) e = walk-append ms hs js g.start p e path.walk walk in
      let text : bytes_of (code_of (hs ++ js)) ≡ w ++ x = ap bytes_of (code_of-append hs js) ∙ bytes_of-append (code_of hs) (code_of js) ∙ ap₂ (λ u v. u ++ v) path.reads bytes in
      let t : Straight ms p e x = subst (λ z. Straight ms p e z) bytes (straight ms js p e walk) in
      greedy_of g range trimmed (w ++ x) (hs ++ js, (e, all, acc), text) (e, (c ++ code_of t.steps, goes_behind w x p e c h.survives.reached t (accept_waits e acc), (is_trim g trimmed).ends e))

  -- the code of a first survivor is what a greedy code is cut to
  cut_is : (w x : List ℕ) (p : ℕ) (c : List Symbol) → IsFirstBy g w x p c → (d : List Symbol) × IsGreedy g (w ++ x) d × (cut_behind (length w) d ≡ c)
  cut_is w x p c h =
      let d = greedy_by w x p c h in
      let f = first_leads w x d.0 d.1 in
      (d.0, d.1, f.4 ∙ one_first w x f.0 p f.1 c f.2 h)

  pub best_is : (w : List ℕ) → BestByUncovered g w
  best_is w = record {
    some = some;
    apart = λ p c covered (x, first). let q = covered x first.ends in first.none_before q.0 q.1 q.2 q.3 q.4;
    best = λ c h. record {
      viable = h.viable;
      common = λ x d greedy. let f = first_leads w x d greedy in subst (λ z. Begins z c) (sym f.4) (h.common f.0 f.1 (x, f.2));
      longest = λ c' all. h.longest c' (λ p d (x, first). let k = cut_is w x p d first in subst (λ z. Begins z c') k.2 (all x k.0 k.1));
    };
    agree = λ c h. record {
      viable = h.viable;
      common = λ p d (x, first). let k = cut_is w x p d first in subst (λ z. Begins z c) k.2 (h.common x k.0 k.1);
      longest = λ c' all. h.longest c' (λ x d greedy. let f = first_leads w x d greedy in subst (λ z. Begins z c') (sym f.4) (all f.0 f.1 (x, f.2)));
    };
  }
    where
      some : IsViableFor g w → (p : ℕ) × (c : List Symbol) × IsUncovered g w p c
      some (p, (c, (hs, path, is), (js, e, walk, acc))) =
          let x = bytes_of (code_of js) in
          let all : Walk ms g.start (hs ++ js) e = walk-append ms hs js g.start p e path.walk walk in
          let text : bytes_of (code_of (hs ++ js)) ≡ w ++ x = ap bytes_of (code_of-append hs js) ∙ bytes_of-append (code_of hs) (code_of js) ∙ ap (λ u. u ++ x) path.reads in
          let t = straight ms js p e walk in
          let d = greedy_of g range trimmed (w ++ x) (hs ++ js, (e, all, acc), text) (e, (c ++ code_of t.steps, goes_behind w x p e c (hs, path, is) t (accept_waits e acc), (is_trim g trimmed).ends e)) in
          let f = first_leads w x d.0 d.1 in
          (f.0, f.1, (x, f.2))

  -- a survivor of a longer text that isn't covered, and the one of the shorter that it came by
  pub uncovered_from : (w : List ℕ) (b q : ℕ) (d : List Symbol) → IsUncovered g (w ++ b ∷ []) q d → (r : From w (b ∷ []) d q) × IsUncovered g w r.at r.code
  uncovered_from w b q d (x, first) = (r, (b ∷ x, record { survives = r.survives; ends = ends; none_before = none }))
    where
      r : From w (b ∷ []) d q
      r = came w (b ∷ []) q d first.survives

      ends : EndsBy g r.at (b ∷ x)
      ends =
          let (js, e, walk, acc, bytes) = first.ends in
          (r.back ++ js, e, walk-append ms r.back js r.at q e r.last walk, acc, ap bytes_of (code_of-append r.back js) ∙ bytes_of-append (code_of r.back) (code_of js) ∙ ap₂ (λ u v. u ++ v) r.back_bytes bytes)

      none : (q' : ℕ) (c : List Symbol) → Survives ms g.start w q' c → Before c r.code → EndsBy g q' (b ∷ x) → ⊥
      none q' c s before (js, e, walk, acc, bytes) =
          let k = split ms js q' e (b ∷ []) x walk (accept_waits e acc) bytes in
          let t : Straight ms q' k.at (b ∷ []) = subst (λ z. Straight ms q' k.at z) k.front_bytes (straight ms k.front q' k.at k.first) in
          let reach = goes_behind w (b ∷ []) q' k.at c s.reached t k.waits in
          let y = least_code g range trimmed (w ++ b ∷ []) k.at (c ++ code_of t.steps) reach in
          let up : Before (c ++ code_of t.steps) d = subst (λ z. Before (c ++ code_of t.steps) z) (sym r.whole) (before_more c r.code (code_of t.steps) (code_of r.back) before) in
          first.none_before k.at y.0 y.1 (at_most_before y.0 (c ++ code_of t.steps) d y.2 up) (k.back, e, k.last, acc, k.back_bytes)

  pub uncovered_comes : (w : List ℕ) (b : ℕ) → UncoveredComes g w b
  uncovered_comes w b q d u =
      let r = uncovered_from w b q d u in
      (r.0.at, r.0.code, r.1, begins r.0 r.0.back r.0.last r.0.back_bytes r.0.whole)
    where
      begins : (r : From w (b ∷ []) d q) (back : List (Step ℕ)) → Walk ms r.at back q → bytes_of (code_of back) ≡ b ∷ [] → d ≡ r.code ++ code_of back → Begins d (r.code ++ Byte b ∷ [])
      begins r [] walk e is = cc
      begins r (took y t ∷ back) walk e is = let same : y ≡ b = cc in (code_of back, is ∙ ap (λ z. r.code ++ Byte z ∷ code_of back) same ∙ sym (append_assoc r.code (Byte b ∷ []) (code_of back)))
      begins r (chose y t ∷ back) walk e is = absurd (no_side r.survives.reached.1.waits walk.0)
      begins r (went y t ∷ back) walk e is = absurd (no_effect r.survives.reached.1.waits walk.0)
