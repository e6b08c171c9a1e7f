-- A text is viable where its row has a mark, and has a parse where the end is marked.
use Rattle.std.proofs.Common.{◌≡◌, ℕ, ◌+◌, ◌<◌, true, false, List, [], ◌∷◌, ◌++◌, inl, ⊎_elim, length, refl, sym, ap, ap₂, subst, ◌∙◌, append-nil, length-append, arith, true≢false}
use Rattle.std.specs.Prelude.{Option, Some, None, IfSome, IfNone, is_some}
use Rattle.kex_code.specs.Codes.{bytes_of}
use Rattle.kex_model.specs.Moves.{Move, accept, Step, to_left, to_right, took, chose, went, Allows, reads, goes_left, goes_right, goes_forced, goes, target_of, code_of, Walk, Waits, IsWaiting}
use Rattle.kex_model.proofs.Walks.{bytes_of-append}
use Rattle.kex_model.proofs.Derivations.{walk-append, code_of-append}
use Rattle.kex_machine.specs.declared.MNode.{MNode}
use Rattle.kex_machine.specs.Nodes.{Graph, node_moves, MoveBelow, StaysWithin}
use Rattle.kex_machine.specs.Answers.{IsViableFor, HasRun}
use Rattle.kex_machine.proofs.Nexts.{IsTrim, reached_by}
use Rattle.kex_machine.proofs.CutWalks.{cut}
use Rattle.kex_machine.proofs.LongestFronts.{viable_before, longest_self, longest_later}
use Rattle.kex_frontier.specs.Rows.{has_mark, HasSomeMark, AlsoMarks, IsReachedQuietly, IsClosureOf, IsMarkRow}
use Rattle.kex_frontier.specs.Matchers.{Match, IsDeadAt, WasFed}

step_within : (c : ℕ) (v : Move ℕ) (k : Step ℕ) → MoveBelow c v → Allows v k → target_of k < c
step_within c v k h (reads i) = h
step_within c v k h goes_left = h.0
step_within c v k h goes_right = h.1
step_within c v k h goes_forced = h
step_within c v k h goes = h

walk_within : (nodes : List MNode) → StaysWithin nodes → (ks : List (Step ℕ)) (s t : ℕ) → s < length nodes → Walk (node_moves nodes) s ks t → t < length nodes
walk_within nodes within [] s t lt w = subst (λ z. z < length nodes) w lt
walk_within nodes within (k ∷ ks) s t lt w = walk_within nodes within ks (target_of k) t (step_within (length nodes) (node_moves nodes s) k (within s lt) w.0) w.1

-- on the way to the end there is a place that waits, before any byte
waits_ahead : (nodes : List MNode) (ks : List (Step ℕ)) (n e : ℕ) → Walk (node_moves nodes) n ks e → node_moves nodes e ≡ accept → (p : ℕ) × IsReachedQuietly nodes n p × Waits (node_moves nodes) p
waits_ahead nodes [] n e w acc = (n, ([], refl, refl), subst (λ z. IsWaiting z) (sym (ap (node_moves nodes) w ∙ acc)) tt)
waits_ahead nodes (took b u ∷ ks) n e w acc = (n, ([], refl, refl), byte_waits w.0)
  where
    byte_waits : {v : Move ℕ} {b u : ℕ} → Allows v (took b u) → IsWaiting v
    byte_waits (reads h) = tt
waits_ahead nodes (chose to_left u ∷ ks) n e w acc = let (p, (js, q, s), h) = waits_ahead nodes ks u e w.1 acc in (p, (chose to_left u ∷ js, (w.0, q), s), h)
waits_ahead nodes (chose to_right u ∷ ks) n e w acc = let (p, (js, q, s), h) = waits_ahead nodes ks u e w.1 acc in (p, (chose to_right u ∷ js, (w.0, q), s), h)
waits_ahead nodes (went x u ∷ ks) n e w acc = let (p, (js, q, s), h) = waits_ahead nodes ks u e w.1 acc in (p, (went x u ∷ js, (w.0, q), s), h)

module _ (g : Graph) (trim : IsTrim (node_moves g.nodes) g.start) where
  abbrev ms : ℕ → Move ℕ
  ms = node_moves g.nodes

  pub viable_by_mark : (w : List ℕ) (row : List ℕ) (n : ℕ) → IsMarkRow g w row → has_mark row n ≡ true → IsViableFor g w
  viable_by_mark w row n r h =
      let (ks, walk, e) = r.real n h in
      let (ls, end, on, acc) = trim.ends n in
      let (p, (js, q, s), waits) = waits_ahead g.nodes ls n end on acc in
      let r = reached_by ms g.start trim w p (ks ++ js) (walk-append ms ks js g.start n p walk q) waits (ap bytes_of (code_of-append ks js) ∙ bytes_of-append (code_of ks) (code_of js) ∙ ap₂ (λ x y. x ++ y) e s ∙ append-nil w) in
      (p, (r.0, r.1, trim.ends p))

  pub mark_by_viable : (w : List ℕ) (row : List ℕ) → IsMarkRow g w row → IsViableFor g w → (n : ℕ) × (has_mark row n ≡ true) × ((within : StaysWithin g.nodes) → g.start < length g.nodes → n < length g.nodes)
  mark_by_viable w row r (p, (c, (ks, path, e), end)) = (p, r.all p ks path.walk path.reads, λ within lt. walk_within g.nodes within ks g.start p lt path.walk)

-- ---- a matcher that was fed w is fed a byte

module _ (m n : Match) (w : List ℕ) (b : ℕ) (same : n.machine ≡ m.machine) (trim : IsTrim (node_moves m.machine.nodes) m.machine.start) (fed : WasFed m w) where
  abbrev v : List ℕ
  v = w ++ b ∷ []

  abbrev does : ℕ → Move ℕ
  does = node_moves m.machine.nodes

  pub fed_dead : m.dead ≡ true → n ≡ m → WasFed n v
  fed_dead dead is =
      let old = fed.dead dead in
      subst (λ z. WasFed z v) (sym is) (record {
        row = record {
          real = λ p h. absurd (old.0 (viable_by_mark m.machine trim w m.row p fed.row h));
          all = λ q ks walk e. let c = cut does ks m.machine.start q w b [] walk e in absurd (old.0 (viable_by_mark m.machine trim w m.row c.at fed.row (fed.row.all c.at c.front c.first c.front_bytes)));
        };
        good = λ live. cc;
        dead = λ _.
            let gone : ¬ IsViableFor m.machine v = λ h. old.0 (viable_before m.machine trim w b h) in
            (gone, (old.1.0, longest_later does m.machine.start w old.1.0 b old.1.1 gone, old.1.2));
      })

  pub fed_on : m.dead ≡ false → IsMarkRow m.machine v n.row → n.dead ≡ false → n.good ≡ m.good + 1 → (p : ℕ) → has_mark n.row p ≡ true → WasFed n v
  fed_on live r e good p h = record {
    row = subst (λ z. IsMarkRow z v n.row) (sym same) r;
    good = λ _. (subst (λ z. IsViableFor z v) (sym same) (viable_by_mark m.machine trim v n.row p r h), (let long : length v ≡ length w + 1 = length-append w (b ∷ []) in let was : m.good ≡ length w = (fed.good live).1 in omega arith));
    dead = λ d. cc;
  }

  pub fed_dies : m.dead ≡ false → IsMarkRow m.machine v n.row → StaysWithin m.machine.nodes → m.machine.start < length m.machine.nodes → n.dead ≡ true → n.good ≡ m.good → ((p : ℕ) → p < length m.machine.nodes → has_mark n.row p ≡ false) → WasFed n v
  fed_dies live r within start e good none =
      let gone : ¬ IsViableFor m.machine v = λ h. let (p, marked, lt) = mark_by_viable m.machine trim v n.row r h in true≢false (sym marked ∙ none p (lt within start)) in
      record {
        row = subst (λ z. IsMarkRow z v n.row) (sym same) r;
        good = λ live. cc;
        dead = λ _. subst (λ z. IsDeadAt z v n.good) (sym same) (gone, (w, longest_later does m.machine.start w w b (longest_self does m.machine.start w (fed.good live).0) gone, sym (good ∙ (fed.good live).1)));
      }

-- a matcher that was fed w takes bytes whose steps are known
pub fed_along : (m n : Match) (w bs : List ℕ) → n.machine ≡ m.machine → IsTrim (node_moves m.machine.nodes) m.machine.start → m.dead ≡ false → n.dead ≡ false → WasFed m w → IsMarkRow m.machine (w ++ bs) n.row → n.good ≡ m.good + length bs → (0 < length bs → HasSomeMark n.row) → WasFed n (w ++ bs)
fed_along m n w bs same trim live on fed r good mark = record {
  row = subst (λ z. IsMarkRow z (w ++ bs) n.row) (sym same) r;
  good = λ _. (
    subst (λ z. IsViableFor z (w ++ bs)) (sym same) (viable bs mark r),
    (let long : length (w ++ bs) ≡ length w + length bs = length-append w bs in let was : m.good ≡ length w = (fed.good live).1 in omega arith),
  );
  dead = λ d. cc;
}
  where
    viable : (bs : List ℕ) → (0 < length bs → HasSomeMark n.row) → IsMarkRow m.machine (w ++ bs) n.row → IsViableFor m.machine (w ++ bs)
    viable [] mark r = subst (λ z. IsViableFor m.machine z) (sym (append-nil w)) (fed.good live).0
    viable (b ∷ bs) mark r = let (p, h) = mark (omega arith) in viable_by_mark m.machine trim (w ++ b ∷ bs) n.row p r h

-- the row of the empty text
pub row_starts : (g : Graph) (first marked new : List ℕ) → ((n : ℕ) → has_mark first n ≡ false) → AlsoMarks (g.start ∷ []) first marked → IsClosureOf g.nodes marked new → IsMarkRow g [] new
row_starts g first marked new none k s = record {
  real = λ n h.
      let r = s.real n h in
      let at : g.start ≡ r.0 = ⊎_elim (λ o. absurd (true≢false (sym o ∙ none r.0))) (λ i. ⊎_elim (λ e. e) (λ z. absurd z) i) (k.only r.0 r.1) in
      (r.2.0, subst (λ z. Walk (node_moves g.nodes) z r.2.0 n) (sym at) r.2.1, r.2.2);
  all = λ n ks walk e. s.all g.start n (k.added g.start (inl refl)) (ks, walk, e);
}

pub fed_nothing : (m : Match) → IsTrim (node_moves m.machine.nodes) m.machine.start → IsMarkRow m.machine [] m.row → m.good ≡ 0 → m.dead ≡ false → WasFed m []
fed_nothing m trim r good live = record {
  row = r;
  good = λ _. (viable_by_mark m.machine trim [] m.row m.machine.start r (r.all m.machine.start [] refl refl), good);
  dead = λ d. cc;
}

-- ---- the end

pub parse_by_mark : (g : Graph) (w : List ℕ) (row : List ℕ) (n : ℕ) → IsMarkRow g w row → has_mark row n ≡ true → node_moves g.nodes n ≡ accept → HasRun g w
parse_by_mark g w row n r h acc = let (ks, walk, e) = r.real n h in (ks, (n, walk, acc), e)

pub mark_by_parse : (g : Graph) (w : List ℕ) (row : List ℕ) → StaysWithin g.nodes → g.start < length g.nodes → IsMarkRow g w row → HasRun g w → (n : ℕ) × (n < length g.nodes) × (has_mark row n ≡ true) × (node_moves g.nodes n ≡ accept)
mark_by_parse g w row within start r (ks, (e, walk, acc), q) = (e, walk_within g.nodes within ks g.start e start walk, r.all e ks walk q, acc)

pub some_of : {X : Type 0} {P : X → Type 0} (r : Option X) → is_some r ≡ true → IfSome r P → (x : X) × P x
some_of None e p = cc
some_of (Some x) e p = (x, p)

pub none_of : {X P : Type 0} (r : Option X) → is_some r ≡ false → IfNone r P → P
none_of None e p = p
none_of (Some x) e p = cc
