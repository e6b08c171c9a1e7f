-- The row of a text with one byte more.
use Rattle.std.proofs.Common.{◌≡◌, ℕ, ◌<◌, ◌≤◌, Bool, true, false, if◌then◌else◌, List, [], ◌∷◌, ◌++◌, ◌⊎◌, inl, inr, ⊎_elim, length, get_or, refl, sym, ap, ap₂, subst, ◌∙◌, append-nil, append_assoc, arith, true≢false}
use Rattle.std.proofs.lemmas.Bool.{cases_eq}
use Rattle.kex_code.specs.declared.symbol.Symbol.TheVariants.{Byte}
use Rattle.kex_code.specs.Codes.{bytes_of, IsAmong}
use Rattle.kex_model.specs.Moves.{Move, accept, read, choose, forced, go, took, Allows, reads, code_of}
use Rattle.kex_model.proofs.Walks.{bytes_of-append}
use Rattle.kex_model.proofs.Derivations.{walk-append, code_of-append}
use Rattle.kex_machine.specs.declared.MNode.{MNode}
use Rattle.kex_byteset.specs.Classes.{class_at}
use Rattle.kex_machine.specs.Nodes.{Graph, node_moves, HasClasses}
use Rattle.kex_machine.proofs.Classes.{lead_alike}
use Rattle.kex_machine.proofs.CutWalks.{cut}
use Rattle.kex_frontier.specs.Rows.{has_mark, IsHighestBelow, AlsoMarks, byte_ways, IsByteStep, AreByteSteps, IsClosureOf, IsMarkRow}

pub byte_step : {S : Type 0} (v : Move S) (b : ℕ) (t : S) → IsAmong (byte_ways v b) t → Allows v (took b t)
byte_step accept b t i = absurd i
byte_step (read set u) b t i = by (get_or set b false) refl i
  where
    by : (x : Bool) → get_or set b false ≡ x → IsAmong (if x then u ∷ [] else []) t → Allows (read set u) (took b t)
    by true e (inl same) = subst (λ z. Allows (read set u) (took b z)) same (reads e)
    by true e (inr i) = absurd i
    by false e i = absurd i
byte_step (choose l r) b t i = absurd i
byte_step (forced x u) b t i = absurd i
byte_step (go e u) b t i = absurd i

pub is_byte_way : {S : Type 0} {v : Move S} {b : ℕ} {t : S} → Allows v (took b t) → IsAmong (byte_ways v b) t
is_byte_way (reads {set = set} {b = b} {s = s} i) = subst (λ z. IsAmong (if z then s ∷ [] else []) s) (sym i) (inl refl)

split : (a b : ℕ) → (a ≤ b) ⊎ (b < a)
split a b = grind arith

module _ (nodes : List MNode) where
  abbrev f : ℕ → Move ℕ
  f n = node_moves nodes n

  -- where the byte leads from the places from `left` on that are marked
  pub record Entering (b : ℕ) (now first next : List ℕ) (left : ℕ) : Type 0 where
    pub room : length next ≡ length first
    pub real : (t : ℕ) → has_mark next t ≡ true → (p : ℕ) × (has_mark now p ≡ true) × IsAmong (byte_ways (f p) b) t
    pub all : (p t : ℕ) → left ≤ p → has_mark now p ≡ true → IsAmong (byte_ways (f p) b) t → has_mark next t ≡ true

  pub enter_on : (b : ℕ) (now first next new : List ℕ) (left n : ℕ) → Entering b now first next left → IsHighestBelow now left n → AlsoMarks (byte_ways (f n) b) next new → Entering b now first new n
  enter_on b now first next new left n h top k = record {
    room = k.room ∙ h.room;
    real = λ t q. ⊎_elim (λ j. h.real t j) (λ i. (n, top.marked, i)) (k.only t q);
    all = λ p t le q i.
        ⊎_elim
        (λ at. k.added t (subst (λ z. IsAmong (byte_ways (f z) b) t) at i))
        (λ ne. ⊎_elim (λ far. k.kept t (h.all p t far q i)) (λ near. absurd (true≢false (sym q ∙ top.highest p (above n p le ne) near))) (split left p))
        (cases_eq p n);
  }
    where
      above : (n q : ℕ) → n ≤ q → (q ≡ n → ⊥) → n < q
      above n q le ne = grind arith

module _ (nodes : List MNode) where
  abbrev moves : ℕ → Move ℕ
  moves n = node_moves nodes n

  -- all places that were marked have been gone through, and the marks are spread
  pub step_is : (b : ℕ) (now first next new : List ℕ) (left : ℕ) → Entering nodes b now first next left → ((n : ℕ) → n < left → has_mark now n ≡ false) → IsClosureOf nodes next new → IsByteStep nodes b now new
  step_is b now first next new left h none s = record {
    real = λ q e.
        let x = s.real q e in
        let y = h.real x.0 x.1 in
        (y.0, x.0, y.1, y.2, x.2);
    all = λ p t q here i r.
        let from : left ≤ p = ⊎_elim (λ le. le) (λ lt. absurd (true≢false (sym here ∙ none p lt))) (split left p) in
        s.all t q (h.all p t from here i) r;
  }

  -- bytes of one class make the same step
  pub step_alike : (classes : List ℕ) → HasClasses nodes classes → (a b : ℕ) → a < 256 → b < 256 → class_at classes a ≡ class_at classes b → (old new : List ℕ) → IsByteStep nodes a old new → IsByteStep nodes b old new
  step_alike classes h a b la lb same old new s =
      let alike = lead_alike nodes classes h a b la lb same in
      record {
        real = λ n e. let (p, t, m, i, r) = s.real n e in (p, t, m, is_byte_way ((alike p t).0 (byte_step (moves p) a t i)), r);
        all = λ p t n e i r. s.all p t n e (is_byte_way ((alike p t).1 (byte_step (moves p) b t i))) r;
      }

  pub steps_more : (bs : List ℕ) (old mid : List ℕ) (b : ℕ) (new : List ℕ) → AreByteSteps nodes old bs mid → IsByteStep nodes b mid new → AreByteSteps nodes old (bs ++ b ∷ []) new
  steps_more [] old mid b new e s = (new, subst (λ z. IsByteStep nodes b z new) e s, refl)
  steps_more (a ∷ bs) old mid b new (next, s, more) t = (next, s, steps_more bs next mid b new more t)

pub row_more : (g : Graph) (b : ℕ) (w : List ℕ) (now new : List ℕ) → IsMarkRow g w now → IsByteStep g.nodes b now new → IsMarkRow g (w ++ b ∷ []) new
row_more g b w now new r s = record {
  real = λ q e.
      let (p, t, marked, i, reached) = s.real q e in
      let z = r.real p marked in (
        z.0 ++ took b t ∷ reached.0,
        walk-append ms z.0 (took b t ∷ reached.0) g.start p q z.1 (byte_step (ms p) b t i, reached.1),
        ap bytes_of (code_of-append z.0 (took b t ∷ reached.0)) ∙ bytes_of-append (code_of z.0) (Byte b ∷ code_of reached.0) ∙ ap₂ (λ i j. i ++ b ∷ j) z.2 reached.2,
      );
  all = λ q ks walk e.
      let c = cut ms ks g.start q w b [] walk e in
      let here : has_mark now c.at ≡ true = r.all c.at c.front c.first c.front_bytes in
      s.all c.at c.to q here (is_byte_way c.byte) (c.back, c.last, c.back_bytes);
}
  where
    ms : ℕ → Move ℕ
    ms = node_moves g.nodes

pub rows_more : (g : Graph) (bs w : List ℕ) (now new : List ℕ) → IsMarkRow g w now → AreByteSteps g.nodes now bs new → IsMarkRow g (w ++ bs) new
rows_more g [] w now new r e = subst (λ z. IsMarkRow g (w ++ []) z) (sym e) (subst (λ z. IsMarkRow g z now) (sym (append-nil w)) r)
rows_more g (b ∷ bs) w now new r (next, s, more) = subst (λ z. IsMarkRow g z new) (append_assoc w (b ∷ []) bs) (rows_more g bs (w ++ b ∷ []) next new (row_more g b w now next r s) more)
