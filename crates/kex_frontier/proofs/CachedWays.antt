-- What is known of where rows lead, and how it grows.
use Rattle.std.proofs.Common.{◌≡◌, ℕ, zero, suc, ◌+◌, ◌*◌, ◌/◌, ◌-◌, ◌<◌, ◌≤◌, List, [], ◌∷◌, ◌++◌, ◌⊎◌, ⊎_elim, length, get_or, set, replicate, refl, sym, ap, subst, ◌∙◌, arith, length-append, length-set, get_or-set_same, get_or-set_other}
use Rattle.std.specs.Prelude.{All, Option, Some, None, IfSome}
use Rattle.std.proofs.Math.Nat.{div-eq_of_lt, le-max_left, le-max_right, mul-add-div_right, mul-div_cancel, mul-le-mul_right}
use Rattle.std.proofs.lemmas.Bool.{cases_eq, cases_lt}
use Rattle.std.proofs.lemmas.List.{get_or-append_right, get_or_append_left, get_or-replicate, get_or_past, get_or_push, length-replicate, length_push}
use Rattle.std.proofs.lemmas.List.Elements.{All-append, All-get_or, All-push, All-replicate, All-set, All-weaker}
use Rattle.kex_byteset.specs.Classes.{class_at, class_count}
use Rattle.kex_machine.specs.declared.MNode.{MNode}
use Rattle.kex_machine.specs.Nodes.{HasClasses}
use Rattle.kex_frontier.specs.Rows.{HasSomeMark, IsByteStep, AreByteSteps}
use Rattle.kex_frontier.specs.Caches.{KeptSteps, ways_from, IsRowStart, IsKeptAt, AreWaysInOrder, with_row, AreWays, KnowsSteps}
use Rattle.kex_frontier.proofs.RowSteps.{step_alike}

-- the class of a byte is below their count
class_below : (classes : List ℕ) (b : ℕ) → b < length classes → class_at classes b < class_count classes
class_below [] b lt = absurd (omega arith)
class_below (c ∷ cs) zero lt = omega (arith, le-max_left (suc c) (class_count cs))
class_below (c ∷ cs) (suc b) lt = omega (arith, class_below cs b (omega arith), le-max_right (suc c) (class_count cs))

-- ---- numbers of rows and classes in one number

pub number_of : (n c k : ℕ) → c < k → (n * k + c) / k ≡ n
number_of n c k lt =
    let some : 0 < k = omega arith in
    let none : c / k ≡ 0 = div-eq_of_lt lt in
    let both : (n * k + c) / k ≡ n + c / k = mul-add-div_right some n c in
    omega (arith, both, none)

pub number_at : (n k : ℕ) → 0 < k → n * k / k ≡ n
number_at n k some = mul-div_cancel n some

same_number : (n m c d k : ℕ) → c < k → d < k → n * k + c ≡ m * k + d → n ≡ m
same_number n m c d k lc ld e = sym (number_of n c k lc) ∙ ap (λ z. z / k) e ∙ number_of m d k ld

same_start : (n m k : ℕ) → 0 < k → n * k ≡ m * k → n ≡ m
same_start n m k some e = sym (number_at n k some) ∙ ap (λ z. z / k) e ∙ number_at m k some

-- a way of a row is among all
pub way_within : (n m c k : ℕ) → n < m → c < k → n * k + c < m * k
way_within n m c k lt lc = let h : suc n * k ≤ m * k = mul-le-mul_right k (omega arith) in omega (arith, h)

way_beyond : (n m c k : ℕ) → m ≤ n → m * k ≤ n * k + c
way_beyond n m c k le = let h : m * k ≤ n * k = mul-le-mul_right k le in omega (arith, h)

-- ---- ways

pub some_value : {X : Type 0} (P : X → Type 0) (o : Option X) (x : X) → o ≡ Some x → IfSome o P → P x
some_value P o x e h = subst (λ z. IfSome z P) e h

abbrev unknown : Option ℕ
unknown = None

-- a way that is known is among all
known_within : (ways : List (Option ℕ)) (i at : ℕ) → get_or ways i None ≡ Some at → i < length ways
known_within ways i at e = ⊎_elim (λ lt. lt) (λ le. none (sym (get_or_past ways i None le) ∙ e)) (cases_lt i (length ways))
  where
    none : {P : Type 0} → None ≡ Some at → P
    none e = cc

pub known_start : (k : KeptSteps) → AreWaysInOrder k → (i at : ℕ) → get_or k.ways i None ≡ Some at → IsRowStart k at
known_start k o i at e = some_value (λ z. IsRowStart k z) (get_or k.ways i None) at e (All-get_or (λ w. IfSome w (λ z. IsRowStart k z)) k.ways i None (known_within k.ways i at e) o.ways)

-- the ways of a row that begin there are among all
pub start_within : (k : KeptSteps) → AreWaysInOrder k → (at : ℕ) → IsRowStart k at → at + class_count k.classes ≤ length k.ways
start_within k o at (n, lt, e) =
    let h : suc n * class_count k.classes ≤ length k.rows * class_count k.classes = mul-le-mul_right (class_count k.classes) (omega arith) in
    omega (arith, h, e, o.long)

pub starts_within : (k : KeptSteps) → AreWaysInOrder k → All (λ w. IfSome w (λ at. at + class_count k.classes ≤ length k.ways)) k.ways
starts_within k o = All-weaker (λ w. IfSome w (λ at. IsRowStart k at)) (λ w. IfSome w (λ at. at + class_count k.classes ≤ length k.ways)) each k.ways o.ways
  where
    each : (w : Option ℕ) → IfSome w (λ at. IsRowStart k at) → IfSome w (λ at. at + class_count k.classes ≤ length k.ways)
    each None h = tt
    each (Some at) h = start_within k o at h

pub kept_start : (k : KeptSteps) (at : ℕ) (row : List ℕ) → IsKeptAt k at row → IsRowStart k at
kept_start k at row (n, lt, e, r) = (n, lt, e)

pub ways_more : (classes : List ℕ) (ways : List (Option ℕ)) (bs : List ℕ) (from at b next : ℕ) → AreWays classes ways from bs at → b < 256 → get_or ways (at + class_at classes b) None ≡ Some next → AreWays classes ways from (bs ++ b ∷ []) next
ways_more classes ways [] from at b next e lt w = (next, lt, subst (λ z. get_or ways (z + class_at classes b) None ≡ Some next) e w, refl)
ways_more classes ways (a ∷ bs) from at b next (on, small, first, more) lt w = (on, small, first, ways_more classes ways bs on at b next more lt w)

-- ways that are known lead from row to row
pub along_starts : (k : KeptSteps) → AreWaysInOrder k → (bs : List ℕ) (from to : ℕ) → IsRowStart k from → AreWays k.classes k.ways from bs to → IsRowStart k to
along_starts k o [] from to s e = subst (λ z. IsRowStart k z) (sym e) s
along_starts k o (b ∷ bs) from to s (next, small, w, more) = along_starts k o bs next to (known_start k o (from + class_at k.classes b) next w) more

module _ (nodes : List MNode) (k : KeptSteps) (o : AreWaysInOrder k) (knows : KnowsSteps nodes k) where
  abbrev count : ℕ
  count = class_count k.classes

  abbrev at_number : ℕ → List ℕ
  at_number n = get_or k.rows n []

  -- and so do the rows by steps
  pub along_rows : (bs : List ℕ) (n m : ℕ) → n < length k.rows → m < length k.rows → AreWays k.classes k.ways (ways_from k n) bs (ways_from k m) → AreByteSteps nodes (at_number n) bs (at_number m)
  along_rows [] n m ln lm e = ap at_number (same_start m n count o.some e)
  along_rows (b ∷ bs) n m ln lm (next, small, w, more) =
      let (q, lq, e) = known_start k o (ways_from k n + class_at k.classes b) next w in
      let lead : get_or k.ways (ways_from k n + class_at k.classes b) None ≡ Some (ways_from k q) = w ∙ ap (λ z. Some z) e in
      let c : class_at k.classes b < count = class_below k.classes b (omega (arith, small, o.bytes)) in (
        at_number q,
        knows.steps n q (class_at k.classes b) b ln c lead lq small refl,
        along_rows bs q m lq lm (subst (λ z. AreWays k.classes k.ways z bs (ways_from k m)) e more),
      )

  -- ---- one row more, whose ways aren't known

  module _ (row : List ℕ) where
    abbrev more : KeptSteps
    more = with_row k row

    no_more : (i at : ℕ) → get_or more.ways i None ≡ Some at → get_or k.ways i None ≡ Some at
    no_more i at e =
        ⊎_elim
        (λ lt. sym (get_or_append_left k.ways (replicate count unknown) None i lt) ∙ e)
        (λ le. none (sym (get_or-append_right k.ways (replicate count unknown) (length k.ways) i None refl le ∙ all_none count (i - length k.ways)) ∙ e))
        (cases_lt i (length k.ways))
      where
        none : {P : Type 0} → None ≡ Some at → P
        none e = cc

        all_none : (n i : ℕ) → get_or (replicate n unknown) i None ≡ None
        all_none n i = ⊎_elim (λ lt. get_or-replicate n i unknown unknown lt) (λ le. get_or_past (replicate n unknown) i None (omega (arith, length-replicate n unknown, le))) (cases_lt i n)

    pub knows_more : HasSomeMark row → KnowsSteps nodes more
    knows_more mark = record {
      steps = λ n m c b ln lc w lm small same.
          let was : get_or k.ways (ways_from k n + c) None ≡ Some (ways_from k m) = no_more (ways_from k n + c) (ways_from k m) w in
          let within : ways_from k n + c < length k.ways = known_within k.ways (ways_from k n + c) (ways_from k m) was in
          let old_n : n < length k.rows = ⊎_elim (λ lt. lt) (λ le. let h = way_beyond n (length k.rows) c count le in absurd (omega (arith, h, within, o.long))) (cases_lt n (length k.rows)) in
          let (q, lq, e) = known_start k o (ways_from k n + c) (ways_from k m) was in
          let old_m : m < length k.rows = subst (λ z. z < length k.rows) (sym (same_start m q count o.some e)) lq in
          subst (λ z. IsByteStep nodes b z (get_or more.rows m [])) (sym (get_or_append_left k.rows (row ∷ []) [] n old_n)) (subst (λ z. IsByteStep nodes b (at_number n) z) (sym (get_or_append_left k.rows (row ∷ []) [] m old_m)) (knows.steps n m c b old_n lc was old_m small same));
      marked = All-push HasSomeMark k.rows row knows.marked mark;
    }

  -- ---- one way more

  module _ (classes : HasClasses nodes k.classes) (from byte to : ℕ) (was row : List ℕ) (f : IsKeptAt k from was) (t : IsKeptAt k to row) (small : byte < 256) (step : IsByteStep nodes byte was row) where
    abbrev class : ℕ
    class = class_at k.classes byte

    abbrev learnt : KeptSteps
    learnt = record k { ways = set k.ways (from + class) (Some to) }

    below : class < count
    below = class_below k.classes byte (omega (arith, small, o.bytes))

    there : from + class < length k.ways
    there = let h = start_within k o from (kept_start k from was f) in omega (arith, h, below)

    pub knows_way : KnowsSteps nodes learnt
    knows_way = record {
      steps = λ n m c b ln lc w lm small same. ⊎_elim (λ at. new n m c b lc w small same at) (λ other. knows.steps n m c b ln lc (sym (get_or-set_other k.ways (from + class) (ways_from k n + c) (Some to) None other) ∙ w) lm small same) (cases_eq (ways_from k n + c) (from + class));
      marked = knows.marked;
    }
      where
        new : (n m c b : ℕ) → c < count → get_or learnt.ways (ways_from k n + c) None ≡ Some (ways_from k m) → b < 256 → class_at k.classes b ≡ c → ways_from k n + c ≡ from + class → IsByteStep nodes b (at_number n) (at_number m)
        new n m c b lc w lb same at =
            let (p, lp, ep, rp) = f in
            let (q, lq, eq, rq) = t in
            let e : n * count + c ≡ p * count + class = omega (arith, at, ep) in
            let n_is : n ≡ p = same_number n p c class count lc below e in
            let c_is : c ≡ class = let h : n * count ≡ p * count = ap (λ z. z * count) n_is in omega (arith, e, h) in
            let here : get_or learnt.ways (ways_from k n + c) None ≡ Some to = ap (λ i. get_or learnt.ways i None) at ∙ get_or-set_same k.ways (from + class) (Some to) None there in
            let to_is : to ≡ ways_from k m = inner (sym here ∙ w) in
            let m_is : m ≡ q = same_start m q count o.some (sym to_is ∙ eq) in
            let by_byte : IsByteStep nodes byte (at_number n) (at_number m) = subst (λ z. IsByteStep nodes byte z (at_number m)) (sym (ap at_number n_is ∙ rp)) (subst (λ z. IsByteStep nodes byte was z) (sym (ap at_number m_is ∙ rq)) step) in
            step_alike nodes k.classes classes byte b small lb (sym (same ∙ c_is)) (at_number n) (at_number m) by_byte
          where
            inner : {x y : ℕ} → Some x ≡ Some y → x ≡ y
            inner e = cc

-- ---- order

pub order_more : (k : KeptSteps) (row : List ℕ) → AreWaysInOrder k → AreWaysInOrder (with_row k row)
order_more k row o = record {
  some = o.some;
  bytes = o.bytes;
  long =
      let count = class_count k.classes in
      let a : length (k.ways ++ replicate count unknown) ≡ length k.ways + length (replicate count unknown) = length-append k.ways (replicate count unknown) in
      let b : length (replicate count unknown) ≡ count = length-replicate count unknown in
      let c : length (k.rows ++ row ∷ []) ≡ length k.rows + 1 = length_push k.rows row in
      let d : length (k.rows ++ row ∷ []) * count ≡ (length k.rows + 1) * count = ap (λ z. z * count) c in
      omega (arith, a, b, d, o.long);
  ways = All-append (λ w. IfSome w (λ at. IsRowStart (with_row k row) at)) k.ways (replicate (class_count k.classes) unknown) (All-weaker (λ w. IfSome w (λ at. IsRowStart k at)) (λ w. IfSome w (λ at. IsRowStart (with_row k row) at)) each k.ways o.ways) (All-replicate (λ w. IfSome w (λ at. IsRowStart (with_row k row) at)) (class_count k.classes) None tt);
  now = each k.at o.now;
}
  where
    each : (w : Option ℕ) → IfSome w (λ at. IsRowStart k at) → IfSome w (λ at. IsRowStart (with_row k row) at)
    each None h = tt
    each (Some at) (n, lt, e) = (n, (let c : length (k.rows ++ row ∷ []) ≡ length k.rows + 1 = length_push k.rows row in omega (arith, c, lt)), e)

-- the new row is the last
pub kept_more : (k : KeptSteps) (row : List ℕ) → AreWaysInOrder k → IsKeptAt (with_row k row) (length k.ways) row
kept_more k row o = (
  length k.rows,
  (let c : length (k.rows ++ row ∷ []) ≡ length k.rows + 1 = length_push k.rows row in omega (arith, c)),
  o.long,
  get_or_push k.rows row [] (length k.rows) refl,
)

pub still_kept : (k : KeptSteps) (row : List ℕ) (at : ℕ) (was : List ℕ) → IsKeptAt k at was → IsKeptAt (with_row k row) at was
still_kept k row at was (n, lt, e, r) = (
  n,
  (let c : length (k.rows ++ row ∷ []) ≡ length k.rows + 1 = length_push k.rows row in omega (arith, c, lt)),
  e,
  get_or_append_left k.rows (row ∷ []) [] n lt ∙ r,
)

pub order_way : (k : KeptSteps) (i to : ℕ) → AreWaysInOrder k → IsRowStart k to → AreWaysInOrder (record k { ways = set k.ways i (Some to) })
order_way k i to o s = record {
  some = o.some;
  bytes = o.bytes;
  long = length-set k.ways i (Some to) ∙ o.long;
  ways = All-set (λ w. IfSome w (λ at. IsRowStart k at)) k.ways i (Some to) s o.ways;
  now = o.now;
}

-- ---- the same, or one row more

module _ (k more : KeptSteps) (row : List ℕ) (same : (more ≡ k) ⊎ (more ≡ with_row k row)) where
  pub kept_on : (at : ℕ) (was : List ℕ) → IsKeptAt k at was → IsKeptAt more at was
  kept_on at was h = ⊎_elim (λ e. subst (λ z. IsKeptAt z at was) (sym e) h) (λ e. subst (λ z. IsKeptAt z at was) (sym e) (still_kept k row at was h)) same

  pub knows_on : (nodes : List MNode) → AreWaysInOrder k → KnowsSteps nodes k → HasSomeMark row → KnowsSteps nodes more
  knows_on nodes o knows mark = ⊎_elim (λ e. subst (λ z. KnowsSteps nodes z) (sym e) knows) (λ e. subst (λ z. KnowsSteps nodes z) (sym e) (knows_more nodes k o knows row mark)) same

  pub classes_on : more.classes ≡ k.classes
  classes_on = ⊎_elim (λ e. ap (λ z. z.classes) e) (λ e. ap (λ z. z.classes) e) same
