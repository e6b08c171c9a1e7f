-- Lines are found piece by piece.
use Rattle.std.proofs.Common.{◌≡◌, ◌≤◌, ◌<◌, ◌+◌, ◌-◌, ◌||◌, ℕ, zero, suc, Bool, true, false, List, [], ◌∷◌, ◌++◌, length, take, drop, get_or, refl, sym, ap, ap₂, subst, ◌∙◌, append_assoc, arith, length-append, append-nil}
use Rattle.std.proofs.lemmas.Bool.{eqb-true}
use Rattle.std.specs.Prelude.{Result, Ok, Err, OnOk, if◌then◌else◌}
use Rattle.memchr.specs.Find.{NoneBefore, Nowhere, Passes, is_byte}
use Rattle.std.proofs.lemmas.List.{map-append}
use Rattle.std.proofs.Math.Seq.{take-append-add, take-length}
use Rattle.kex_each.specs.Lines.{BegunLine, IsBegunBehind, ReadsLines, begun_behind, fronts_of, has_some, is_line_feed, lines_behind, line_if_some}
use Rattle.kex_each.specs.Laws.{BeginsLines, ByPieces}

pub by_pieces : (line v u : List ℕ) → ByPieces line v u
by_pieces line [] u = record { lines = refl; begun = refl }
by_pieces line (b ∷ v) u = by (is_line_feed b) (by_pieces [] v u) (by_pieces (line ++ b ∷ []) v u)
  where
    Lines : Bool → Type 0
    Lines c = (if c then line ∷ lines_behind [] (v ++ u) else lines_behind (line ++ b ∷ []) (v ++ u)) ≡ (if c then line ∷ lines_behind [] v else lines_behind (line ++ b ∷ []) v) ++ lines_behind (if c then begun_behind [] v else begun_behind (line ++ b ∷ []) v) u

    Begun : Bool → Type 0
    Begun c = (if c then begun_behind [] (v ++ u) else begun_behind (line ++ b ∷ []) (v ++ u)) ≡ begun_behind (if c then begun_behind [] v else begun_behind (line ++ b ∷ []) v) u

    lines : (c : Bool) → ByPieces [] v u → ByPieces (line ++ b ∷ []) v u → Lines c
    lines true h k = ap (λ z. line ∷ z) h.lines
    lines false h k = k.lines

    begun : (c : Bool) → ByPieces [] v u → ByPieces (line ++ b ∷ []) v u → Begun c
    begun true h k = h.begun
    begun false h k = k.begun

    by : (c : Bool) → ByPieces [] v u → ByPieces (line ++ b ∷ []) v u → ByPieces line (b ∷ v) u
    by c h k = record { lines = lines (is_line_feed b) h k; begun = begun (is_line_feed b) h k }

pub begins_lines : (v u : List ℕ) (e : Bool) → BeginsLines v u e
begins_lines v u false = record { more = lines_behind (begun_behind [] v) u; front = (by_pieces [] v u).lines }
begins_lines v u true = record {
  more = lines_behind (begun_behind [] v) u ++ line_if_some (begun_behind [] (v ++ u));
  front = ap (λ z. z ++ line_if_some (begun_behind [] (v ++ u))) (by_pieces [] v u).lines ∙ append_assoc (lines_behind [] v) (lines_behind (begun_behind [] v) u) (line_if_some (begun_behind [] (v ++ u)));
}

-- bytes among which there is no line feed
abbrev pub HasNoFeed : List ℕ → Type 0
HasNoFeed [] = Unit {0}
HasNoFeed (b ∷ w) = (is_line_feed b ≡ false) × HasNoFeed w

pub no_feed : (line v : List ℕ) → HasNoFeed v → (lines_behind line v ≡ []) × (begun_behind line v ≡ line ++ v)
no_feed line [] h = (refl, sym (append-nil line))
no_feed line (b ∷ v) h =
    let k = no_feed (line ++ b ∷ []) v h.1 in
    (rw h.0 k.0, rw h.0 (k.1 ∙ append_assoc line (b ∷ []) v))

pub one_feed : (line v : List ℕ) → HasNoFeed v → (lines_behind line (v ++ 10 ∷ []) ≡ (line ++ v) ∷ []) × (begun_behind line (v ++ 10 ∷ []) ≡ [])
one_feed line v h =
    let p = by_pieces line v (10 ∷ []) in
    let k = no_feed line v h in
    (p.lines ∙ ap₂ (λ y z. y ++ z) k.0 (ap (λ z. lines_behind z (10 ∷ [])) k.1), p.begun ∙ ap (λ z. begun_behind z (10 ∷ [])) k.1)

-- what is kept of a line that goes on
pub kept_more : (keep : ℕ) (x v : List ℕ) → take keep (take keep x ++ v) ≡ take keep (x ++ v)
kept_more zero x v = refl
kept_more (suc n) [] v = refl
kept_more (suc n) (b ∷ x) v = ap (λ z. b ∷ z) (kept_more n x v)

some_more : (x v : List ℕ) → has_some (x ++ v) ≡ (has_some x || has_some v)
some_more [] v = refl
some_more (b ∷ x) v = refl

-- bytes without a line feed were read
module _ (w v : List ℕ) (old new : BegunLine) (before : List (List ℕ)) (none : HasNoFeed v) (kept : new.kept ≡ take old.keep (old.kept ++ v)) (begun : new.begun ≡ (old.begun || has_some v)) (keep : new.keep ≡ old.keep) (was : IsBegunBehind w old) where
  abbrev line : List ℕ
  line = begun_behind [] w

  abbrev goes : ByPieces [] w v
  goes = by_pieces [] w v

  begun_is : begun_behind [] (w ++ v) ≡ line ++ v
  begun_is = goes.begun ∙ (no_feed line v none).1

  pub kept_is : new.kept ≡ take new.keep (line ++ v)
  kept_is = kept ∙ ap (λ z. take old.keep (z ++ v)) was.kept ∙ kept_more old.keep line v ∙ ap (λ n. take n (line ++ v)) (sym keep)

  pub read_rest : ReadsLines w v new before before
  read_rest = record {
    ended = sym (append-nil before) ∙ ap (λ z. before ++ fronts_of new.keep z) (sym (no_feed line v none).0);
    begun = record {
      kept = kept_is ∙ ap (λ z. take new.keep z) (sym begun_is);
      begun = begun ∙ ap (λ z. z || has_some v) was.begun ∙ sym (some_more line v) ∙ ap has_some (sym begun_is);
    };
  }

-- a line was ended
pub read_line : (w v : List ℕ) (old mid new : BegunLine) (before after : List (List ℕ)) → HasNoFeed v → mid.kept ≡ take old.keep (old.kept ++ v) → mid.begun ≡ (old.begun || has_some v) → mid.keep ≡ old.keep → after ≡ before ++ mid.kept ∷ [] → new.kept ≡ [] → new.begun ≡ false → new.keep ≡ mid.keep → IsBegunBehind w old → ReadsLines w (v ++ 10 ∷ []) new before after
read_line w v old mid new before after none kept begun keep put empty fresh same was =
    let line = begun_behind [] w in
    let one = one_feed line v none in
    let goes = by_pieces [] w (v ++ 10 ∷ []) in
    let left : begun_behind [] (w ++ (v ++ 10 ∷ [])) ≡ [] = goes.begun ∙ one.1 in
    let is : mid.kept ≡ take new.keep (line ++ v) = kept_is w v old mid before none kept begun keep was ∙ ap (λ n. take n (line ++ v)) (sym same) in
    record {
      ended = put ∙ ap (λ z. before ++ z ∷ []) is ∙ ap (λ z. before ++ fronts_of new.keep z) (sym one.0);
      begun = record {
        kept = empty ∙ sym (none_kept new.keep) ∙ ap (λ z. take new.keep z) (sym left);
        begun = fresh ∙ ap has_some (sym left);
      };
    }
  where
    none_kept : (n : ℕ) → take {A = ℕ} n [] ≡ []
    none_kept zero = refl
    none_kept (suc n) = refl

-- a piece after another
pub reads_more : (w v u : List ℕ) (mid new : BegunLine) (before between after : List (List ℕ)) → new.keep ≡ mid.keep → ReadsLines w v mid before between → ReadsLines (w ++ v) u new between after → ReadsLines w (v ++ u) new before after
reads_more w v u mid new before between after keep one two =
    let line = begun_behind [] w in
    let first = by_pieces [] w v in
    let both = by_pieces line v u in
    let all : fronts_of new.keep (lines_behind line (v ++ u)) ≡ fronts_of new.keep (lines_behind line v) ++ fronts_of new.keep (lines_behind (begun_behind [] (w ++ v)) u) =
    ap (λ z. fronts_of new.keep z) (both.lines ∙ ap (λ z. lines_behind line v ++ lines_behind z u) (sym first.begun)) ∙ map-append (λ l. take new.keep l) (lines_behind line v) (lines_behind (begun_behind [] (w ++ v)) u) in
    record {
      ended = two.ended ∙ ap (λ z. z ++ fronts_of new.keep (lines_behind (begun_behind [] (w ++ v)) u)) (one.ended ∙ ap (λ n. before ++ fronts_of n (lines_behind line v)) (sym keep)) ∙ append_assoc before (fronts_of new.keep (lines_behind line v)) (fronts_of new.keep (lines_behind (begun_behind [] (w ++ v)) u)) ∙ ap (λ z. before ++ z) (sym all);
      begun = subst (λ z. IsBegunBehind z new) (append_assoc w v u) two.begun;
    }

-- the empty piece
pub reads_none : (w : List ℕ) (l : BegunLine) (before : List (List ℕ)) → IsBegunBehind w l → ReadsLines w [] l before before
reads_none w l before was = record { ended = sym (append-nil before); begun = subst (λ z. IsBegunBehind z l) (sym (append-nil w)) was }

-- as many bytes as there is room for
pub front_kept : (keep : ℕ) (x v : List ℕ) → length x ≤ keep → keep - length x < length v → x ++ take (keep - length x) v ≡ take keep (x ++ v)
front_kept keep x v le lt =
    let n : length x + (keep - length x) ≡ keep = omega (arith, le) in
    sym (take-append-add x v (keep - length x)) ∙ ap (λ k. take k (x ++ v)) n

pub all_kept : (keep : ℕ) (x v : List ℕ) → length x ≤ keep → length v ≤ keep - length x → x ++ v ≡ take keep (x ++ v)
all_kept keep x v le few = sym (whole keep (x ++ v) (omega (arith, le, few, length-append x v)))
  where
    whole : (n : ℕ) (ys : List ℕ) → length ys ≤ n → take n ys ≡ ys
    whole zero [] h = refl
    whole (suc n) [] h = refl
    whole zero (y ∷ ys) h = let bad : ⊥ = omega (arith, h) in absurd bad
    whole (suc n) (y ∷ ys) h = ap (λ z. y ∷ z) (whole n ys (omega (arith, h)))

-- the bytes before the first line feed have none
no_feed_before : (n : ℕ) (v : List ℕ) → n ≤ length v → ((k : ℕ) → k < n → is_line_feed (get_or v k 0) ≡ false) → HasNoFeed (take n v)
no_feed_before zero v le h = tt
no_feed_before (suc n) [] le h = let bad : ⊥ = omega (arith, le) in absurd bad
no_feed_before (suc n) (b ∷ v) le h = (h 0 (omega arith), no_feed_before n v (omega (arith, le)) (λ k lt. h (suc k) (omega (arith, lt))))

cut_at_feed : (n : ℕ) (v : List ℕ) → n < length v → get_or v n 0 ≡ 10 → v ≡ (take n v ++ 10 ∷ []) ++ drop (suc n) v
cut_at_feed zero [] lt e = let bad : ⊥ = omega (arith, lt) in absurd bad
cut_at_feed zero (b ∷ v) lt e = ap (λ z. z ∷ v) e
cut_at_feed (suc n) [] lt e = let bad : ⊥ = omega (arith, lt) in absurd bad
cut_at_feed (suc n) (b ∷ v) lt e = ap (λ z. b ∷ z) (cut_at_feed n v (omega (arith, lt)) e)

whole_rest : (n : ℕ) (v : List ℕ) → take (length v - n) (drop n v) ≡ drop n v
whole_rest zero v = let all : length v - 0 ≡ length v = omega arith in ap (λ k. take k v) all ∙ take-length v
whole_rest (suc n) [] = none_left (length {A = ℕ} [] - suc n)
  where
    none_left : (k : ℕ) → take {A = ℕ} k [] ≡ []
    none_left zero = refl
    none_left (suc k) = refl
whole_rest (suc n) (b ∷ v) = let less : suc (length v) - suc n ≡ length v - n = omega arith in ap (λ k. take k (drop n v)) less ∙ whole_rest n v

not_true : (c : Bool) → (c ≡ true → ⊥) → c ≡ false
not_true true h = absurd (h refl)
not_true false h = refl

-- up to the first line feed there is none, and what follows it is the rest
pub feed_cut : (v : List ℕ) (n : ℕ) → NoneBefore (Passes (is_byte 10) v) 0 (length v) n × Passes (is_byte 10) v n → HasNoFeed (take n v) × (v ≡ (take n v ++ 10 ∷ []) ++ take (length v - (n + 1)) (drop (n + 1) v))
feed_cut v n h =
    let before = h.0 in
    let lt = before.high in
    let is : get_or v n 0 ≡ 10 = eqb-true (get_or v n 0) 10 h.1 in
    let one : suc n ≡ n + 1 = omega arith in (
      no_feed_before n v (omega (arith, lt)) (λ k less. not_true (is_line_feed (get_or v k 0)) (λ e. before.before k (omega arith) less e)),
      cut_at_feed n v lt is ∙ ap (λ k. (take n v ++ 10 ∷ []) ++ drop k v) one ∙ ap (λ z. (take n v ++ 10 ∷ []) ++ z) (sym (whole_rest (n + 1) v)),
    )

pub feed_none : (v : List ℕ) → Nowhere (Passes (is_byte 10) v) 0 (length v) → HasNoFeed v
feed_none v h = subst HasNoFeed (take-length v) (no_feed_before (length v) v (omega arith) (λ k less. not_true (is_line_feed (get_or v k 0)) (λ e. h k (omega arith) less e)))

pub on_ok_both : {A E P Q R : Type 0} (r : Result A E) → (P → Q → R) → OnOk r P → OnOk r Q → OnOk r R
on_ok_both (Ok x) f p q = f p q
on_ok_both (Err e) f p q = tt
