-- Summaries that are put one after the other.
use Rattle.std.proofs.Common.{◌≡◌, ℕ, zero, suc, ◌+◌, ◌<◌, ◌≤◌, List, [], ◌∷◌, ◌++◌, inl, inr, ⊎_elim, Option, Some, None, length, get_or, map, take, drop, refl, sym, ap, subst, ◌∙◌, append_assoc, append-nil, arith}
use Rattle.std.specs.Prelude.{slice_get}
use Rattle.std.proofs.lemmas.Option.{slice_get_read}
use Rattle.std.proofs.Math.ListN.{drop_of_length-le, set}
use Rattle.std.proofs.Math.Seq.{take-append_seam, drop-append_seam, take-add}
use Rattle.std.proofs.lemmas.List.{drop-drop, drop_more, length-append, length-drop, length-map, take-append-drop}
use Rattle.kex_code.specs.Codes.{IsAmong}
use Rattle.kex_model.proofs.Shapes.{among-append}
use Rattle.kex_sst.specs.declared.parts.Part.{Part}
use Rattle.kex_sst.specs.declared.parts.Part.TheVariants.{Put, Old, Input}
use Rattle.kex_sst.specs.declared.summary.Course.{Course}
use Rattle.kex_sst.specs.declared.summary.Course.TheVariants.{Gone, Goes}
use Rattle.kex_sst.specs.Parts.{Change, EachPart}
use Rattle.kex_sst.specs.Tables.{Transducer, IsTable}
use Rattle.kex_sst.specs.Series.{substitute, then_update, ReadsNothing}
use Rattle.kex_sst.specs.Summaries.{IsCourseOf, IsSum, Sum, courses_from, sum_of, then_by, then_of, then_sum}
use Rattle.kex_sst.proofs.Courses.{determined}
use Rattle.kex_chunks.specs.Parts.{AreSummaries}
use Rattle.kex_chunks.proofs.Alongs.{item_at}

-- the courses of a text and of a stretch after it
pub courses_more : (t : Transducer) (x y : List ℕ) (done : ℕ) → IsTable t → length x ≡ done → map (λ c. then_of done (courses_from t t.states 0 y) c) (courses_from t t.states 0 x) ≡ courses_from t t.states 0 (x ++ y)
courses_more t x y done table e =
    ap (λ n. map (λ c. then_of n (courses_from t t.states 0 y) c) (courses_from t t.states 0 x)) (sym e)
    ∙ sym (ap (λ (s : Sum). s.entries) (determined t x y table))

-- what is among one of the lists
given_there : (regs : List (List Part)) (i : ℕ) (z : Part) → IsAmong (get_or regs i []) z → (ys : List Part) × IsAmong regs ys × IsAmong ys z
given_there [] i z h = absurd h
given_there (r ∷ regs) zero z h = (r, inl refl, h)
given_there (r ∷ regs) (suc i) z h = let l = given_there regs i z h in (l.0, inr l.1, l.2)

-- where no byte is read in the lists, nor in parts, none is read in what the parts stand for
substitute_written : (regs : List (List Part)) (xs : List Part) (z : Part) → ((ys : List Part) → IsAmong regs ys → (x : Part) → IsAmong ys x → ReadsNothing x) → ((x : Part) → IsAmong xs x → ReadsNothing x) → IsAmong (substitute regs xs) z → ReadsNothing z
substitute_written regs [] z h k i = absurd i
substitute_written regs (Put s ∷ xs) z h k i = ⊎_elim (λ e. subst (λ y. ReadsNothing y) e tt) (λ j. substitute_written regs xs z h (λ x m. k x (inr m)) j) i
substitute_written regs (Input ∷ xs) z h k i = absurd (k Input (inl refl))
substitute_written regs (Old n ∷ xs) z h k i = ⊎_elim (λ j. let l = given_there regs n z j in h l.0 l.1 z l.2) (λ j. substitute_written regs xs z h (λ x m. k x (inr m)) j) (among-append (get_or regs n []) (substitute regs xs) z i)

among_map : {A B : Type 0} (f : A → B) (xs : List A) (y : B) → IsAmong (map f xs) y → (x : A) × IsAmong xs x × (f x ≡ y)
among_map f [] y h = absurd h
among_map f (x ∷ xs) y h = ⊎_elim (λ e. (x, inl refl, e)) (λ i. let r = among_map f xs y i in (r.0, inr r.1, r.2)) h

then_written : (u v : Change) → EachPart ReadsNothing u → EachPart ReadsNothing v → EachPart ReadsNothing (then_update u v)
then_written u v h k = record {
  out = λ z i. ⊎_elim (λ j. h.out z j) (λ j. substitute_written u.regs v.out z h.regs k.out j) (among-append u.out (substitute u.regs v.out) z i);
  regs = λ ys i z j.
      let r = among_map (λ xs. substitute u.regs xs) v.regs ys i in
      substitute_written u.regs r.0 z h.regs (k.regs r.0 r.1) (subst (λ y. IsAmong y z) (sym r.2) j);
}

-- what is at a place of a list that was mapped
map_there : {A B : Type 0} (f : A → B) (xs : List A) (i : ℕ) (y : B) → slice_get (map f xs) i ≡ Some y → (x : A) × (slice_get xs i ≡ Some x) × (y ≡ f x)
map_there f [] i y e = let bad : ⊥ = cc in absurd bad
map_there f (x ∷ xs) zero y e = let same : f x ≡ y = cc in (x, refl, sym same)
map_there f (x ∷ xs) (suc i) y e = map_there f xs i y e

module _ (s r : Sum) (many : length s.entries ≡ length r.entries) (one : IsSum s) (other : IsSum r) where
  by_in_range : (n : ℕ) (u : Change) (o : Option Course) (c : Course) → o ≡ Some c → IsCourseOf r.bytes (length r.entries) c → EachPart ReadsNothing u → IsCourseOf (s.bytes + r.bytes) (length s.entries) (then_by o s.bytes u)
  by_in_range n u None c e h k = let bad : ⊥ = cc in absurd bad
  by_in_range n u (Some (Gone m)) c e h k =
      let same : Gone m ≡ c = cc in
      let lt : m < r.bytes = subst (λ z. IsCourseOf r.bytes (length r.entries) z) (sym same) h in
      omega (arith, lt)
  by_in_range n u (Some (Goes q v)) c e h k =
      let same : Goes q v ≡ c = cc in
      let here : (q < length r.entries) × EachPart ReadsNothing v = subst (λ z. IsCourseOf r.bytes (length r.entries) z) (sym same) h in
      (subst (λ z. q < z) (sym many) here.0, then_written u v k here.1)

  of_in_range : (c : Course) → IsCourseOf s.bytes (length s.entries) c → IsCourseOf (s.bytes + r.bytes) (length s.entries) (then_of s.bytes r.entries c)
  of_in_range (Gone m) h = omega (arith, h)
  of_in_range (Goes q u) h =
      let there = item_at r.entries q (subst (λ z. q < z) many h.0) in
      by_in_range s.bytes u (slice_get r.entries q) there.0 there.1 (other.each q there.0 there.1) h.1

  -- two summaries of one table, one after the other, are in range
  pub then_in_range : IsSum (then_sum s r)
  then_in_range = record {
    each = λ q c at.
        let d = map_there (λ e. then_of s.bytes r.entries e) s.entries q c at in
        let long : length (map (λ e. then_of s.bytes r.entries e) s.entries) ≡ length s.entries = length-map s.entries (λ e. then_of s.bytes r.entries e) in
        subst (λ n. IsCourseOf (s.bytes + r.bytes) n c) (sym long)
        (subst (λ z. IsCourseOf (s.bytes + r.bytes) (length s.entries) z) (sym d.2) (of_in_range d.0 (one.each q d.0 d.1)));
  }

-- where there is one place, what is put there is all
pub one_slot : {A : Type 0} (xs : List A) (y : A) → length xs < 2 → 0 < length xs → set xs 0 y ≡ y ∷ []
one_slot [] y few some = let bad : ⊥ = omega (arith, some) in absurd bad
one_slot (a ∷ b ∷ xs) y few some = let bad : ⊥ = omega (arith, few) in absurd bad
one_slot (a ∷ []) y few some = refl

-- the summaries of two texts' parts are those of the parts of the text
pub both_summed : (t : Transducer) (x y : List ℕ) (one other : List (Option Sum)) → AreSummaries t x one → AreSummaries t y other → AreSummaries t (x ++ y) (one ++ other)
both_summed t x y [] other h k = subst (λ z. AreSummaries t (z ++ y) other) (sym h) k
both_summed t x y (None ∷ one) other h k = absurd h
both_summed t x y (Some s ∷ one) other h k =
    (h.0, h.1 ++ y, ap (λ z. z ++ y) h.2 ∙ append_assoc h.0 h.1 y, h.3, both_summed t h.1 y one other h.4 k)

-- the summary of the part that begins at a place
pub record IsPart (t : Transducer) (piece : List ℕ) (at k : ℕ) (sums : List (Option Sum)) (s : Sum) : Type 0 where
  pub part : List ℕ
  pub sum : s ≡ sum_of t part
  pub within : at + length part ≤ length piece
  pub before : take (at + length part) piece ≡ take at piece ++ part
  pub rest : AreSummaries t (drop (at + length part) piece) (drop (k + 1) sums)

pub part_at : (t : Transducer) (piece : List ℕ) (at k : ℕ) (sums : List (Option Sum)) (s : Sum) (d : Option Sum) → at ≤ length piece → k < length sums → get_or sums k d ≡ Some s → AreSummaries t (drop at piece) (drop k sums) → IsPart t piece at k sums s
part_at t piece at k sums s d le lt e h =
    let here : AreSummaries t (drop at piece) (Some s ∷ drop (k + 1) sums) = subst (λ z. AreSummaries t (drop at piece) z) (drop_more sums k d lt ∙ ap (λ z. z ∷ drop (k + 1) sums) e) h in
    let y = here.0 in
    let z = here.1 in
    let long = ap length here.2 ∙ length-append y z in
    let all = length-drop at piece in
    let first : take (length y) (drop at piece) ≡ y = ap (λ w. take (length y) w) here.2 ∙ take-append_seam y z in
    let rest : drop (at + length y) piece ≡ z = sym (drop-drop (length y) at piece) ∙ ap (λ w. drop (length y) w) here.2 ∙ drop-append_seam y z in
    record {
      part = y;
      sum = here.3;
      within = omega (arith, long, all, le);
      before = take-add at (length y) piece ∙ ap (λ w. take at piece ++ w) first;
      rest = subst (λ w. AreSummaries t w (drop (k + 1) sums)) (sym rest) here.4;
    }

-- after the last part comes the end of the piece
pub no_more : (t : Transducer) (piece : List ℕ) (at k : ℕ) (sums : List (Option Sum)) → length sums ≤ k → AreSummaries t (drop at piece) (drop k sums) → take at piece ≡ piece
no_more t piece at k sums le h =
    let none : drop k sums ≡ [] = drop_of_length-le sums le in
    let rest : drop at piece ≡ [] = subst (λ z. AreSummaries t (drop at piece) z) none h in
    sym (append-nil (take at piece)) ∙ ap (λ z. take at piece ++ z) (sym rest) ∙ take-append-drop at piece

-- the course that was read is an entry
pub entry_read : (s : Sum) (entries : List Course) (state : ℕ) (c : Course) → entries ≡ s.entries → c ≡ get_or entries state c → state < length s.entries → slice_get s.entries state ≡ Some c
entry_read s entries state c e is lt = slice_get_read s.entries (length s.entries) state c refl lt (subst (λ z. c ≡ get_or z state c) e is)
