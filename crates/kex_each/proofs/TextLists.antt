-- Texts that are kept one after the other.
use Rattle.std.proofs.Common.{◌≡◌, ◌≤◌, ◌<◌, ◌+◌, ◌-◌, ◌++◌, ℕ, zero, suc, List, [], ◌∷◌, length, take, drop, get_or, refl, sym, ap, ap₂, ◌∙◌, arith, length-append}
use Rattle.std.specs.List.{concat}
use Rattle.std.proofs.lemmas.List.{take-append-le, take-append-drop}
use Rattle.std.proofs.Math.Seq.{take-length}
use Rattle.kex_each.specs.Texts.{AreEnds, begin_of, cut_at}

pub cut_length : (from : ℕ) (ends bytes : List ℕ) → length (cut_at from ends bytes) ≡ length ends
cut_length from [] bytes = refl
cut_length from (e ∷ es) bytes = ap suc (cut_length e es (drop (e - from) bytes))

ends_reach : (from last : ℕ) (ends : List ℕ) → AreEnds from ends last → from ≤ last
ends_reach from last [] h = omega (arith, h)
ends_reach from last (e ∷ es) h = let le = ends_reach e last es h.1 in omega (arith, le, h.0)

drop_front : (n : ℕ) (xs ys : List ℕ) → n ≤ length xs → drop n (xs ++ ys) ≡ drop n xs ++ ys
drop_front zero xs ys h = refl
drop_front (suc n) [] ys h = let bad : ⊥ = omega (arith, h) in absurd bad
drop_front (suc n) (x ∷ xs) ys h = drop_front n xs ys (omega (arith, h))

none : (m : ℕ) → drop {A = ℕ} m [] ≡ []
none zero = refl
none (suc m) = refl

drop_twice : (m n : ℕ) (xs : List ℕ) → drop m (drop n xs) ≡ drop (n + m) xs
drop_twice m zero xs = let same : m ≡ 0 + m = omega arith in ap (λ k. drop k xs) same
drop_twice m (suc n) [] = none m ∙ sym (none (suc n + m))
drop_twice m (suc n) (x ∷ xs) =
    let same : suc (n + m) ≡ suc n + m = omega arith in
    drop_twice m n xs ∙ ap (λ k. drop k (x ∷ xs)) same

length_drop : (n : ℕ) (xs : List ℕ) → length (drop n xs) ≡ length xs - n
length_drop zero xs = omega arith
length_drop (suc n) [] = omega arith
length_drop (suc n) (x ∷ xs) = let h = length_drop n xs in omega (arith, h)

none_long : (xs : List ℕ) → length xs ≡ 0 → xs ≡ []
none_long [] e = refl
none_long (x ∷ xs) e = let bad : ⊥ = omega (arith, e) in absurd bad

-- one text more
pub cut_more : (from here last : ℕ) (ends bytes x : List ℕ) → AreEnds from ends here → here ≡ from + length bytes → last ≡ from + length (bytes ++ x) → cut_at from (ends ++ last ∷ []) (bytes ++ x) ≡ cut_at from ends bytes ++ x ∷ []
cut_more from here last [] bytes x h is e =
    let none : bytes ≡ [] = none_long bytes (omega (arith, h, is)) in
    let all : last - from ≡ length x = omega (arith, e, h, is, length-append bytes x) in
    ap (λ z. take (last - from) (z ++ x) ∷ []) none ∙ ap (λ n. take n x ∷ []) all ∙ ap (λ z. z ∷ []) (take-length x)
cut_more from here last (t ∷ ts) bytes x h is e =
    let n = t - from in
    let reach = ends_reach t here ts h.1 in
    let within : n ≤ length bytes = omega (arith, reach, h.0, is) in
    let long = length_drop n bytes in
    let rest : here ≡ t + length (drop n bytes) = omega (arith, long, within, h.0, is) in
    let last_is : last ≡ t + length (drop n bytes ++ x) = omega (arith, e, rest, is, length-append bytes x, length-append (drop n bytes) x) in
    ap₂ (λ y ys. y ∷ ys) (take-append-le n bytes x within) (ap (λ z. cut_at t (ts ++ last ∷ []) z) (drop_front n bytes x within) ∙ cut_more t here last ts (drop n bytes) x h.1 rest last_is)

pub ends_more : (from here last : ℕ) (ends : List ℕ) → AreEnds from ends here → here ≤ last → AreEnds from (ends ++ last ∷ []) last
ends_more from here last [] h le = (omega (arith, h, le), refl)
ends_more from here last (e ∷ es) h le = (h.0, ends_more e here last es h.1 le)

-- all texts, joined
pub cut_joined : (from here : ℕ) (ends bytes : List ℕ) → AreEnds from ends here → here ≡ from + length bytes → bytes ≡ concat (cut_at from ends bytes)
cut_joined from here [] bytes h is = none_long bytes (omega (arith, h, is))
cut_joined from here (t ∷ ts) bytes h is =
    let n = t - from in
    let reach = ends_reach t here ts h.1 in
    let within : n ≤ length bytes = omega (arith, reach, h.0, is) in
    let long = length_drop n bytes in
    let rest : here ≡ t + length (drop n bytes) = omega (arith, long, within, h.0, is) in
    sym (take-append-drop n bytes) ∙ ap (λ z. take n bytes ++ z) (cut_joined t here ts (drop n bytes) h.1 rest)

pub same_at : (xs : List ℕ) (k d d' : ℕ) → k < length xs → get_or xs k d ≡ get_or xs k d'
same_at [] k d d' lt = let bad : ⊥ = omega (arith, lt) in absurd bad
same_at (x ∷ xs) zero d d' lt = refl
same_at (x ∷ xs) (suc k) d d' lt = same_at xs k d d' (omega (arith, lt))

pub begin_at : (from : ℕ) (ends : List ℕ) (k d : ℕ) → 0 < k → k < length ends → get_or ends (k - 1) d ≡ begin_of from ends k
begin_at from ends zero d some lt = let bad : ⊥ = omega (arith, some) in absurd bad
begin_at from [] (suc k) d some lt = let bad : ⊥ = omega (arith, lt) in absurd bad
begin_at from (t ∷ ts) (suc zero) d some lt = let one : suc zero - 1 ≡ 0 = omega arith in ap (λ n. get_or (t ∷ ts) n d) one
begin_at from (t ∷ ts) (suc (suc k)) d some lt =
    let one : suc (suc k) - 1 ≡ suc k = omega arith in
    let less : suc k - 1 ≡ k = omega arith in
    ap (λ n. get_or (t ∷ ts) n d) one ∙ ap (λ n. get_or ts n d) (sym less) ∙ begin_at t ts (suc k) d (omega arith) (omega (arith, lt))

pub record IsCut (from : ℕ) (ends bytes : List ℕ) (k : ℕ) : Type 0 where
  pub order : begin_of from ends k ≤ get_or ends k 0
  pub within : get_or ends k 0 ≤ from + length bytes
  pub behind : from ≤ begin_of from ends k
  pub text : take (get_or ends k 0 - begin_of from ends k) (drop (begin_of from ends k - from) bytes) ≡ get_or (cut_at from ends bytes) k []

pub cut_is : (from here : ℕ) (ends bytes : List ℕ) (k : ℕ) → AreEnds from ends here → here ≡ from + length bytes → k < length ends → IsCut from ends bytes k
cut_is from here [] bytes k h is lt = let bad : ⊥ = omega (arith, lt) in absurd bad
cut_is from here (t ∷ ts) bytes zero h is lt =
    let reach = ends_reach t here ts h.1 in
    let none : from - from ≡ 0 = omega arith in
    record { order = h.0; within = omega (arith, reach, is); behind = omega arith; text = ap (λ n. take (t - from) (drop n bytes)) none }
cut_is from here (t ∷ ts) bytes (suc k) h is lt =
    let n = t - from in
    let reach = ends_reach t here ts h.1 in
    let within : n ≤ length bytes = omega (arith, reach, h.0, is) in
    let long = length_drop n bytes in
    let rest : here ≡ t + length (drop n bytes) = omega (arith, long, within, h.0, is) in
    let i = cut_is t here ts (drop n bytes) k h.1 rest (omega (arith, lt)) in
    let at : n + (begin_of t ts k - t) ≡ begin_of t ts k - from = omega (arith, i.behind, h.0) in
    record {
      order = i.order;
      within = omega (arith, i.within, rest, is);
      behind = omega (arith, i.behind, h.0);
      text = ap (λ z. take (get_or ts k 0 - begin_of t ts k) z) (sym (drop_twice (begin_of t ts k - t) n bytes ∙ ap (λ m. drop m bytes) at)) ∙ i.text;
    }
