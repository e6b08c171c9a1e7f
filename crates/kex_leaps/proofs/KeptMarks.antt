-- Marks that stay where the first of them stay alone, or these and then the place of the byte.
use Rattle.std.proofs.Common.{◌≡◌, ℕ, ◌≤◌, ◌<◌, ◌+◌, List, [], ◌∷◌, ◌++◌, length, take, get_or, sym, ap, ap₂, ◌∙◌, arith}
use Rattle.std.proofs.lemmas.List.{ext_get_or, get_or-map, get_or-take, length-map, length-take-le, map-append, take_all, take_more}
use Rattle.kex_held.specs.Slices.{marks_by}
use Rattle.kex_held.specs.Windows.{points_at}
use Rattle.kex_held.proofs.MarkedTexts.{at_mark, at_end}

pub firsts_kept : (at : ℕ) (marks keep : List ℕ) (n : ℕ) → n ≤ length marks → length keep ≡ n → ((i : ℕ) → i < n → get_or keep i 0 ≡ i) → take n marks ≡ marks_by (points_at at marks) keep
firsts_kept at marks keep n le long first = ext_get_or 0 (take n marks) (marks_by (points_at at marks) keep) (short ∙ sym (length-map keep (λ i. get_or (points_at at marks) i 0) ∙ long)) each
  where
    short : length (take n marks) ≡ n
    short = length-take-le n marks le

    each : (i : ℕ) → i < length (take n marks) → get_or (take n marks) i 0 ≡ get_or (marks_by (points_at at marks) keep) i 0
    each i lt =
        let less : i < n = omega (arith, lt, short) in
        get_or-take n marks i 0 less ∙ sym (get_or-map (λ i. get_or (points_at at marks) i 0) keep i 0 0 (omega (arith, less, long)) ∙ ap (λ k. get_or (points_at at marks) k 0) (first i less) ∙ at_mark at marks i (omega (arith, less, le)))

pub firsts_marked : (at : ℕ) (marks keep : List ℕ) (n : ℕ) → n ≤ length marks → length keep ≡ n + 1 → ((i : ℕ) → i < n → get_or keep i 0 ≡ i) → get_or keep n 0 ≡ length marks → take n marks ++ at ∷ [] ≡ marks_by (points_at at marks) keep
firsts_marked at marks keep n le long first last =
    let points = points_at at marks in
    let whole : keep ≡ take n keep ++ get_or keep n 0 ∷ [] = sym (take_all (n + 1) keep (omega (arith, long))) ∙ take_more keep n 0 (omega (arith, long)) in
    let less : (i : ℕ) → i < n → get_or (take n keep) i 0 ≡ i = λ i lt. get_or-take n keep i 0 lt ∙ first i lt in
    let front = firsts_kept at marks (take n keep) n le (length-take-le n keep (omega (arith, long))) less in
    let end : get_or points (get_or keep n 0) 0 ≡ at = ap (λ k. get_or points k 0) last ∙ at_end at marks (length marks) (omega arith) (omega arith) ∙ omega arith in
    ap₂ (λ l x. l ++ x ∷ []) front (sym end) ∙ sym (map-append (λ i. get_or points i 0) (take n keep) (get_or keep n 0 ∷ [])) ∙ ap (marks_by points) (sym whole)
