-- Copies over a part of what is in a list.
use Rattle.std.proofs.Common.{◌≡◌, ℕ, ◌+◌, ◌-◌, ◌≤◌, List, [], ◌++◌, length, take, drop, ap, ap₂, ◌∙◌, arith}
use Rattle.std.proofs.Math.Seq.{take-add}
use Rattle.std.proofs.lemmas.List.{drop-append-le, drop-take, take-append-le, take-take, length-take-le, length-drop}
use Rattle.std.proofs.lemmas.Slice.{take-put_mid_below}
use borrow.Rule.Slice.PartMut.{put_mid, post_of}

-- what comes before a copy stays, and then comes the copy
pub over : (xs ys : List ℕ) (at k n : ℕ) → at ≤ length xs → n ≤ length ys → take (at + n) (put_mid at k xs ys) ≡ take at xs ++ take n ys
over xs ys at k n h m =
    let zs = put_mid at k xs ys in
    let front : take at zs ≡ take at xs = take-put_mid_below at k xs ys at (omega arith) h in
    let none : drop at (take at xs) ≡ [] = ap (λ a. drop at (take a xs)) (omega arith) ∙ drop-take at 0 xs in
    let rest : drop at zs ≡ ys ++ post_of at k xs = drop-append-le at (take at xs) (ys ++ post_of at k xs) (omega (arith, length-take-le at xs h)) ∙ ap (λ l. l ++ (ys ++ post_of at k xs)) none in
    take-add at n zs ∙ ap₂ (λ p q. p ++ take n q) front rest ∙ ap (λ q. take at xs ++ q) (take-append-le n ys (post_of at k xs) m)

-- the front of a part that is copied
pub copied_front : (xs ys : List ℕ) (at k n : ℕ) → ys ≡ take (at + k - at) (drop at xs) → at + k ≤ length xs → n ≤ k → (take n ys ≡ take n (drop at xs)) × (n ≤ length ys)
copied_front xs ys at k n e h m =
    let c : at + k - at ≡ k = omega arith in
    let same : ys ≡ take k (drop at xs) = e ∙ ap (λ j. take j (drop at xs)) c in
    (ap (take n) same ∙ take-take n k (drop at xs) m, omega (arith, ap length same ∙ length-take-le k (drop at xs) (omega (arith, length-drop at xs))))
