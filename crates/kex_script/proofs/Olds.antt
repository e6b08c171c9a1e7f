-- Old registers in lists of parts, list by list and part by part.
use Rattle.std.proofs.Common.{◌≡◌, ℕ, ◌+◌, ◌<◌, ◌≤◌, List, [], ◌∷◌, ◌++◌, length, get_or, take, drop, refl, sym, ap, ap₂, ◌∙◌, append_assoc, append-nil, arith}
use Rattle.std.proofs.lemmas.List.{take_more, drop-append-le, length-take-le}
use Rattle.kex_sst.specs.declared.parts.Part.{Part}
use Rattle.kex_sst.specs.declared.parts.Part.TheVariants.{Put, Old, Input}
use Rattle.kex_sst.specs.Parts.{olds, olds_in}

pub olds-append : (xs ys : List Part) → olds (xs ++ ys) ≡ olds xs ++ olds ys
olds-append [] ys = refl
olds-append (Put s ∷ xs) ys = olds-append xs ys
olds-append (Old i ∷ xs) ys = ap (λ z. i ∷ z) (olds-append xs ys)
olds-append (Input ∷ xs) ys = olds-append xs ys

olds_in-append : (xs ys : List (List Part)) → olds_in (xs ++ ys) ≡ olds_in xs ++ olds_in ys
olds_in-append [] ys = refl
olds_in-append (x ∷ xs) ys = ap (λ z. olds x ++ z) (olds_in-append xs ys) ∙ sym (append_assoc (olds x) (olds_in xs) (olds_in ys))

-- no part so far is a register
pub olds_more : (parts : List Part) (k : ℕ) (d : Part) → k < length parts → olds (get_or parts k d ∷ []) ≡ [] → olds (take k parts) ≡ [] → olds (take (k + 1) parts) ≡ []
olds_more parts k d lt h g = ap olds (take_more parts k d lt) ∙ olds-append (take k parts) (get_or parts k d ∷ []) ∙ ap₂ (λ u v. u ++ v) g h

-- no part since the start is a register
pub olds_since : (parts : List Part) (start k : ℕ) (d : Part) → start ≤ k → k < length parts → olds (get_or parts k d ∷ []) ≡ [] → olds (drop start (take k parts)) ≡ [] → olds (drop start (take (k + 1) parts)) ≡ []
olds_since parts start k d le lt h g =
    let long = length-take-le k parts (omega (arith, lt)) in
    ap (λ z. olds (drop start z)) (take_more parts k d lt) ∙ ap olds (drop-append-le start (take k parts) (get_or parts k d ∷ []) (omega (arith, le, long))) ∙ olds-append (drop start (take k parts)) (get_or parts k d ∷ []) ∙ ap₂ (λ u v. u ++ v) g h

-- no list so far reads a register
pub fresh_more : (lists : List (List Part)) (k : ℕ) (x d : List Part) → k < length lists → x ≡ get_or lists k d → olds x ≡ [] → olds_in (take k lists) ≡ [] → olds_in (take (k + 1) lists) ≡ []
fresh_more lists k x d lt e h g = ap olds_in (take_more lists k d lt) ∙ olds_in-append (take k lists) (get_or lists k d ∷ []) ∙ ap₂ (λ u v. u ++ v) g (append-nil (olds (get_or lists k d)) ∙ ap olds (sym e) ∙ h)
