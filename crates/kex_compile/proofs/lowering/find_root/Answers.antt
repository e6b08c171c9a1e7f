use Rattle.std.proofs.Common.{rules, tests, ◌≡◌, ℕ, ◌+◌, ◌==◌, suc, true, false, Bool, List, [], ◌∷◌, ⊎_elim, refl, sym, ap, subst, ◌∙◌, arith, cond}
use Rattle.std.specs.Prelude.{Option, Some, None, MatchOption}
use Rattle.std.specs.List.{position_from}
use Rattle.std.proofs.lemmas.Iterator.{YieldsList-from_slice}
use Rattle.std.proofs.lemmas.Iterator.Adapters.{position_from-zero}
use Rattle.std.proofs.lemmas.Iterator.Search.{position_from_yields_List}
use Rattle.kex_code.specs.Codes.{HasNumber, IsAmong}
use Rattle.kex_cover.proofs.LeftLeaves.{apart_by, equal_by}
use Rattle.kex_compile.proofs.lowering.find_root.Goals as goal

-- the place of the root in the list, counted from i, if it is there
abbrev Finds : List ℕ → ℕ → ℕ → Option ℕ → Type 0
Finds xs root i o = MatchOption o (IsAmong xs root → ⊥) (λ k. (j : ℕ) × (k ≡ i + j) × HasNumber xs root j)

later : (xs : List ℕ) (x root i : ℕ) (o : Option ℕ) → (x ≡ root → ⊥) → Finds xs root (i + 1) o → Finds (x ∷ xs) root i o
later xs x root i None apart h = λ a. ⊎_elim apart h a
later xs x root i (Some k) apart h = (suc h.0, (let e = h.1 in let f : k ≡ i + suc h.0 = omega (arith, e) in f), h.2)

finds : (xs : List ℕ) (root i : ℕ) → Finds xs root i (position_from (λ r. r == root) i xs)
finds [] root i = λ a. a
finds (x ∷ xs) root i = by (x == root) refl (finds xs root (i + 1))
  where
    by : (b : Bool) → (x == root) ≡ b → Finds xs root (i + 1) (position_from (λ r. r == root) (i + 1) xs) → Finds (x ∷ xs) root i (cond b (Some i) (position_from (λ r. r == root) (i + 1) xs))
    by true e h = (0, (let f : i ≡ i + 0 = omega arith in f), ap (λ z. Some z) (equal_by x root e))
    by false e h = later xs x root i (position_from (λ r. r == root) (i + 1) xs) (apart_by x root e) h

first : (xs : List ℕ) (root : ℕ) (o : Option ℕ) → Finds xs root 0 o → MatchOption o (IsAmong xs root → ⊥) (λ i. HasNumber xs root i)
first xs root None h = h
first xs root (Some k) h = subst (λ z. HasNumber xs root z) (let e = h.1 in let f : h.0 ≡ k = omega (arith, e) in f) h.2

pub returns : goal.returns
returns c =
    let roots = c.args.roots.now in
    let root = c.args.root in
    let found : c.position.result ≡ position_from (λ r. r == root) 0 roots = position_from_yields_List (λ (r : ℕ). r == root) _ _ c.position.result c.position.ensures.ran (YieldsList-from_slice roots cc) (λ x b q k. search (rules, tests)) ∙ position_from-zero (λ r. r == root) roots in
    first roots root c.position.result (subst (λ o. Finds roots root 0 o) (sym found) (finds roots root 0))
