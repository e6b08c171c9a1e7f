-- Counts that are held up to 1001 break their rule as the counts themselves do.
use Rattle.std.proofs.Common.{◌≡◌, ℕ, ◌||◌, ◌≤◌, List, Bool, true, false, Option, Some, None, nat_lt, refl, sym, ap, ◌∙◌, subst, arith}
use Rattle.std.specs.Prelude.{MatchBool, min}
use Rattle.std.proofs.lemmas.Bool.Decides.{nat_tests}
use Rattle.kex_model.specs.declared.program.Kind.TheVariants as kinds
use Rattle.kex_model.specs.declared.program.Node.{Node}
use Rattle.kex_model.specs.Programs.{IsCount}
use Rattle.kex_tokens.specs.Values.{decimal_value}
use Rattle.kex_regexp.specs.Postfixes.{Postfix, ZeroOrMore, OneOrMore, Optional, Exactly, AtLeast, AtMost, FromTo, high, is_bad_count, low}
use Rattle.kex_regexp.specs.Outcomes.{are_bad, are_bad_turns}
use Rattle.kex_regexp.specs.Holding.{HoldsBounds, IsTurns, capped_count, capped_bound}
use Rattle.kex_regexp.specs.declared.counts.Bounds.{Bounds}
use Rattle.kex_regexp.specs.Shown.{IsNode}

pub above_capped : (n : ℕ) → nat_lt 1000 (min n 1001) ≡ nat_lt 1000 n
above_capped n = grind (arith, nat_tests)

pub below_capped : (n m : ℕ) → (nat_lt 1000 (min n 1001) || nat_lt 1000 (min m 1001) || nat_lt (min m 1001) (min n 1001)) ≡ (nat_lt 1000 n || nat_lt 1000 m || nat_lt m n)
below_capped n m = grind (arith, nat_tests)

pub same_capped : (n : ℕ) → (nat_lt 1000 (min n 1001) || nat_lt 1000 (min n 1001) || nat_lt (min n 1001) (min n 1001)) ≡ nat_lt 1000 n
same_capped n = grind (arith, nat_tests)

pub most_capped : (m : ℕ) → (nat_lt 1000 0 || nat_lt 1000 (min m 1001) || nat_lt (min m 1001) 0) ≡ nat_lt 1000 m
most_capped m = grind (arith, nat_tests)

pub capped_bad : (p : Postfix) → are_bad_turns (capped_count (low p)) (capped_bound (high p)) ≡ is_bad_count p
unfolding low high
capped_bad ZeroOrMore = refl
capped_bad OneOrMore = refl
capped_bad Optional = refl
capped_bad (Exactly n) = same_capped (decimal_value n)
capped_bad (AtLeast n) = above_capped (decimal_value n)
capped_bad (AtMost m) = most_capped (decimal_value m)
capped_bad (FromTo n m) = below_capped (decimal_value n) (decimal_value m)

pub bad_bounds : (b : Bounds) (p : Postfix) → HoldsBounds b p → are_bad b ≡ is_bad_count p
unfolding are_bad
bad_bounds b p h = ap (λ (x : ℕ). are_bad_turns x b.high) h.0 ∙ ap (are_bad_turns (capped_count (low p))) h.1 ∙ capped_bad p

-- ---- a count that is not bad is held as it is

pub uncapped : (n : ℕ) → nat_lt 1000 n ≡ false → min n 1001 ≡ n
uncapped n e = grind (arith, nat_tests)

pub uncapped_both : (n m : ℕ) → (nat_lt 1000 n || nat_lt 1000 m || nat_lt m n) ≡ false → (min n 1001 ≡ n) × (min m 1001 ≡ m)
uncapped_both n m e = grind (arith, nat_tests)

pub uncapped_turns : (p : Postfix) → is_bad_count p ≡ false → (capped_count (low p) ≡ low p) × (capped_bound (high p) ≡ high p)
unfolding low high
uncapped_turns ZeroOrMore e = (refl, refl)
uncapped_turns OneOrMore e = (refl, refl)
uncapped_turns Optional e = (refl, refl)
uncapped_turns (Exactly n) e = (uncapped (decimal_value n) e, ap (λ (x : ℕ). Some x) (uncapped (decimal_value n) e))
uncapped_turns (AtLeast n) e = (uncapped (decimal_value n) e, refl)
uncapped_turns (AtMost m) e = (refl, ap (λ (x : ℕ). Some x) (uncapped (decimal_value m) e))
uncapped_turns (FromTo n m) e = let u = uncapped_both (decimal_value n) (decimal_value m) e in (u.0, ap (λ (x : ℕ). Some x) u.1)

-- such bounds are those of the postfix
pub good_bounds : (b : Bounds) (p : Postfix) → are_bad b ≡ false → HoldsBounds b p → (b.low ≡ low p) × (b.high ≡ high p)
good_bounds b p good h = let u = uncapped_turns p (sym (bad_bounds b p h) ∙ good) in (h.0 ∙ u.0, h.1 ∙ u.1)

-- ---- the node of an item with its postfix

pub by_bad : (t : Bool) (A B : Type 0) → (t ≡ true → A) → (t ≡ false → B) → MatchBool t A B
by_bad true A B f g = f refl
by_bad false A B f g = g refl

pub bad_stands_alone : (nodes : List Node) (p : Postfix) (lazy : Bool) (n at : ℕ) (b : Bounds) → are_bad b ≡ true → HoldsBounds b p → IsTurns p lazy nodes n n at
bad_stands_alone nodes p lazy n at b bad h = by_bad (is_bad_count p) _ _ (λ _. refl) (λ e. absurd (cc (bad_bounds b p h)))

pub good_turns : (nodes : List Node) (p : Postfix) (lazy : Bool) (n m at : ℕ) (b : Bounds) → are_bad b ≡ false → IsNode nodes n (kinds.Rep m b.low b.high lazy) at → HoldsBounds b p → IsTurns p lazy nodes n m at
good_turns nodes p lazy n m at b good is h = by_bad (is_bad_count p) _ _ (λ e. absurd (cc (bad_bounds b p h))) (λ e.
    let u = good_bounds b p good h in
    subst (λ (x : ℕ). IsNode nodes n (kinds.Rep m x (high p) lazy) at) u.0 (subst (λ (x : Option ℕ). IsNode nodes n (kinds.Rep m b.low x lazy) at) u.1 is))

-- ---- what the builder asks

pub in_order : (low high : ℕ) → (nat_lt 1000 low || nat_lt 1000 high || nat_lt high low) ≡ false → low ≤ high
in_order low high e = grind (arith, nat_tests)

pub good_count : (b : Bounds) → are_bad b ≡ false → IsCount b.low b.high
unfolding are_bad
good_count b e = by b.low b.high e
  where
    by : (l : ℕ) (h : Option ℕ) → are_bad_turns l h ≡ false → IsCount l h
    by l None f = tt
    by l (Some h) f = in_order l h f
