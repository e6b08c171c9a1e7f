-- The least of some breaks, and which breaks a body has.
use Rattle.std.proofs.Common.{◌≡◌, ℕ, ◌+◌, Bool, true, false, List, [], ◌∷◌, ◌++◌, length, Option, Some, None, ◌⊎◌, inl, inr, nat_lt, if◌then◌else◌, refl, sym, ◌∙◌, subst, arith}
use Rattle.std.specs.Prelude.{◌==◌}
use Rattle.std.proofs.lemmas.Bool.Decides.{nat_tests}
use Rattle.kex_code.specs.Codes.{IsAmong}
use Rattle.kex_model.proofs.Shapes.{among-append}
use Rattle.kex_regexp.specs.Grammar.{Regex, Last, Or, Branch, Empty, Then, Piece, Once, Turns, Item, Plain, Escaped, Dot, Set, Group, branch, piece, item}
use Rattle.kex_regexp.specs.Breaks.{Break, BadRegex, BadCount, BadSet, OverLimit, IsLeast, comes_before, is_bad_set, offset, rank, break_if, regex_breaks, branch_breaks, piece_breaks, item_breaks}
use Rattle.kex_regexp.specs.Notes.{least_from}
use Rattle.kex_regexp.specs.Postfixes.{is_bad_count}

-- ---- an order of pairs of numbers

abbrev pub before : ℕ → ℕ → ℕ → ℕ → Bool
before a x b y = if nat_lt a b then true else if a == b then nat_lt x y else false

pub neither_before : (a x b y c z : ℕ) → before a x b y ≡ false → before b y c z ≡ false → before a x c z ≡ false
neither_before a x b y c z e f = grind (arith, nat_tests)

pub not_before : (a x b y : ℕ) → before a x b y ≡ true → before b y a x ≡ false
not_before a x b y e = grind (arith, nat_tests)

pub not_itself : (a x : ℕ) → before a x a x ≡ false
not_itself a x = grind (arith, nat_tests)

pub neither : (a b c : Break) → comes_before a b ≡ false → comes_before b c ≡ false → comes_before a c ≡ false
neither a b c e f = neither_before (rank a) (offset a) (rank b) (offset b) (rank c) (offset c) e f

pub not_after : (a b : Break) → comes_before a b ≡ true → comes_before b a ≡ false
not_after a b e = not_before (rank a) (offset a) (rank b) (offset b) e

-- ---- what a fold leaves is one of them, and none comes before it

pub record IsLeastFrom (o : Option Break) (bs : List Break) (b : Break) : Type 0 where
  pub among : (o ≡ Some b) ⊎ IsAmong bs b
  pub first : (a : Break) → o ≡ Some a → comes_before a b ≡ false
  pub rest : (c : Break) → IsAmong bs c → comes_before c b ≡ false

pub left_later : (x b : Break) (bs : List Break) → IsLeastFrom (Some x) bs b → IsLeastFrom None (x ∷ bs) b
left_later x b bs h = record {
  among = elim h.among [ inl e ↦ inr (inl (some_same x b e)) | inr i ↦ inr (inr i) ];
  first = λ a e. absurd cc;
  rest = λ c i. elim i [ inl e ↦ subst (λ (y : Break). comes_before y b ≡ false) e (h.first x refl) | inr j ↦ h.rest c j ];
}
  where
    some_same : (x b : Break) → Some x ≡ Some b → x ≡ b
    some_same x b e = cc

pub some_is : (a b : Break) → Some a ≡ Some b → a ≡ b
some_is a b e = cc

-- x comes before a, so a is left out
pub left_out : (a x b : Break) (bs : List Break) → comes_before x a ≡ true → IsLeastFrom (Some x) bs b → IsLeastFrom (Some a) (x ∷ bs) b
left_out a x b bs e h = record {
  among = elim h.among [ inl f ↦ inr (inl (some_is x b f)) | inr i ↦ inr (inr i) ];
  first = λ y f. subst (λ (z : Break). comes_before z b ≡ false) (some_is a y f) (neither a x b (not_after x a e) (h.first x refl));
  rest = λ c i. elim i [ inl f ↦ subst (λ (y : Break). comes_before y b ≡ false) f (h.first x refl) | inr j ↦ h.rest c j ];
}

-- x doesn't, so x is left out
pub left_in : (a x b : Break) (bs : List Break) → comes_before x a ≡ false → IsLeastFrom (Some a) bs b → IsLeastFrom (Some a) (x ∷ bs) b
left_in a x b bs e h = record {
  among = elim h.among [ inl f ↦ inl f | inr i ↦ inr (inr i) ];
  first = h.first;
  rest = λ c i. elim i [ inl f ↦ subst (λ (y : Break). comes_before y b ≡ false) f (neither x a b e (h.first a refl)) | inr j ↦ h.rest c j ];
}

pub by_least : (a x b : Break) (bs : List Break) (t : Bool) → comes_before x a ≡ t → least_from (if t then Some x else Some a) bs ≡ Some b → (least_from (Some x) bs ≡ Some b → IsLeastFrom (Some x) bs b) → (least_from (Some a) bs ≡ Some b → IsLeastFrom (Some a) bs b) → IsLeastFrom (Some a) (x ∷ bs) b
by_least a x b bs true f e with_x with_a = left_out a x b bs f (with_x e)
by_least a x b bs false f e with_x with_a = left_in a x b bs f (with_a e)

pub is_left : (o : Option Break) (bs : List Break) (b : Break) → least_from o bs ≡ Some b → IsLeastFrom o bs b
unfolding least_from
is_left o [] b e = record { among = inl e; first = λ a f. subst (λ (y : Break). comes_before y b ≡ false) (some_is b a (sym e ∙ f)) (not_itself (rank b) (offset b)); rest = λ c i. absurd i }
is_left None (x ∷ bs) b e = left_later x b bs (is_left (Some x) bs b e)
is_left (Some a) (x ∷ bs) b e = by_least a x b bs (comes_before x a) refl e (is_left (Some x) bs b) (is_left (Some a) bs b)

pub is_least : (bs : List Break) (b : Break) → least_from None bs ≡ Some b → IsLeast bs b
is_least bs b e = let h = is_left None bs b e in record {
  among = elim h.among [ inl f ↦ absurd cc | inr i ↦ i ];
  least = h.rest;
}

-- ---- a body's breaks are of counts, sets and nesting

unfoldable pub IsRule : Break → Type 0
IsRule (BadRegex at) = ⊥
IsRule (BadCount at) = Unit {0}
IsRule (BadSet at) = Unit {0}
IsRule (OverLimit at) = Unit {0}

abbrev pub AreRules : List Break → Type 0
AreRules bs = (b : Break) → IsAmong bs b → IsRule b

pub rules-append : (xs ys : List Break) → AreRules xs → AreRules ys → AreRules (xs ++ ys)
rules-append xs ys f g b i = elim (among-append xs ys b i) [ inl l ↦ f b l | inr r ↦ g b r ]

pub rules_break_if : (t : Bool) (b : Break) → IsRule b → AreRules (break_if t b)
rules_break_if true b h c i = elim i [ inl e ↦ subst IsRule e h | inr n ↦ absurd n ]
rules_break_if false b h c i = absurd i

mutual
  unfolding IsRule regex_breaks branch_breaks piece_breaks item_breaks

  pub regex_rules : (r : Regex) (at depth : ℕ) → AreRules (regex_breaks r at depth)
  regex_rules (Last b) at depth = branch_rules b at depth
  regex_rules (Or b r) at depth = rules-append (branch_breaks b at depth) (regex_breaks r (at + length (branch b) + 1) depth) (branch_rules b at depth) (regex_rules r (at + length (branch b) + 1) depth)

  pub branch_rules : (b : Branch) (at depth : ℕ) → AreRules (branch_breaks b at depth)
  branch_rules Empty at depth = λ b i. absurd i
  branch_rules (Then p b) at depth = rules-append (piece_breaks p at depth) (branch_breaks b (at + length (piece p)) depth) (piece_rules p at depth) (branch_rules b (at + length (piece p)) depth)

  pub piece_rules : (p : Piece) (at depth : ℕ) → AreRules (piece_breaks p at depth)
  piece_rules (Once i) at depth = item_rules i at depth
  piece_rules (Turns i p lazy) at depth = rules-append (item_breaks i at depth) (break_if (is_bad_count p) (BadCount (at + length (item i)))) (item_rules i at depth) (rules_break_if (is_bad_count p) (BadCount (at + length (item i))) tt)

  pub item_rules : (i : Item) (at depth : ℕ) → AreRules (item_breaks i at depth)
  item_rules (Plain b) at depth = λ c i. absurd i
  item_rules (Escaped e) at depth = λ c i. absurd i
  item_rules Dot at depth = λ c i. absurd i
  item_rules (Set negated ms) at depth = rules_break_if (is_bad_set negated ms) (BadSet at) tt
  item_rules (Group r) at depth = rules-append (break_if (depth == 200) (OverLimit at)) (regex_breaks r (at + 1) (depth + 1)) (rules_break_if (depth == 200) (OverLimit at) tt) (regex_rules r (at + 1) (depth + 1))
