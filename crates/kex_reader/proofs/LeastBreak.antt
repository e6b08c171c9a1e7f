-- The least limit that is broken, check by check.
use Rattle.std.proofs.Common.{◌≡◌, ℕ, Bool, true, false, if◌then◌else◌, List, [], ◌∷◌, ◌++◌, ◌⊎◌, inl, inr, Option, Some, None, refl, sym, ap, ◌∙◌, subst, arith}
use Rattle.std.specs.Prelude.{nat_lt, ◌==◌}
use Rattle.kex_code.specs.Codes.{IsAmong}
use Rattle.kex_regexp.specs.declared.breaks.Break.{Break}
use Rattle.kex_regexp.specs.Breaks.{rank, offset, comes_before}
use Rattle.kex_regexp.specs.Notes.{lesser_of}
use Rattle.kex_reader.specs.Checks.{Check, Breaks, SomeBreaks, IsLeastBreak}
use Rattle.kex_reader.specs.Stands.{NotesLeast}

-- ---- the order

abbrev before : ℕ → ℕ → ℕ → ℕ → Bool
before r o s p = if nat_lt r s then true else if r == s then nat_lt o p else false

not_through : (r o s p t q : ℕ) → before r o s p ≡ false → before s p t q ≡ false → before r o t q ≡ false
not_through r o s p t q a b = grind (arith, a, b)

through : (r o s p t q : ℕ) → before r o s p ≡ false → before t q s p ≡ true → before r o t q ≡ false
through r o s p t q a b = grind (arith, a, b)

never : (r o : ℕ) → before r o r o ≡ false
never r o = grind arith

pub never_itself : (a : Break) → comes_before a a ≡ false
never_itself a = never (rank a) (offset a)

-- ---- checks

pub split : (cs : List Check) (c : Check) (b : Break) → SomeBreaks (cs ++ c ∷ []) b → SomeBreaks cs b ⊎ Breaks c b
split [] c b (d, inl e, h) = inr (subst (λ (x : Check). Breaks x b) (sym e) h)
split [] c b (d, inr e, h) = absurd e
split (x ∷ cs) c b (d, inl e, h) = inl (d, inl e, h)
split (x ∷ cs) c b (d, inr e, h) = elim (split cs c b (d, e, h)) [ inl g ↦ inl (g.0, inr g.1, g.2) | inr g ↦ inr g ]

pub among_left : {A : Type 0} (xs ys : List A) (y : A) → IsAmong xs y → IsAmong (xs ++ ys) y
among_left [] ys y h = absurd h
among_left (x ∷ xs) ys y (inl h) = inl h
among_left (x ∷ xs) ys y (inr h) = inr (among_left xs ys y h)

pub among_last : {A : Type 0} (xs : List A) (x : A) → IsAmong (xs ++ x ∷ []) x
among_last [] x = inl refl
among_last (y ∷ xs) x = inr (among_last xs x)

pub fewer : (cs ds : List Check) (b : Break) → SomeBreaks cs b → SomeBreaks (cs ++ ds) b
fewer cs ds b (c, m, h) = (c, among_left cs ds c m, h)

-- what a check's own break is to what was noted before
least_lesser : (t : Bool) (a b : Break) (cs : List Check) (c : Check) → comes_before b a ≡ t → IsLeastBreak cs a → Breaks c b → ((other : Break) → Breaks c other → comes_before other b ≡ false) → NotesLeast (cs ++ c ∷ []) (if t then Some b else Some a)
least_lesser true a b cs c e n h k = record {
  broken = (c, among_last cs c, h);
  least = λ other s. elim (split cs c other s) [ inl g ↦ through (rank other) (offset other) (rank a) (offset a) (rank b) (offset b) (n.least other g) e | inr g ↦ k other g ];
}
least_lesser false a b cs c e n h k = record {
  broken = fewer cs (c ∷ []) a n.broken;
  least = λ other s. elim (split cs c other s) [ inl g ↦ n.least other g | inr g ↦ not_through (rank other) (offset other) (rank b) (offset b) (rank a) (offset a) (k other g) e ];
}

-- a check that is broken, and in no way that comes before this one
pub noted_more : (o : Option Break) (b : Break) (cs : List Check) (c : Check) → NotesLeast cs o → Breaks c b → ((other : Break) → Breaks c other → comes_before other b ≡ false) → NotesLeast (cs ++ c ∷ []) (lesser_of o (Some b))
unfolding lesser_of
noted_more None b cs c n h k = record {
  broken = (c, among_last cs c, h);
  least = λ other s. elim (split cs c other s) [ inl g ↦ absurd (n other g) | inr g ↦ k other g ];
}
noted_more (Some a) b cs c n h k = least_lesser (comes_before b a) a b cs c refl n h k

-- a check that isn't broken
pub noted_same : (o : Option Break) (cs : List Check) (c : Check) → NotesLeast cs o → ((b : Break) → Breaks c b → ⊥) → NotesLeast (cs ++ c ∷ []) o
noted_same None cs c n k = λ b s. elim (split cs c b s) [ inl g ↦ n b g | inr g ↦ k b g ]
noted_same (Some a) cs c n k = record {
  broken = fewer cs (c ∷ []) a n.broken;
  least = λ other s. elim (split cs c other s) [ inl g ↦ n.least other g | inr g ↦ absurd (k other g) ];
}

-- a check that is broken in one way
pub noted_one : (o : Option Break) (b : Break) (cs : List Check) (c : Check) → NotesLeast cs o → Breaks c b → ((other : Break) → Breaks c other → other ≡ b) → NotesLeast (cs ++ c ∷ []) (lesser_of o (Some b))
noted_one o b cs c n h k = noted_more o b cs c n h (λ other g. ap (λ (x : Break). comes_before x b) (k other g) ∙ never_itself b)

none_of : (t : Bool) (a b : Break) → (if t then Some b else Some a) ≡ None → ⊥
none_of true a b e = cc
none_of false a b e = cc

pub never_none : (o : Option Break) (b : Break) → lesser_of o (Some b) ≡ None → ⊥
unfolding lesser_of
never_none None b e = cc
never_none (Some a) b e = none_of (comes_before b a) a b e
