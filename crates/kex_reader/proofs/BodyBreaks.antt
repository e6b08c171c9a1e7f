-- What a refused body breaks.
use Rattle.std.proofs.Common.{◌≡◌, ℕ, ◌+◌, false, List, [], ◌∷◌, ap, ◌∙◌, subst, arith}
use Rattle.kex_code.specs.Codes.{IsAmong}
use Rattle.kex_regexp.specs.declared.breaks.Break.{Break}
use Rattle.kex_regexp.specs.declared.breaks.Break.TheVariants.{BadRegex, BadCount, BadSet, OverLimit}
use Rattle.kex_regexp.specs.Breaks.{comes_before, regex_breaks}
use Rattle.kex_regexp.specs.Bodies.{SpellsRegex, IsBody, IsFirstWrong, BreaksFirst, IsRefusal, fault_of}
use Rattle.kex_regexp.specs.Grammar.{Regex}
use Rattle.kex_reader.specs.Checks.{BodyBreaks}
use Rattle.kex_reader.proofs.LeastBreak.{never_itself}

pub broken_is : (body : List ℕ) (at depth : ℕ) (b : Break) → IsRefusal body at depth (fault_of b) → BodyBreaks body at depth b
broken_is body at depth (BadRegex p) h = h
broken_is body at depth (BadCount p) h = h
broken_is body at depth (BadSet p) h = h
broken_is body at depth (OverLimit p) h = h

module _ (body : List ℕ) (tree : (r q : Regex) → SpellsRegex r body → SpellsRegex q body → r ≡ q) (wrong : (j k : ℕ) → IsFirstWrong body j → IsFirstWrong body k → j ≡ k) (either : (k : ℕ) → IsBody body → IsFirstWrong body k → ⊥) where
  firsts : (at depth : ℕ) (a b : Break) → BreaksFirst body at depth a → BreaksFirst body at depth b → comes_before b a ≡ false
  firsts at depth a b (r, s, l) (q, t, m) = l.least b (subst (λ (x : Regex). IsAmong (regex_breaks x at depth) b) (tree q r t s) m.among)

  wrongs : (at depth j k p q : ℕ) → IsFirstWrong body j → IsFirstWrong body k → p ≡ at + j → q ≡ at + k → comes_before (BadRegex q) (BadRegex p) ≡ false
  wrongs at depth j k p q a b e f =
      let same : q ≡ p = omega (arith, e, f, wrong j k a b) in
      ap (λ (x : ℕ). comes_before (BadRegex x) (BadRegex p)) same ∙ never_itself (BadRegex p)

  -- no other break of the body comes before the one that it is refused for
  pub first_breaks : (at depth : ℕ) (a b : Break) → BodyBreaks body at depth a → BodyBreaks body at depth b → comes_before b a ≡ false
  first_breaks at depth (BadRegex p) (BadRegex q) g h = wrongs at depth g.0 h.0 p q g.2 h.2 g.1 h.1
  first_breaks at depth (BadRegex p) (BadCount q) g h = absurd (either g.0 (h.0, h.1) g.2)
  first_breaks at depth (BadRegex p) (BadSet q) g h = absurd (either g.0 (h.0, h.1) g.2)
  first_breaks at depth (BadRegex p) (OverLimit q) g h = absurd (either g.0 (h.0, h.1) g.2)
  first_breaks at depth (BadCount p) (BadRegex q) g h = absurd (either h.0 (g.0, g.1) h.2)
  first_breaks at depth (BadSet p) (BadRegex q) g h = absurd (either h.0 (g.0, g.1) h.2)
  first_breaks at depth (OverLimit p) (BadRegex q) g h = absurd (either h.0 (g.0, g.1) h.2)
  first_breaks at depth (BadCount p) (BadCount q) g h = firsts at depth (BadCount p) (BadCount q) g h
  first_breaks at depth (BadCount p) (BadSet q) g h = firsts at depth (BadCount p) (BadSet q) g h
  first_breaks at depth (BadCount p) (OverLimit q) g h = firsts at depth (BadCount p) (OverLimit q) g h
  first_breaks at depth (BadSet p) (BadCount q) g h = firsts at depth (BadSet p) (BadCount q) g h
  first_breaks at depth (BadSet p) (BadSet q) g h = firsts at depth (BadSet p) (BadSet q) g h
  first_breaks at depth (BadSet p) (OverLimit q) g h = firsts at depth (BadSet p) (OverLimit q) g h
  first_breaks at depth (OverLimit p) (BadCount q) g h = firsts at depth (OverLimit p) (BadCount q) g h
  first_breaks at depth (OverLimit p) (BadSet q) g h = firsts at depth (OverLimit p) (BadSet q) g h
  first_breaks at depth (OverLimit p) (OverLimit q) g h = firsts at depth (OverLimit p) (OverLimit q) g h

  none_in : {A : Type 0} (xs : List A) (x : A) → xs ≡ [] → IsAmong xs x → ⊥
  none_in [] x e h = h
  none_in (y ∷ xs) x e h = absurd cc

  -- a body that breaks nothing is not refused
  pub no_breaks : (at depth : ℕ) (r : Regex) → SpellsRegex r body → regex_breaks r at depth ≡ [] → (b : Break) → BodyBreaks body at depth b → ⊥
  no_breaks at depth r s e (BadRegex p) h = either h.0 (r, s) h.2
  no_breaks at depth r s e (BadCount p) h = none_in (regex_breaks h.0 at depth) (BadCount p) (ap (λ (x : Regex). regex_breaks x at depth) (tree h.0 r h.1 s) ∙ e) h.2.among
  no_breaks at depth r s e (BadSet p) h = none_in (regex_breaks h.0 at depth) (BadSet p) (ap (λ (x : Regex). regex_breaks x at depth) (tree h.0 r h.1 s) ∙ e) h.2.among
  no_breaks at depth r s e (OverLimit p) h = none_in (regex_breaks h.0 at depth) (OverLimit p) (ap (λ (x : Regex). regex_breaks x at depth) (tree h.0 r h.1 s) ∙ e) h.2.among
