-- A text is refused for one cause, or spells programs.
use Rattle.std.proofs.Common.{◌≡◌, ℕ, ◌<◌, ◌≤◌, true, false, if◌then◌else◌, List, length, refl, sym, ap, ◌∙◌, subst, arith}
use Rattle.std.specs.Prelude.{nat_lt, ◌==◌}
use Rattle.kex_model.specs.Programs.{Grammar}
use Rattle.kex_tokens.specs.declared.token.Token.{Token}
use Rattle.kex_tokens.specs.Texts.{AreTokens, IsBadToken, most_text}
use Rattle.kex_regexp.specs.declared.breaks.Break.{Break}
use Rattle.kex_regexp.specs.declared.breaks.Break.TheVariants.{BadRegex, BadCount, BadSet, OverLimit}
use Rattle.kex_regexp.specs.Breaks.{rank, offset as place}
use Rattle.kex_reader.specs.declared.refusal.ReadRefusal.{ReadRefusal}
use Rattle.kex_reader.specs.declared.refusal.ReadRefusal.TheVariants as refusals
use Rattle.kex_reader.specs.Syntax.{Program, program}
use Rattle.kex_reader.specs.Programs.{IsFirstWrong}
use Rattle.kex_reader.specs.Checks.{Check, SomeBreaks, IsLeastBreak, program_checks}
use Rattle.kex_reader.specs.Spelling.{words, offset, Spells, IsUnexpected, BreaksLimit, IsRefusedAs, of_limit}
use Rattle.kex_reader.proofs.Viable.{one_tree}
use Rattle.kex_reader.proofs.WrongWords.{not_both, one_wrong}

-- ---- the least break is one

level : (r o s p : ℕ) → (if nat_lt r s then true else if r == s then nat_lt o p else false) ≡ false → (if nat_lt s r then true else if s == r then nat_lt p o else false) ≡ false → (r ≡ s) × (o ≡ p)
level r o s p a b = grind (arith, a, b)

same_break : (a b : Break) → rank a ≡ rank b → place a ≡ place b → a ≡ b
same_break (BadRegex x) (BadRegex y) r o = ap BadRegex o
same_break (BadCount x) (BadCount y) r o = ap BadCount o
same_break (BadSet x) (BadSet y) r o = ap BadSet o
same_break (OverLimit x) (OverLimit y) r o = ap OverLimit o
same_break (BadRegex x) (BadCount y) r o = absurd (omega (arith, r))
same_break (BadRegex x) (BadSet y) r o = absurd (omega (arith, r))
same_break (BadRegex x) (OverLimit y) r o = absurd (omega (arith, r))
same_break (BadCount x) (BadRegex y) r o = absurd (omega (arith, r))
same_break (BadCount x) (BadSet y) r o = absurd (omega (arith, r))
same_break (BadCount x) (OverLimit y) r o = absurd (omega (arith, r))
same_break (BadSet x) (BadRegex y) r o = absurd (omega (arith, r))
same_break (BadSet x) (BadCount y) r o = absurd (omega (arith, r))
same_break (BadSet x) (OverLimit y) r o = absurd (omega (arith, r))
same_break (OverLimit x) (BadRegex y) r o = absurd (omega (arith, r))
same_break (OverLimit x) (BadCount y) r o = absurd (omega (arith, r))
same_break (OverLimit x) (BadSet y) r o = absurd (omega (arith, r))

one_least : (cs : List Check) (a b : Break) → IsLeastBreak cs a → IsLeastBreak cs b → a ≡ b
one_least cs a b m n =
    let l = level (rank a) (place a) (rank b) (place b) (n.least a m.broken) (m.least b n.broken) in
    same_break a b l.0 l.1

-- ---- causes

data Cause (text : List ℕ) : ReadRefusal → Type 0 where
  long : most_text < length text → Cause text refusals.TextTooLong
  bad : (at : ℕ) → length text ≤ most_text → IsBadToken text at → Cause text (refusals.BadToken at)
  unexpected : (at : ℕ) → length text ≤ most_text → IsUnexpected text at → Cause text (refusals.Unexpected at)
  limit : (b : Break) → length text ≤ most_text → BreaksLimit text b → Cause text (of_limit b)

cause : (text : List ℕ) (e : ReadRefusal) → (e ≡ refusals.Memory → ⊥) → IsRefusedAs text e → Cause text e
cause text refusals.TextTooLong n h = long h
cause text (refusals.BadToken at) n h = bad at h.0 h.1
cause text (refusals.Unexpected at) n h = unexpected at h.0 h.1
cause text (refusals.BadRegex at) n h = limit (BadRegex at) h.0 h.1
cause text (refusals.BadCount at) n h = limit (BadCount at) h.0 h.1
cause text (refusals.BadSet at) n h = limit (BadSet at) h.0 h.1
cause text (refusals.OverLimit at) n h = limit (OverLimit at) h.0 h.1
cause text refusals.Memory n h = absurd (n refl)

module _ (text : List ℕ) (tokens : (ts us : List Token) → AreTokens text ts → AreTokens text us → ts ≡ us) (bads : (i j : ℕ) → IsBadToken text i → IsBadToken text j → i ≡ j) (either : (ts : List Token) (i : ℕ) → AreTokens text ts → IsBadToken text i → ⊥) where
  apart : (ts : List Token) (k : ℕ) (us : List Token) (p : Program) → AreTokens text ts → IsFirstWrong (words text ts) k → AreTokens text us → program p ≡ words text us → ⊥
  apart ts k us p a w b e = not_both (words text ts) k (p, e ∙ ap (words text) (sym (tokens ts us a b))) w

  same_unexpected : (i j : ℕ) → IsUnexpected text i → IsUnexpected text j → i ≡ j
  same_unexpected i j (ts, k, a, w, e) (us, l, b, v, f) =
      let t = tokens ts us a b in
      let q = one_wrong (words text ts) k l w (subst (λ (x : List Token). IsFirstWrong (words text x) l) (sym t) v) in
      e ∙ ap (offset text ts) q ∙ ap (λ (x : List Token). offset text x l) t ∙ sym f

  same_limit : (a b : Break) → BreaksLimit text a → BreaksLimit text b → a ≡ b
  same_limit a b (ts, p, c, e, m) (us, q, d, f, n) =
      let t = tokens ts us c d in
      let r : p ≡ q = one_tree p q (e ∙ ap (words text) t ∙ sym f) in
      one_least (program_checks p (offset text ts)) a b m (subst (λ (x : Program). IsLeastBreak (program_checks x (offset text ts)) b) (sym r) (subst (λ (x : List Token). IsLeastBreak (program_checks q (offset text x)) b) (sym t) n))

  one_cause : (d e : ReadRefusal) → Cause text d → Cause text e → d ≡ e
  one_cause _ _ (long h) (long k) = refl
  one_cause _ _ (long h) (bad i l k) = absurd (omega (arith, h, l))
  one_cause _ _ (long h) (unexpected i l k) = absurd (omega (arith, h, l))
  one_cause _ _ (long h) (limit b l k) = absurd (omega (arith, h, l))
  one_cause _ _ (bad i l h) (long k) = absurd (omega (arith, k, l))
  one_cause _ _ (bad i l h) (bad j m k) = ap refusals.BadToken (bads i j h k)
  one_cause _ _ (bad i l h) (unexpected j m k) = absurd (either k.0 i k.2 h)
  one_cause _ _ (bad i l h) (limit b m k) = absurd (either k.0 i k.2 h)
  one_cause _ _ (unexpected i l h) (long k) = absurd (omega (arith, k, l))
  one_cause _ _ (unexpected i l h) (bad j m k) = absurd (either h.0 j h.2 k)
  one_cause _ _ (unexpected i l h) (unexpected j m k) = ap refusals.Unexpected (same_unexpected i j h k)
  one_cause _ _ (unexpected i l h) (limit b m k) = absurd (apart h.0 h.1 k.0 k.1 h.2 h.3 k.2 k.3)
  one_cause _ _ (limit b l h) (long k) = absurd (omega (arith, k, l))
  one_cause _ _ (limit b l h) (bad j m k) = absurd (either h.0 j h.2 k)
  one_cause _ _ (limit b l h) (unexpected j m k) = absurd (apart k.0 k.1 h.0 h.1 k.2 k.3 h.2 h.3)
  one_cause _ _ (limit b l h) (limit c m k) = ap of_limit (same_limit b c h k)

  pub one_refusal : (d e : ReadRefusal) → (d ≡ refusals.Memory → ⊥) → (e ≡ refusals.Memory → ⊥) → IsRefusedAs text d → IsRefusedAs text e → d ≡ e
  one_refusal d e n m h k = one_cause d e (cause text d n h) (cause text e m k)

  not_caused : (P : Grammar) (e : ReadRefusal) → Spells text P → Cause text e → ⊥
  not_caused P _ s (long h) = omega (arith, s.short, h)
  not_caused P _ s (bad i l h) = either s.tokens i s.cut h
  not_caused P _ s (unexpected i l h) = apart h.0 h.1 s.tokens s.tree h.2 h.3 s.cut s.derived
  not_caused P _ s (limit b l (ts, q, d, f, n)) =
      let t = tokens s.tokens ts s.cut d in
      let r : s.tree ≡ q = one_tree s.tree q (s.derived ∙ ap (words text) t ∙ sym f) in
      s.within b (subst (λ (x : Program). SomeBreaks (program_checks x (offset text s.tokens)) b) (sym r) (subst (λ (x : List Token). SomeBreaks (program_checks q (offset text x)) b) (sym t) n.broken))

  pub not_refused : (P : Grammar) (e : ReadRefusal) → (e ≡ refusals.Memory → ⊥) → Spells text P → IsRefusedAs text e → ⊥
  not_refused P e n s h = not_caused P e s (cause text e n h)
