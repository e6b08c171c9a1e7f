-- What was noted of the checks so far, when a word asks more.
use Rattle.std.proofs.Common.{◌≡◌, ℕ, ◌+◌, Bool, true, false, List, [], ◌∷◌, ◌++◌, length, Option, Some, Result, Ok, Err, refl, sym, ap, ◌∙◌, subst}
use Rattle.std.specs.Prelude.{OnOk}
use Rattle.std.proofs.lemmas.List.{append-nil}
use Rattle.kex_regexp.specs.declared.breaks.Break.{Break}
use Rattle.kex_regexp.specs.declared.breaks.Break.TheVariants.{BadCount}
use Rattle.kex_regexp.specs.Notes.{lesser_of}
use Rattle.kex_tokens.specs.declared.token.TokenKind.{TokenKind}
use Rattle.kex_tokens.specs.declared.token.TokenKind.TheVariants as kinds
use Rattle.kex_reader.specs.Syntax.{between, word, Word, Postfix, ZeroOrMore, OneOrMore, Optional, Exactly, AtLeast, AtMost, FromTo, Atom, Once, Call, atom, postfix}
use Rattle.kex_reader.specs.Reading.{Entry, Counting, Mode, Need, Ready, After, Turned, Named, InCount, Inside, count_step, with_pre}
use Rattle.kex_reader.specs.Checks.{Check, Nested, Counted, Matched, postfix_checks}
use Rattle.kex_regexp.specs.Postfixes.{is_bad_count}
use Rattle.kex_reader.specs.Stands.{NotesLeast, depth, begin_asks, after_asks, turned_asks, named_asks, count_asks, asks}
use Rattle.kex_reader.proofs.LeastBreak.{noted_one, noted_same}

pub same : (cs : List Check) (o : Option Break) → NotesLeast cs o → NotesLeast (cs ++ []) o
same cs o n = subst (λ (x : List Check). NotesLeast x o) (sym (append-nil cs)) n

pub on_same : {A B : Type 0} (r : Result A B) (cs : List Check) (o p : Option Break) → OnOk r (p ≡ o) → NotesLeast cs o → OnOk r (NotesLeast (cs ++ []) p)
on_same (Ok a) cs o p e n = subst (λ (x : Option Break). NotesLeast (cs ++ []) x) (sym e) (same cs o n)
on_same (Err b) cs o p e n = tt

pub on_apply : {A B : Type 0} (r : Result A B) (cs ds : List Check) (o p : Option Break) → OnOk r ((cs : List Check) → NotesLeast cs o → NotesLeast (cs ++ ds) p) → NotesLeast cs o → OnOk r (NotesLeast (cs ++ ds) p)
on_apply (Ok a) cs ds o p f n = f cs n
on_apply (Err b) cs ds o p f n = tt

pub on_from : {A B : Type 0} (r : Result A B) (cs ds es : List Check) (o : Option Break) → ds ≡ es → OnOk r (NotesLeast (cs ++ ds) o) → OnOk r (NotesLeast (cs ++ es) o)
on_from r cs ds es o e h = subst (λ (x : List Check). OnOk r (NotesLeast (cs ++ x) o)) e h

pub moved : (cs : List Check) (o p : Option Break) → p ≡ o → NotesLeast cs o → NotesLeast cs p
moved cs o p e n = subst (λ (x : Option Break). NotesLeast cs x) (sym e) n

-- ---- words that ask nothing

abbrev pub IsQuiet : TokenKind → Type 0
IsQuiet kinds.Tilde = ⊥
IsQuiet kinds.OpenParen = ⊥
IsQuiet kinds.Regex = ⊥
IsQuiet _ = Unit {0}

module _ (at : ℕ → ℕ) (i : ℕ) (es : List Entry) (b : List ℕ) where
  quiet : (j : TokenKind) → IsQuiet j → begin_asks at i es (word j b) ≡ []
  unfolding begin_asks
  quiet kinds.Tilde q = absurd q
  quiet kinds.OpenParen q = absurd q
  quiet kinds.Regex q = absurd q
  quiet _ q = refl

  pub begin_quiet : (k j : TokenKind) → k ≡ j → IsQuiet j → [] ≡ begin_asks at i es (word k b)
  begin_quiet k j e q = sym (ap (λ (x : TokenKind). begin_asks at i es (word x b)) e ∙ quiet j q)

  pub begin_regex_asks : (k : TokenKind) (a d : ℕ) → k ≡ kinds.Regex → a ≡ at i → d ≡ depth es → Matched (a + 1) d (between b) ∷ [] ≡ begin_asks at i es (word k b)
  unfolding begin_asks
  begin_regex_asks k a d e f g = ap (λ (x : ℕ). Matched (x + 1) d (between b) ∷ []) f ∙ ap (λ (x : ℕ). Matched (at i + 1) x (between b) ∷ []) g ∙ sym (ap (λ (x : TokenKind). begin_asks at i es (word x b)) e)

  pub begin_tilde_asks : (k : TokenKind) (a d : ℕ) → k ≡ kinds.Tilde → a ≡ at i → d ≡ depth es → Nested a d ∷ [] ≡ begin_asks at i es (word k b)
  unfolding begin_asks
  begin_tilde_asks k a d e f g = ap (λ (x : ℕ). Nested x d ∷ []) f ∙ ap (λ (x : ℕ). Nested (at i) x ∷ []) g ∙ sym (ap (λ (x : TokenKind). begin_asks at i es (word x b)) e)

  pub begin_paren_asks : (k : TokenKind) (a d : ℕ) → k ≡ kinds.OpenParen → a ≡ at i → d ≡ depth es → Nested a d ∷ [] ≡ begin_asks at i es (word k b)
  unfolding begin_asks
  begin_paren_asks k a d e f g = ap (λ (x : ℕ). Nested x d ∷ []) f ∙ ap (λ (x : ℕ). Nested (at i) x ∷ []) g ∙ sym (ap (λ (x : TokenKind). begin_asks at i es (word x b)) e)

abbrev pub IsSign : TokenKind → Type 0
IsSign kinds.Star = Unit {0}
IsSign kinds.Plus = Unit {0}
IsSign kinds.Question = Unit {0}
IsSign kinds.OpenBrace = Unit {0}
IsSign _ = ⊥

signs : (at : ℕ → ℕ) (i : ℕ) (a : Atom) (es : List Entry) (b : List ℕ) (j : TokenKind) → IsSign j → after_asks at i a es (word j b) ≡ []
unfolding after_asks
signs at i a es b kinds.Star q = refl
signs at i a es b kinds.Plus q = refl
signs at i a es b kinds.Question q = refl
signs at i a es b kinds.OpenBrace q = refl
signs at i a es b _ q = absurd q

pub after_quiet : (at : ℕ → ℕ) (i : ℕ) (a : Atom) (es : List Entry) (b : List ℕ) (k j : TokenKind) → k ≡ j → IsSign j → [] ≡ after_asks at i a es (word k b)
after_quiet at i a es b k j e q = sym (ap (λ (x : TokenKind). after_asks at i a es (word x b)) e ∙ signs at i a es b j q)

pub after_begins : (at : ℕ → ℕ) (i : ℕ) (a : Atom) (es : List Entry) (b : List ℕ) (k : TokenKind) → (k ≡ kinds.Star → ⊥) → (k ≡ kinds.Plus → ⊥) → (k ≡ kinds.Question → ⊥) → (k ≡ kinds.OpenBrace → ⊥) → begin_asks at i (with_pre (Once a) es) (word k b) ≡ after_asks at i a es (word k b)
unfolding after_asks
after_begins at i a es b kinds.Star n1 n2 n3 n4 = absurd (n1 refl)
after_begins at i a es b kinds.Plus n1 n2 n3 n4 = absurd (n2 refl)
after_begins at i a es b kinds.Question n1 n2 n3 n4 = absurd (n3 refl)
after_begins at i a es b kinds.OpenBrace n1 n2 n3 n4 = absurd (n4 refl)
after_begins at i a es b _ n1 n2 n3 n4 = refl

pub named_at_asks : (at : ℕ → ℕ) (i : ℕ) (n : List ℕ) (es : List Entry) (b : List ℕ) (k : TokenKind) (a d : ℕ) → k ≡ kinds.At → a ≡ at i → d ≡ depth es → Nested a d ∷ [] ≡ named_asks at i n es (word k b)
unfolding named_asks
named_at_asks at i n es b k a d e f g = ap (λ (x : ℕ). Nested x d ∷ []) f ∙ ap (λ (x : ℕ). Nested (at i) x ∷ []) g ∙ sym (ap (λ (x : TokenKind). named_asks at i n es (word x b)) e)

pub named_after : (at : ℕ → ℕ) (i : ℕ) (n : List ℕ) (es : List Entry) (b : List ℕ) (k : TokenKind) → (k ≡ kinds.At → ⊥) → (k ≡ kinds.Define → ⊥) → after_asks at (i + 1) (Call n) es (word k b) ≡ named_asks at i n es (word k b)
unfolding named_asks
named_after at i n es b kinds.At n1 n2 = absurd (n1 refl)
named_after at i n es b kinds.Define n1 n2 = absurd (n2 refl)
named_after at i n es b _ n1 n2 = refl

-- ---- counts

pub good_count : (p : Postfix) (cs : List Check) (o : Option Break) (brace : ℕ) → is_bad_count p ≡ false → NotesLeast cs o → NotesLeast (cs ++ postfix_checks p brace) o
unfolding postfix_checks
good_count ZeroOrMore cs o brace e n = same cs o n
good_count OneOrMore cs o brace e n = same cs o n
good_count Optional cs o brace e n = same cs o n
good_count (Exactly m) cs o brace e n = noted_same o cs (Counted brace (Exactly m)) n (λ b h. apart (is_bad_count (Exactly m)) h.0 e)
  where
    apart : (t : Bool) → t ≡ true → t ≡ false → ⊥
    apart true f g = cc
    apart false f g = cc
good_count (AtLeast m) cs o brace e n = noted_same o cs (Counted brace (AtLeast m)) n (λ b h. cc)
good_count (AtMost m) cs o brace e n = noted_same o cs (Counted brace (AtMost m)) n (λ b h. cc)
good_count (FromTo m k) cs o brace e n = noted_same o cs (Counted brace (FromTo m k)) n (λ b h. cc)

pub bad_count : (p : Postfix) (cs : List Check) (o : Option Break) (brace : ℕ) → is_bad_count p ≡ true → NotesLeast cs o → NotesLeast (cs ++ postfix_checks p brace) (lesser_of o (Some (BadCount brace)))
unfolding postfix_checks
bad_count ZeroOrMore cs o brace e n = absurd cc
bad_count OneOrMore cs o brace e n = absurd cc
bad_count Optional cs o brace e n = absurd cc
bad_count (Exactly m) cs o brace e n = noted_one o (BadCount brace) cs (Counted brace (Exactly m)) n (e, refl) (λ other h. h.1)
bad_count (AtLeast m) cs o brace e n = noted_one o (BadCount brace) cs (Counted brace (AtLeast m)) n (e, refl) (λ other h. h.1)
bad_count (AtMost m) cs o brace e n = noted_one o (BadCount brace) cs (Counted brace (AtMost m)) n (e, refl) (λ other h. h.1)
bad_count (FromTo m k) cs o brace e n = noted_one o (BadCount brace) cs (Counted brace (FromTo m k)) n (e, refl) (λ other h. h.1)

-- the count of this postfix is noted at its brace
pub count_noted : (p : Postfix) (cs : List Check) (o : Option Break) (brace from : ℕ) → brace ≡ from → is_bad_count p ≡ true → NotesLeast cs o → NotesLeast (cs ++ postfix_checks p from) (lesser_of o (Some (BadCount brace)))
count_noted p cs o brace from e bad n = subst (λ (x : ℕ). NotesLeast (cs ++ postfix_checks p x) (lesser_of o (Some (BadCount brace)))) e (bad_count p cs o brace bad n)

pub on_refl : {A B : Type 0} (r : Result A B) (o : Option Break) → OnOk r (o ≡ o)
on_refl (Ok a) o = refl
on_refl (Err b) o = tt

pub call_asks : (at : ℕ → ℕ) (i : ℕ) (n : List ℕ) (es : List Entry) (w : Word) → after_asks at (i + length (atom (Call n))) (Call n) es w ≡ after_asks at (i + 1) (Call n) es w
unfolding atom
call_asks at i n es w = refl

-- ---- modes

module _ (at : ℕ → ℕ) (k : ℕ) (i : Inside) (w : Word) where
  pub need_asks : i.mode ≡ Need → begin_asks at k i.entries w ≡ asks at k i.mode i.entries w
  unfolding asks
  need_asks e = sym (ap (λ (m : Mode). asks at k m i.entries w) e)

  pub ready_asks : i.mode ≡ Ready → begin_asks at k i.entries w ≡ asks at k i.mode i.entries w
  unfolding asks
  ready_asks e = sym (ap (λ (m : Mode). asks at k m i.entries w) e)

  pub mode_after_asks : (a : Atom) → i.mode ≡ After a → after_asks at (k + length (atom a)) a i.entries w ≡ asks at k i.mode i.entries w
  unfolding asks
  mode_after_asks a e = sym (ap (λ (m : Mode). asks at k m i.entries w) e)

  pub mode_turned_asks : (a : Atom) (p : Postfix) → i.mode ≡ Turned a p → turned_asks at (k + length (atom a ++ postfix p)) a p i.entries w ≡ asks at k i.mode i.entries w
  unfolding asks
  mode_turned_asks a p e = sym (ap (λ (m : Mode). asks at k m i.entries w) e)

  pub mode_named_asks : (f : Bool) (n : List ℕ) → i.mode ≡ Named f n → named_asks at k n i.entries w ≡ asks at k i.mode i.entries w
  unfolding asks
  mode_named_asks f n e = sym (ap (λ (m : Mode). asks at k m i.entries w) e)

  pub mode_count_asks : (a : Atom) (c : Counting) → i.mode ≡ InCount a c → count_asks (at (k + length (atom a))) (count_step c w) ≡ asks at k i.mode i.entries w
  unfolding asks
  mode_count_asks a c e = sym (ap (λ (m : Mode). asks at k m i.entries w) e)

abbrev pub IsQuietMode : Mode → Type 0
IsQuietMode Need = ⊥
IsQuietMode Ready = ⊥
IsQuietMode (After a) = ⊥
IsQuietMode (Turned a p) = ⊥
IsQuietMode (Named f n) = ⊥
IsQuietMode (InCount a c) = ⊥
IsQuietMode _ = Unit {0}

quiet_asks : (at : ℕ → ℕ) (k : ℕ) (es : List Entry) (m : Mode) (w : Word) → IsQuietMode m → [] ≡ asks at k m es w
unfolding asks
quiet_asks at k es Need w q = absurd q
quiet_asks at k es Ready w q = absurd q
quiet_asks at k es (After a) w q = absurd q
quiet_asks at k es (Turned a p) w q = absurd q
quiet_asks at k es (Named f n) w q = absurd q
quiet_asks at k es (InCount a c) w q = absurd q
quiet_asks at k es _ w q = refl

pub quiet_mode : (at : ℕ → ℕ) (k : ℕ) (i : Inside) (m : Mode) (w : Word) → i.mode ≡ m → IsQuietMode m → [] ≡ asks at k i.mode i.entries w
quiet_mode at k i m w e q = quiet_asks at k i.entries m w q ∙ sym (ap (λ (x : Mode). asks at k x i.entries w) e)
