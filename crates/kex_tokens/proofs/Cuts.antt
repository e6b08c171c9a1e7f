-- Pieces grow at their end; no text has two cuts; and what each token of a cut is.
use Rattle.std.proofs.Common.{◌≡◌, ℕ, ◌+◌, ◌-◌, ◌<◌, ◌≤◌, List, [], ◌∷◌, ◌++◌, length, take, drop, Option, Some, None, Result, Ok, Err, Vec, Global, refl, sym, ap, ◌∙◌, subst, arith, append_assoc, append-nil, length-drop, inl, inr}
use Rattle.std.specs.Prelude.{◌⊎◌, All, IfOk, IfErr, MatchResult}
use Rattle.std.proofs.Math.ListN.{drop_of_length-le}
use Rattle.std.proofs.lemmas.List.Elements.{All-append, All-nil, All-cons}
use Rattle.kex_tokens.specs.declared.token.Token.{Token}
use Rattle.kex_tokens.specs.declared.token.TokenFault.{TokenFault}
use Rattle.kex_tokens.specs.declared.token.TokenFault.TheVariants.{TextTooLong, BadToken, Memory}
use Rattle.kex_tokens.specs.Lexemes.{Lexeme, Space, LineComment, BlockComment, Kept, SizedLexeme, IsToken, IsLexeme, IsLongest, HasNoLexeme}
use Rattle.kex_tokens.specs.Scanning.{lexeme}
use Rattle.kex_tokens.specs.Texts.{Covers, added_tokens, tokens_of, AreTokens, IsBadToken, IsSpan, AreInOrder, AreTokensRefused, most_text}
use Rattle.kex_tokens.proofs.Front.{found_longest, longest_filled, longest_found}

-- ---- the loop

-- the text up to here is cut, and these are its tokens
pub record IsCutTo (text : List ℕ) (at : ℕ) (ts : List Token) : Type 0 where
  pub pieces : List SizedLexeme
  pub covers : Covers text 0 pieces at
  pub tokens : tokens_of 0 pieces ≡ ts
  pub inside : at ≤ length text

pub cut_begins : (text : List ℕ) (ts : List Token) → ts ≡ [] → IsCutTo text 0 ts
unfolding Covers tokens_of
cut_begins text ts e = record { pieces = []; covers = refl; tokens = sym e; inside = omega arith }

pub covers_more : (text : List ℕ) (from : ℕ) (ps : List SizedLexeme) (to : ℕ) (p : SizedLexeme) → Covers text from ps to → IsLongest (drop to text) p → Covers text from (ps ++ p ∷ []) (to + p.long)
unfolding Covers
covers_more text from [] to p c h = (subst (λ (x : ℕ). IsLongest (drop x text) p) (sym c) h, ap (λ (x : ℕ). x + p.long) c)
covers_more text from (q ∷ ps) to p c h = (c.0, covers_more text (from + q.long) ps to p c.1 h)

-- a piece more is a token more, or none
pub tokens_more : (text : List ℕ) (from : ℕ) (ps : List SizedLexeme) (to : ℕ) (p : SizedLexeme) → Covers text from ps to → tokens_of from (ps ++ p ∷ []) ≡ tokens_of from ps ++ added_tokens p.lexeme to (to + p.long)
unfolding Covers tokens_of
tokens_more text from [] to p c = ap (λ (x : ℕ). added_tokens p.lexeme x (x + p.long) ++ []) c ∙ append-nil (added_tokens p.lexeme to (to + p.long))
tokens_more text from (q ∷ ps) to p c =
    ap (λ (ts : List Token). added_tokens q.lexeme from (from + q.long) ++ ts) (tokens_more text (from + q.long) ps to p c.1) ∙ sym (append_assoc (added_tokens q.lexeme from (from + q.long)) (tokens_of (from + q.long) ps) (added_tokens p.lexeme to (to + p.long)))

pub cut_goes_on : (text : List ℕ) (at to : ℕ) (ts new : List Token) (p : SizedLexeme) → IsCutTo text at ts → IsLongest (drop at text) p → to ≡ at + p.long → to ≤ length text → new ≡ ts ++ added_tokens p.lexeme at to → IsCutTo text to new
cut_goes_on text at to ts new p c h e i n = record {
  pieces = c.pieces ++ p ∷ [];
  covers = subst (λ (x : ℕ). Covers text 0 (c.pieces ++ p ∷ []) x) (sym e) (covers_more text 0 c.pieces at p c.covers h);
  tokens = tokens_more text 0 c.pieces at p c.covers ∙ ap (λ (us : List Token). us ++ added_tokens p.lexeme at (at + p.long)) c.tokens ∙ ap (λ (x : ℕ). ts ++ added_tokens p.lexeme at x) (sym e) ∙ sym n;
  inside = i;
}

pub cut_is_whole : (text : List ℕ) (at : ℕ) (ts : List Token) → IsCutTo text at ts → length text ≤ at → AreTokens text ts
cut_is_whole text at ts c h =
    let e : at ≡ length text = omega (arith, c.inside, h) in
    (c.pieces, subst (λ (x : ℕ). Covers text 0 c.pieces x) e c.covers, c.tokens)

pub cut_ends : (text : List ℕ) (at : ℕ) (ts : List Token) → IsCutTo text at ts → at < length text → HasNoLexeme (drop at text) → IsBadToken text at
cut_ends text at ts c h n = (c.pieces, c.covers, h, n)

-- ---- one cut

pub nothing_left : (text : List ℕ) (at : ℕ) → length text ≤ at → lexeme (drop at text) ≡ None
unfolding lexeme
nothing_left text at h = ap lexeme (drop_of_length-le text h)

pub one_cover : (text : List ℕ) (from : ℕ) (ps : List SizedLexeme) (a : ℕ) (qs : List SizedLexeme) (b : ℕ) → Covers text from ps a → Covers text from qs b → lexeme (drop a text) ≡ None → lexeme (drop b text) ≡ None → (ps ≡ qs) × (a ≡ b)
unfolding Covers
one_cover text from [] a [] b c d e f = (refl, sym c ∙ d)
one_cover text from [] a (q ∷ qs) b c d e f =
    let found : lexeme (drop from text) ≡ Some q = longest_found (drop from text) q d.0 in
    let none : lexeme (drop from text) ≡ None = ap (λ (x : ℕ). lexeme (drop x text)) c ∙ e in
    absurd cc
one_cover text from (p ∷ ps) a [] b c d e f =
    let found : lexeme (drop from text) ≡ Some p = longest_found (drop from text) p c.0 in
    let none : lexeme (drop from text) ≡ None = ap (λ (x : ℕ). lexeme (drop x text)) d ∙ f in
    absurd cc
one_cover text from (p ∷ ps) a (q ∷ qs) b c d e f =
    let first : lexeme (drop from text) ≡ Some p = longest_found (drop from text) p c.0 in
    let second : lexeme (drop from text) ≡ Some q = longest_found (drop from text) q d.0 in
    let same : q ≡ p = cc in
    let rest = one_cover text (from + p.long) ps a qs b c.1 (subst (λ (r : SizedLexeme). Covers text (from + r.long) qs b) same d.1) e f in
    (ap (λ (r : SizedLexeme). r ∷ ps) (sym same) ∙ ap (λ (rs : List SizedLexeme). q ∷ rs) rest.0, rest.1)

pub none_there : (bytes : List ℕ) → HasNoLexeme bytes → lexeme bytes ≡ None
none_there bytes h = go (lexeme bytes) refl
  where
    go : (o : Option SizedLexeme) → lexeme bytes ≡ o → lexeme bytes ≡ None
    go None e = e
    go (Some p) e = let l = found_longest bytes p e in absurd (h p.lexeme p.long l.is)

pub one_cut : (text : List ℕ) (ts us : List Token) → AreTokens text ts → AreTokens text us → ts ≡ us
one_cut text ts us h k =
    let end = nothing_left text (length text) (omega arith) in
    let same = one_cover text 0 h.0 (length text) k.0 (length text) h.1 k.1 end end in
    sym h.2 ∙ ap (tokens_of 0) same.0 ∙ k.2

pub no_cut_and_bad : (text : List ℕ) (ts : List Token) (at : ℕ) → AreTokens text ts → IsBadToken text at → ⊥
no_cut_and_bad text ts at h k =
    let same = one_cover text 0 h.0 (length text) k.0 at h.1 k.1 (nothing_left text (length text) (omega arith)) (none_there (drop at text) k.3) in
    absurd (omega (arith, same.1, k.2))

pub one_bad : (text : List ℕ) (a b : ℕ) → IsBadToken text a → IsBadToken text b → a ≡ b
one_bad text a b h k = let same = one_cover text 0 h.0 a k.0 b h.1 k.1 (none_there (drop a text) h.3) (none_there (drop b text) k.3) in same.1

-- ---- what each token is

pub long_inside : (text : List ℕ) (at : ℕ) (p : SizedLexeme) → IsLongest (drop at text) p → at + p.long ≤ length text
long_inside text at p h = omega (arith, h.inside, longest_filled (drop at text) p h, length-drop at text)

pub kept_span : (text : List ℕ) (at : ℕ) (p : SizedLexeme) → IsLongest (drop at text) p → (l : Lexeme) → p.lexeme ≡ l → All (IsSpan text) (added_tokens l at (at + p.long))
unfolding IsLexeme
kept_span text at p h Space e = All-nil (IsSpan text)
kept_span text at p h LineComment e = All-nil (IsSpan text)
kept_span text at p h BlockComment e = All-nil (IsSpan text)
kept_span text at p h (Kept k) e =
    let n : p.long ≡ at + p.long - at = omega arith in
    let is : IsToken k (take p.long (drop at text)) = subst (λ (x : Lexeme). IsLexeme x (take p.long (drop at text))) e h.is in
    All-cons (IsSpan text) _ [] (record {
      filled = omega (arith, longest_filled (drop at text) p h);
      inside = long_inside text at p h;
      is = subst (λ (x : ℕ). IsToken k (take x (drop at text))) n is;
    }) (All-nil (IsSpan text))

pub spans_of : (text : List ℕ) (from : ℕ) (ps : List SizedLexeme) (to : ℕ) → Covers text from ps to → All (IsSpan text) (tokens_of from ps)
unfolding Covers tokens_of
spans_of text from [] to c = All-nil (IsSpan text)
spans_of text from (p ∷ ps) to c = All-append (IsSpan text) (added_tokens p.lexeme from (from + p.long)) (tokens_of (from + p.long) ps) (kept_span text from p c.0 p.lexeme refl) (spans_of text (from + p.long) ps to c.1)

pub order_weaker : (a b : ℕ) (ts : List Token) → a ≤ b → AreInOrder b ts → AreInOrder a ts
unfolding AreInOrder
order_weaker a b [] h o = tt
order_weaker a b (t ∷ ts) h o = (omega (arith, o.0, h), o.1)

pub order_kept : (at long : ℕ) (l : Lexeme) (ts : List Token) → AreInOrder (at + long) ts → AreInOrder at (added_tokens l at (at + long) ++ ts)
unfolding AreInOrder
order_kept at long Space ts o = order_weaker at (at + long) ts (omega arith) o
order_kept at long LineComment ts o = order_weaker at (at + long) ts (omega arith) o
order_kept at long BlockComment ts o = order_weaker at (at + long) ts (omega arith) o
order_kept at long (Kept k) ts o = (omega arith, o)

pub order_of : (text : List ℕ) (from : ℕ) (ps : List SizedLexeme) (to : ℕ) → Covers text from ps to → AreInOrder from (tokens_of from ps)
unfolding Covers tokens_of AreInOrder
order_of text from [] to c = tt
order_of text from (p ∷ ps) to c = order_kept from p.long p.lexeme (tokens_of (from + p.long) ps) (order_of text (from + p.long) ps to c.1)

-- ---- the answers

pub too_long : (text : List ℕ) (r : Result (Vec Token Global) TokenFault) → length text ≤ most_text → most_text < length text → r ≡ Err TextTooLong
too_long text r h k = absurd (omega (arith, h, k))

pub whole_answered : (text : List ℕ) (r : Result (Vec Token Global) TokenFault) → length text ≤ most_text → IfOk r (λ v. AreTokens text v.items) → IfErr r (λ fault. AreTokensRefused fault text) → (ts : List Token) → AreTokens text ts → MatchResult r (λ v. v.items ≡ ts) (λ fault. fault ≡ Memory)
whole_answered text (Ok v) h a b ts k = one_cut text v.items ts a k
whole_answered text (Err TextTooLong) h a b ts k = absurd (omega (arith, h, b))
whole_answered text (Err (BadToken at)) h a b ts k = absurd (no_cut_and_bad text ts at k b.1)
whole_answered text (Err Memory) h a b ts k = refl

pub bad_answered : (text : List ℕ) (r : Result (Vec Token Global) TokenFault) → length text ≤ most_text → IfOk r (λ v. AreTokens text v.items) → IfErr r (λ fault. AreTokensRefused fault text) → (at : ℕ) → IsBadToken text at → MatchResult r (λ _. ⊥) (λ fault. (fault ≡ BadToken at) ⊎ (fault ≡ Memory))
bad_answered text (Ok v) h a b at k = no_cut_and_bad text v.items at a k
bad_answered text (Err TextTooLong) h a b at k = absurd (omega (arith, h, b))
bad_answered text (Err (BadToken j)) h a b at k = inl (ap BadToken (one_bad text j at b.1 k))
bad_answered text (Err Memory) h a b at k = inr refl

pub spans_answered : (text : List ℕ) (r : Result (Vec Token Global) TokenFault) → IfOk r (λ v. AreTokens text v.items) → IfOk r (λ v. All (IsSpan text) v.items)
spans_answered text (Ok v) a = subst (All (IsSpan text)) a.2 (spans_of text 0 a.0 (length text) a.1)
spans_answered text (Err fault) a = tt

pub order_answered : (text : List ℕ) (r : Result (Vec Token Global) TokenFault) → IfOk r (λ v. AreTokens text v.items) → IfOk r (λ v. AreInOrder 0 v.items)
order_answered text (Ok v) a = subst (AreInOrder 0) a.2 (order_of text 0 a.0 (length text) a.1)
order_answered text (Err fault) a = tt
