-- The words of a text come one after the other, each with room for its bytes.
use Rattle.std.proofs.Common.{◌≡◌, ℕ, zero, suc, ◌≤◌, ◌+◌, ◌-◌, List, [], ◌∷◌, ◌++◌, length, take, drop, refl, sym, ap, ◌∙◌, subst, arith}
use Rattle.std.specs.Prelude.{All}
use Rattle.std.specs.List.{slice_range}
use Rattle.std.proofs.lemmas.List.Elements.{All-head, All-tail}
use Rattle.kex_tokens.specs.declared.token.TokenKind.{TokenKind}
use Rattle.kex_tokens.specs.declared.token.TokenKind.TheVariants as kinds
use Rattle.kex_tokens.specs.declared.token.Token.{Token}
use Rattle.kex_tokens.specs.Lexemes.{IsToken}
use Rattle.kex_tokens.specs.Texts.{AreTokens, IsSpan, AreInOrder}
use Rattle.kex_tokens.proofs.Cuts.{spans_of, order_of}
use Rattle.kex_reader.specs.Syntax.{Word, Regex, word}
use Rattle.kex_reader.specs.Spelling.{words, offset}

-- the bytes that a word has at least
unfoldable pub width : Word → ℕ
width (Regex body) = length body + 2
width _ = 1

-- the words from number i on, where word number i has the offset at i
pub Spaced : (ℕ → ℕ) → ℕ → List Word → Type 0
Spaced at i [] = Unit {0}
Spaced at i (w ∷ ws) = (at i + width w ≤ at (i + 1)) × Spaced at (i + 1) ws

pub spaced_front : (at : ℕ → ℕ) (i : ℕ) (ws us : List Word) → Spaced at i (ws ++ us) → Spaced at i ws
unfolding Spaced
spaced_front at i [] us s = tt
spaced_front at i (w ∷ ws) us s = (s.0, spaced_front at (i + 1) ws us s.1)

pub spaced_rest : (at : ℕ → ℕ) (i : ℕ) (ws us : List Word) → Spaced at i (ws ++ us) → Spaced at (i + length ws) us
unfolding Spaced
spaced_rest at i [] us s = subst (λ j. Spaced at j us) (let e : i ≡ i + 0 = omega arith in e) s
spaced_rest at i (w ∷ ws) us s = subst (λ j. Spaced at j us) (let e : i + 1 + length ws ≡ i + suc (length ws) = omega arith in e) (spaced_rest at (i + 1) ws us s.1)

pub spaced_next : (at : ℕ → ℕ) (i : ℕ) (w : Word) (ws : List Word) → Spaced at i (w ∷ ws) → Spaced at (i + 1) ws
unfolding Spaced
spaced_next at i w ws s = s.1

pub spaced_width : (at : ℕ → ℕ) (i : ℕ) (w : Word) (ws : List Word) → Spaced at i (w ∷ ws) → at i + width w ≤ at (i + 1)
unfolding Spaced
spaced_width at i w ws s = s.0

pub width_some : (w : Word) → 1 ≤ width w
unfolding width
width_some (Regex body) = omega arith
width_some _ = omega arith

-- offsets rise by one at least with each word
pub rises : (at : ℕ → ℕ) (i : ℕ) (ws : List Word) → Spaced at i ws → at i + length ws ≤ at (i + length ws)
unfolding Spaced
rises at i [] s = let e : at i ≡ at (i + 0) = ap at (let f : i ≡ i + 0 = omega arith in f) in omega (arith, e)
rises at i (w ∷ ws) s =
    let h : at (i + 1) + length ws ≤ at (i + 1 + length ws) = rises at (i + 1) ws s.1 in
    let k : at i + width w ≤ at (i + 1) = s.0 in
    let o = width_some w in
    let e : at (i + 1 + length ws) ≡ at (i + suc (length ws)) = ap at (let f : i + 1 + length ws ≡ i + suc (length ws) = omega arith in f) in
    omega (arith, e, o)

shift : (at up : ℕ → ℕ) (i j : ℕ) (ws : List Word) → ((k : ℕ) → at k ≡ up (suc k)) → j ≡ suc i → Spaced at i ws → Spaced up j ws
unfolding Spaced
shift at up i j [] f e s = tt
shift at up i j (w ∷ ws) f e s =
    let a : at i ≡ up j = f i ∙ ap up (sym e) in
    let b : at (i + 1) ≡ up (j + 1) = f (i + 1) ∙ ap up (let g : suc (i + 1) ≡ j + 1 = omega (arith, e) in g) in
    let h : at i + width w ≤ at (i + 1) = s.0 in
    (omega (arith, a, b, h), shift at up (i + 1) (j + 1) ws f (omega (arith, e)) s.1)

take_short : (n : ℕ) (xs : List ℕ) → length (take n xs) ≤ n
take_short zero xs = omega arith
take_short (suc n) [] = omega arith
take_short (suc n) (x ∷ xs) = let h : length (take n xs) ≤ n = take_short n xs in omega arith

room : (long : ℕ) (bytes : List ℕ) (k : TokenKind) → 1 ≤ long → length bytes ≤ long → IsToken k bytes → width (word k bytes) ≤ long
unfolding width IsToken
room long bytes kinds.Regex l f h =
    let w = h.1 in
    let n : length bytes ≡ suc (suc (length (w ++ 47 ∷ []))) = ap length h.6 in
    let s = take_short (length bytes - 2) (drop 1 bytes) in
    omega (arith, n, s, f)
room long bytes _ l f h = l

until : (text : List ℕ) (t : Token) (ts : List Token) → t.to ≤ length text → AreInOrder t.to ts → t.to ≤ offset text ts 0
unfolding AreInOrder
until text t [] l o = l
until text t (u ∷ ts) l o = o.0

spaced_from : (text : List ℕ) (from : ℕ) (ts : List Token) → AreInOrder from ts → All (IsSpan text) ts → Spaced (offset text ts) 0 (words text ts)
unfolding Spaced AreInOrder
spaced_from text from [] o a = tt
spaced_from text from (t ∷ ts) o a =
    let s = All-head (IsSpan text) t ts a in
    let f = s.filled in
    let r : width (word t.kind (slice_range text t.from t.to)) ≤ t.to - t.from = room (t.to - t.from) (slice_range text t.from t.to) t.kind (omega (arith, f)) (take_short (t.to - t.from) (drop t.from text)) s.is in
    let u : t.to ≤ offset text ts 0 = until text t ts s.inside o.1 in
    (omega (arith, f, r, u), shift (offset text ts) (offset text (t ∷ ts)) 0 (0 + 1) (words text ts) (λ k. refl) refl (spaced_from text t.to ts o.1 (All-tail (IsSpan text) t ts a)))

pub spaced : (text : List ℕ) (ts : List Token) → AreTokens text ts → Spaced (offset text ts) 0 (words text ts)
spaced text ts (ps, c, e) = spaced_from text 0 ts (subst (AreInOrder 0) e (order_of text 0 ps (length text) c)) (subst (All (IsSpan text)) e (spans_of text 0 ps (length text) c))
