-- What the code scans at an offset is what is at the front of the rest.
use Rattle.std.proofs.Common.{◌≡◌, ℕ, suc, ◌+◌, ◌<◌, ◌≤◌, true, false, List, ◌∷◌, length, get_or, drop, Option, Some, None, sym, ap, ◌∙◌, arith, length-drop}
use Rattle.std.specs.Prelude.{IfSome, IfNone}
use Rattle.std.proofs.lemmas.List.{drop-drop}
use Rattle.kex_tokens.specs.Lexemes.{is_no_feed, LineComment, BlockComment, SizedLexeme, IsLongest, HasNoLexeme}
use Rattle.kex_tokens.specs.Scanning.{run, more, block, piece, behind_one, begins_with, slash, lexeme}
use Rattle.kex_tokens.proofs.Scans.{cond_yes, cond_no}
use Rattle.kex_tokens.proofs.Loops.{drop_at_next}
use Rattle.kex_tokens.proofs.Front.{found_longest, none_found, longest_filled}

pub next_drop : (text : List ℕ) (next : ℕ) → drop 1 (drop next text) ≡ drop (next + 1) text
next_drop text next = drop-drop 1 next text

-- `//`
pub slash_line : (text : List ℕ) (next n : ℕ) → begins_with 47 (drop next text) ≡ true → n ≡ run is_no_feed (drop (next + 1) text) → Some (piece LineComment (2 + n)) ≡ slash (drop next text)
unfolding slash
slash_line text next n y e =
    let q : 2 + n ≡ suc (suc (run is_no_feed (drop 1 (drop next text)))) = omega (arith, e, ap (run is_no_feed) (next_drop text next)) in
    ap (λ (k : ℕ). Some (piece LineComment k)) q ∙ sym (cond_yes (begins_with 47 (drop next text)) _ _ y)

-- `/*`
pub slash_block : (text : List ℕ) (next : ℕ) (o : Option ℕ) → begins_with 47 (drop next text) ≡ false → begins_with 42 (drop next text) ≡ true → o ≡ block false (drop (next + 1) text) → behind_one BlockComment (more o) ≡ slash (drop next text)
unfolding slash
slash_block text next o n y e =
    ap (λ (x : Option ℕ). behind_one BlockComment (more x)) (e ∙ ap (block false) (sym (next_drop text next))) ∙ sym (cond_no (begins_with 47 (drop next text)) _ _ n ∙ cond_yes (begins_with 42 (drop next text)) _ _ y)

pub block_some : (text : List ℕ) (next n m : ℕ) (o : Option ℕ) (r : Option SizedLexeme) → begins_with 47 (drop next text) ≡ false → begins_with 42 (drop next text) ≡ true → o ≡ block false (drop (next + 1) text) → o ≡ Some n → m ≡ n + 1 → r ≡ behind_one BlockComment (Some m) → r ≡ slash (drop next text)
unfolding more
block_some text next n m o r f y e s q b =
    let k : m ≡ suc n = omega (arith, q) in
    b ∙ ap (λ (x : ℕ). behind_one BlockComment (Some x)) k ∙ slash_block text next (Some n) f y (sym s ∙ e)

pub block_none : (text : List ℕ) (next : ℕ) (o : Option ℕ) → begins_with 47 (drop next text) ≡ false → begins_with 42 (drop next text) ≡ true → o ≡ block false (drop (next + 1) text) → o ≡ None → None ≡ slash (drop next text)
unfolding more behind_one
block_none text next o f y e s = slash_block text next None f y (sym s ∙ e)

-- the lexeme at an offset
pub scanned_at : (text : List ℕ) (at next : ℕ) (o : Option SizedLexeme) → at < length text → next ≡ at + 1 → o ≡ lexeme (get_or text at 0 ∷ drop next text) → o ≡ lexeme (drop at text)
scanned_at text at next o h q e = e ∙ ap (λ (k : ℕ). lexeme (get_or text at 0 ∷ drop k text)) q ∙ ap lexeme (sym (drop_at_next text at h))

pub if_found : (bytes : List ℕ) (o : Option SizedLexeme) → o ≡ lexeme bytes → IfSome o (λ p. IsLongest bytes p)
if_found bytes None e = tt
if_found bytes (Some p) e = found_longest bytes p (sym e)

pub if_none : (bytes : List ℕ) (o : Option SizedLexeme) → o ≡ lexeme bytes → IfNone o (HasNoLexeme bytes)
if_none bytes None e = none_found bytes (sym e)
if_none bytes (Some p) e = tt

pub if_inside : (text : List ℕ) (at : ℕ) (o : Option SizedLexeme) → at < length text → o ≡ lexeme (drop at text) → IfSome o (λ p. (0 < p.long) × (at + p.long ≤ length text))
if_inside text at None h e = tt
if_inside text at (Some p) h e =
    let l = found_longest (drop at text) p (sym e) in
    (longest_filled (drop at text) p l, omega (arith, l.inside, h, length-drop at text))
