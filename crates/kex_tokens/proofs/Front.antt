-- The lexeme that is found at the front is the longest there, and its kind the only one.
use Rattle.std.proofs.Common.{◌≡◌, ℕ, zero, suc, ◌<◌, ◌≤◌, Bool, true, false, cond, List, [], ◌∷◌, ◌++◌, length, take, drop, Option, Some, None, refl, sym, ap, ◌∙◌, subst, arith, length-append}
use Rattle.std.specs.Prelude.{◌==◌, nat_lt, codes}
use borrow.Author.Tests.{ltb-true, ltb-false}
use Rattle.std.proofs.lemmas.Bool.Decides.{nat_tests}
use Rattle.std.proofs.lemmas.Bool.{eqb-false}
use Rattle.std.proofs.lemmas.List.{take_at, length-take-le}
use Rattle.std.proofs.Math.ListN.{take-append-drop}
use Rattle.kex_tokens.specs.Lexemes.{is_space, is_letter, is_digit, is_name_byte, is_no_feed, is_regex_byte, AreAll, LiteralItem, items, AreItems, LiteralAtom, Plain, Escaped, atoms, AreAtoms, TokenKind, Name, Number, Literal, Regex, Define, Colon, Pipe, Bar, Tilde, At, Star, Plus, PlusEquals, Question, OpenBrace, CloseBrace, Comma, Bang, OpenBracket, CloseBracket, Arrow, OpenParen, CloseParen, Lexeme, Space, LineComment, BlockComment, Kept, SizedLexeme, NoClose, IsToken, IsLexeme, IsLongest, HasNoLexeme}
use Rattle.kex_tokens.specs.Scanning.{run, more, Between, literal, regex, block, piece, behind_one, slash, alone, one_or_two, two, single, of_kind, sign_at, lexeme, closing}
use Rattle.kex_tokens.proofs.Scans.{by_test, apart, cond_yes, cond_no, is_code, or_no, Split, Splits, more_splits, run_splits, run_long, IsLiteralEnd, so_far, IsInLiteral, literal_splits, AtLeast, more_at_least, literal_long, IsRegexEnd, escaped, regex_splits, regex_long, star_before, IsBlockEnd, block_splits, block_long}

-- a lexeme of this piece's kind and length is at the front
unfoldable pub Found : List ℕ → Option SizedLexeme → Type 0
Found bytes None = Unit {0}
Found bytes (Some p) = Split bytes p.long (IsLexeme p.lexeme)

-- the piece is no shorter, and of this kind where it is as long
unfoldable pub Reaches : Lexeme → ℕ → Option SizedLexeme → Type 0
Reaches l n None = ⊥
Reaches l n (Some p) = (n ≤ p.long) × (n ≡ p.long → p.lexeme ≡ l)

-- ---- what is found is a lexeme

pub behind_found : (b : ℕ) (bs : List ℕ) (l : Lexeme) (Q : List ℕ → Type 0) (o : Option ℕ) → ((w : List ℕ) → Q w → IsLexeme l (b ∷ w)) → Splits bs Q o → Found (b ∷ bs) (behind_one l o)
unfolding Found behind_one Splits
behind_found b bs l Q None f s = tt
behind_found b bs l Q (Some n) f s = record { front = b ∷ s.front; rest = s.rest; whole = ap (λ (w : List ℕ). b ∷ w) s.whole; long = ap suc s.long; holds = f s.front s.holds }

pub no_end : (as' : List LiteralAtom) → [] ≡ atoms as' ++ 47 ∷ [] → ⊥
unfolding atoms
no_end [] e = absurd cc
no_end (Plain b ∷ as') e = absurd cc
no_end (Escaped b ∷ as') e = absurd cc

abbrev IsBlock : List ℕ → Type 0
IsBlock w = (v : List ℕ) × NoClose (v ++ 42 ∷ []) × (w ≡ 42 ∷ v ++ 42 ∷ 47 ∷ [])

pub block_of : (w : List ℕ) → IsBlockEnd false w → IsBlock (42 ∷ w)
unfolding star_before
block_of w h = (h.0, h.1, ap (λ (x : List ℕ). 42 ∷ x) h.2)

pub block_lexeme : (w : List ℕ) → IsBlock w → IsLexeme BlockComment (47 ∷ w)
unfolding IsLexeme
block_lexeme w h = (h.0, h.1, ap (λ (x : List ℕ). 47 ∷ x) h.2)

pub plain_splits : (bs : List ℕ) → Splits bs (λ w. IsLiteralEnd w) (literal Between bs)
unfolding so_far IsInLiteral
plain_splits bs = literal_splits Between bs tt

pub literal_lexeme : (b : ℕ) (w : List ℕ) → (b == 34) ≡ true → IsLiteralEnd w → IsLexeme (Kept Literal) (b ∷ w)
unfolding IsLexeme IsToken
literal_lexeme b w e h = (h.0, h.1, ap (λ (x : ℕ). x ∷ w) (sym (is_code b 34 e)) ∙ ap (λ (v : List ℕ). 34 ∷ v) h.2)

-- the parts of a regex that was found
pub regex_parts : (d : ℕ) (w : List ℕ) (as' : List LiteralAtom) → (d == 47) ≡ false → d ∷ w ≡ atoms as' ++ 47 ∷ [] → (v : List ℕ) × (atoms as' ≡ d ∷ v) × (w ≡ v ++ 47 ∷ [])
unfolding atoms
regex_parts d w [] n e = let q : d ≡ 47 = cc in absurd (eqb-false d 47 n q)
regex_parts d w (Plain b ∷ as') n e = let q : b ≡ d = cc in (atoms as', ap (λ (x : ℕ). x ∷ atoms as') q, cc)
regex_parts d w (Escaped b ∷ as') n e = let q : 92 ≡ d = cc in (b ∷ atoms as', ap (λ (x : ℕ). x ∷ b ∷ atoms as') q, cc)

pub regex_lexeme : (c : ℕ) (cs front rest : List ℕ) → (c == 47) ≡ false → (c == 42) ≡ false → c ∷ cs ≡ front ++ rest → IsRegexEnd front → IsLexeme (Kept Regex) (47 ∷ front)
unfolding IsLexeme IsToken
regex_lexeme c cs [] rest n m e h = absurd (no_end h.0 h.2)
regex_lexeme c cs (d ∷ w) rest n m e h =
    let q : c ≡ d = cc in
    let p = regex_parts d w h.0 (subst (λ (x : ℕ). (x == 47) ≡ false) q n) h.2 in
    (d, p.0, h.0, h.1, subst (λ (x : ℕ). (x == 42) ≡ false) q m, p.1, ap (λ (x : List ℕ). 47 ∷ d ∷ x) p.2)

pub slash_regex : (c : ℕ) (cs : List ℕ) (o : Option ℕ) → (c == 47) ≡ false → (c == 42) ≡ false → Splits (c ∷ cs) (λ w. IsRegexEnd w) o → Found (47 ∷ c ∷ cs) (behind_one (Kept Regex) o)
unfolding Splits Found behind_one
slash_regex c cs None n m s = tt
slash_regex c cs (Some k) n m s =
    let r = regex_lexeme c cs s.front s.rest n m s.whole s.holds in
    record { front = 47 ∷ s.front; rest = s.rest; whole = ap (λ (w : List ℕ). 47 ∷ w) s.whole; long = ap suc s.long; holds = r }

pub slash_found : (bs : List ℕ) → Found (47 ∷ bs) (slash bs)
unfolding slash Found IsLexeme star_before escaped closing behind_one
slash_found [] = tt
slash_found (c ∷ cs) =
    let P = Found (47 ∷ c ∷ cs) in
    let r = run_splits is_no_feed cs in
    by_test P (c == 47) _ _ (λ e. record { front = 47 ∷ c ∷ r.front; rest = r.rest; whole = ap (λ (w : List ℕ). 47 ∷ c ∷ w) r.whole; long = ap (λ (n : ℕ). suc (suc n)) r.long; holds = (r.front, r.holds, ap (λ (x : ℕ). 47 ∷ x ∷ r.front) (sym (is_code c 47 e))) }) (λ n.
    by_test P (c == 42) _ _ (λ e. behind_found 47 (c ∷ cs) BlockComment (λ w. IsBlock w) (more (block false cs)) (λ w h. block_lexeme w h) (more_splits c cs (λ w. IsBlock w) (IsBlockEnd false) _ (λ w h. subst (λ (x : ℕ). IsBlock (x ∷ w)) (is_code c 42 e) (block_of w h)) (block_splits false cs))) (λ m.
    slash_regex c cs (regex false (c ∷ cs)) n m (regex_splits false (c ∷ cs))))

pub sign_found : (k : TokenKind) (w rest : List ℕ) (n : ℕ) (bytes : List ℕ) → IsToken k w → length w ≡ n → bytes ≡ w ++ rest → Found bytes (Some (piece (Kept k) n))
unfolding Found IsLexeme
sign_found k w rest n bytes e l b = record { front = w; rest = rest; whole = b; long = l; holds = e }

pub one_or_two_found : (b c : ℕ) (long short : TokenKind) (bs : List ℕ) → IsToken long (b ∷ c ∷ []) → IsToken short (b ∷ []) → Found (b ∷ bs) (one_or_two c long short bs)
unfolding one_or_two
one_or_two_found b c long short [] l s = sign_found short (b ∷ []) [] 1 (b ∷ []) s refl refl
one_or_two_found b c long short (d ∷ bs) l s =
    by_test (Found (b ∷ d ∷ bs)) (d == c) _ _
    (λ e. sign_found long (b ∷ c ∷ []) bs 2 (b ∷ d ∷ bs) l refl (ap (λ (x : ℕ). b ∷ x ∷ bs) (sym (is_code d c e))))
    (λ _. sign_found short (b ∷ []) (d ∷ bs) 1 (b ∷ d ∷ bs) s refl refl)

pub two_found : (b c : ℕ) (long : TokenKind) (bs : List ℕ) → IsToken long (b ∷ c ∷ []) → Found (b ∷ bs) (two c long bs)
unfolding two Found
two_found b c long [] l = tt
two_found b c long (d ∷ bs) l = by_test (Found (b ∷ d ∷ bs)) (d == c) _ _ (λ e. sign_found long (b ∷ c ∷ []) bs 2 (b ∷ d ∷ bs) l refl (ap (λ (x : ℕ). b ∷ x ∷ bs) (sym (is_code d c e)))) (λ _. tt)

pub alone_found : (b n : ℕ) (bs : List ℕ) (k : TokenKind) → IsToken k (n ∷ []) → (b == n) ≡ true → Found (b ∷ bs) (alone k)
alone_found b n bs k l e = sign_found k (n ∷ []) bs 1 (b ∷ bs) l refl (ap (λ (x : ℕ). x ∷ bs) (sym (is_code b n e)))

pub single_found : (b : ℕ) (bs : List ℕ) → Found (b ∷ bs) (of_kind (single b))
unfolding single IsToken Found
single_found b bs =
    let P = λ (o : Option TokenKind). Found (b ∷ bs) (of_kind o) in
    by_test P (b == 124) _ _ (alone_found b 124 bs Bar refl) (λ _. by_test P (b == 126) _ _ (alone_found b 126 bs Tilde refl) (λ _.
    by_test P (b == 64) _ _ (alone_found b 64 bs At refl) (λ _. by_test P (b == 42) _ _ (alone_found b 42 bs Star refl) (λ _.
    by_test P (b == 63) _ _ (alone_found b 63 bs Question refl) (λ _. by_test P (b == 123) _ _ (alone_found b 123 bs OpenBrace refl) (λ _.
    by_test P (b == 125) _ _ (alone_found b 125 bs CloseBrace refl) (λ _. by_test P (b == 44) _ _ (alone_found b 44 bs Comma refl) (λ _.
    by_test P (b == 33) _ _ (alone_found b 33 bs Bang refl) (λ _. by_test P (b == 91) _ _ (alone_found b 91 bs OpenBracket refl) (λ _.
    by_test P (b == 93) _ _ (alone_found b 93 bs CloseBracket refl) (λ _. by_test P (b == 40) _ _ (alone_found b 40 bs OpenParen refl) (λ _.
    by_test P (b == 41) _ _ (alone_found b 41 bs CloseParen refl) (λ _. tt)))))))))))))

pub signs_found : (b : ℕ) (bs : List ℕ) → Found (b ∷ bs) (sign_at b bs)
unfolding sign_at IsToken
signs_found b bs =
    let P = Found (b ∷ bs) in
    by_test P (b == 58) _ _ (λ e. subst (λ (x : ℕ). Found (x ∷ bs) (one_or_two 61 Define Colon bs)) (is_code b 58 e) (one_or_two_found 58 61 Define Colon bs refl refl)) (λ _.
    by_test P (b == 43) _ _ (λ e. subst (λ (x : ℕ). Found (x ∷ bs) (one_or_two 61 PlusEquals Plus bs)) (is_code b 43 e) (one_or_two_found 43 61 PlusEquals Plus bs refl refl)) (λ _.
    by_test P (b == 62) _ _ (λ e. subst (λ (x : ℕ). Found (x ∷ bs) (two 62 Pipe bs)) (is_code b 62 e) (two_found 62 62 Pipe bs refl)) (λ _.
    by_test P (b == 60) _ _ (λ e. subst (λ (x : ℕ). Found (x ∷ bs) (two 45 Arrow bs)) (is_code b 60 e) (two_found 60 45 Arrow bs refl)) (λ _.
    single_found b bs))))

pub lexeme_found : (bytes : List ℕ) → Found bytes (lexeme bytes)
unfolding lexeme Found IsLexeme IsToken
lexeme_found [] = tt
lexeme_found (b ∷ bs) =
    let P = Found (b ∷ bs) in
    let name = run_splits is_name_byte bs in
    let digits = run_splits is_digit bs in
    by_test P (is_space b) _ _ (λ e. record { front = b ∷ []; rest = bs; whole = refl; long = refl; holds = (b, e, refl) }) (λ _.
    by_test P (is_letter b) _ _ (λ e. record { front = b ∷ name.front; rest = name.rest; whole = ap (λ (w : List ℕ). b ∷ w) name.whole; long = ap suc name.long; holds = (b, name.front, e, name.holds, refl) }) (λ _.
    by_test P (is_digit b) _ _ (λ e. record { front = b ∷ digits.front; rest = digits.rest; whole = ap (λ (w : List ℕ). b ∷ w) digits.whole; long = ap suc digits.long; holds = (b, digits.front, e, digits.holds, refl) }) (λ _.
    by_test P (b == 34) _ _ (λ e. behind_found b bs (Kept Literal) (λ w. IsLiteralEnd w) (literal Between bs) (λ w h. literal_lexeme b w e h) (plain_splits bs)) (λ _.
    by_test P (b == 47) _ _ (λ e. subst (λ (x : ℕ). Found (x ∷ bs) (slash bs)) (is_code b 47 e) (slash_found bs)) (λ _.
    signs_found b bs)))))

-- ---- and whatever lexeme is there is found, or a longer one

pub behind_reaches : (n : ℕ) (l : Lexeme) (o : Option ℕ) → AtLeast n o → Reaches l (suc n) (behind_one l o)
unfolding AtLeast Reaches behind_one
behind_reaches n l None h = h
behind_reaches n l (Some m) h = (omega (arith, h), λ _. refl)

pub yes_reaches : (l : Lexeme) (n : ℕ) (b : Bool) (x y : Option SizedLexeme) → b ≡ true → Reaches l n x → Reaches l n (cond b x y)
yes_reaches l n b x y e h = subst (Reaches l n) (sym (cond_yes b x y e)) h

pub no_reaches : (l : Lexeme) (n : ℕ) (b : Bool) (x y : Option SizedLexeme) → b ≡ false → Reaches l n y → Reaches l n (cond b x y)
no_reaches l n b x y e h = subst (Reaches l n) (sym (cond_no b x y e)) h

pub run_reaches : (l : Lexeme) (n m : ℕ) → n ≤ m → Reaches l n (Some (piece l m))
unfolding Reaches
run_reaches l n m h = (h, λ _. refl)

pub not_space : (f : ℕ → Bool) (b : ℕ) → f b ≡ true → f 32 ≡ false → f 9 ≡ false → f 13 ≡ false → f 10 ≡ false → is_space b ≡ false
not_space f b h a c d e = or_no _ _ (or_no _ _ (or_no _ _ (apart f b 32 h a) (apart f b 9 h c)) (apart f b 13 h d)) (apart f b 10 h e)

pub one_or_two_reaches : (c : ℕ) (long short : TokenKind) (bs : List ℕ) → Reaches (Kept short) 1 (one_or_two c long short bs)
unfolding one_or_two Reaches
one_or_two_reaches c long short [] = (omega arith, λ _. refl)
one_or_two_reaches c long short (b ∷ bs) = by_test (Reaches (Kept short) 1) (b == c) _ _ (λ _. (omega arith, λ e. absurd (omega (arith, e)))) (λ _. (omega arith, λ _. refl))

pub digit_no_letter : (b : ℕ) → is_digit b ≡ true → is_letter b ≡ false
digit_no_letter b h = grind (arith, nat_tests)

pub reaches_space : (b : ℕ) (rest : List ℕ) → is_space b ≡ true → Reaches Space 1 (lexeme (b ∷ rest))
unfolding lexeme
reaches_space b rest h = yes_reaches Space 1 (is_space b) _ _ h (run_reaches Space 1 1 (omega arith))

pub reaches_name : (b : ℕ) (w rest : List ℕ) → is_letter b ≡ true → AreAll is_name_byte w → Reaches (Kept Name) (suc (length w)) (lexeme (b ∷ (w ++ rest)))
unfolding lexeme
reaches_name b w rest h k = no_reaches _ _ (is_space b) _ _ (not_space is_letter b h refl refl refl refl) (yes_reaches _ _ (is_letter b) _ _ h (run_reaches (Kept Name) (suc (length w)) (suc (run is_name_byte (w ++ rest))) (omega (arith, run_long is_name_byte w rest k))))

pub reaches_number : (b : ℕ) (w rest : List ℕ) → is_digit b ≡ true → AreAll is_digit w → Reaches (Kept Number) (suc (length w)) (lexeme (b ∷ (w ++ rest)))
unfolding lexeme
reaches_number b w rest h k = no_reaches _ _ (is_space b) _ _ (not_space is_digit b h refl refl refl refl) (no_reaches _ _ (is_letter b) _ _ (digit_no_letter b h) (yes_reaches _ _ (is_digit b) _ _ h (run_reaches (Kept Number) (suc (length w)) (suc (run is_digit (w ++ rest))) (omega (arith, run_long is_digit w rest k)))))

pub reaches_literal : (is : List LiteralItem) (rest : List ℕ) → AreItems is → Reaches (Kept Literal) (suc (length (items is ++ 34 ∷ []))) (lexeme (34 ∷ ((items is ++ 34 ∷ []) ++ rest)))
unfolding lexeme
reaches_literal is rest h = behind_reaches _ (Kept Literal) _ (literal_long is rest h)

pub reaches_line : (w rest : List ℕ) → AreAll is_no_feed w → Reaches LineComment (suc (suc (length w))) (lexeme (47 ∷ 47 ∷ (w ++ rest)))
unfolding lexeme slash
reaches_line w rest h = run_reaches LineComment (suc (suc (length w))) (suc (suc (run is_no_feed (w ++ rest)))) (omega (arith, run_long is_no_feed w rest h))

pub reaches_block : (w rest : List ℕ) → NoClose (w ++ 42 ∷ []) → Reaches BlockComment (suc (suc (length (w ++ 42 ∷ 47 ∷ [])))) (lexeme (47 ∷ 42 ∷ ((w ++ 42 ∷ 47 ∷ []) ++ rest)))
unfolding lexeme slash star_before
reaches_block w rest n = behind_reaches _ BlockComment _ (more_at_least _ _ (block_long false w rest n))

pub reaches_regex : (b : ℕ) (w rest : List ℕ) → (b == 47) ≡ false → (b == 42) ≡ false → AtLeast (length (b ∷ w ++ 47 ∷ [])) (regex false ((b ∷ w ++ 47 ∷ []) ++ rest)) → Reaches (Kept Regex) (suc (length (b ∷ w ++ 47 ∷ []))) (lexeme (47 ∷ ((b ∷ w ++ 47 ∷ []) ++ rest)))
unfolding lexeme slash
reaches_regex b w rest n m h = no_reaches _ _ (b == 47) _ _ n (no_reaches _ _ (b == 42) _ _ m (behind_reaches _ (Kept Regex) _ h))

pub regex_first : (as' : List LiteralAtom) (b : ℕ) (w : List ℕ) → AreAtoms as' → atoms as' ≡ b ∷ w → (b == 47) ≡ false
unfolding atoms AreAtoms
regex_first [] b w h e = absurd cc
regex_first (Plain c ∷ as') b w h e = let q : c ≡ b = cc in subst (λ (x : ℕ). (x == 47) ≡ false) q (apart is_regex_byte c 47 h.0 refl)
regex_first (Escaped c ∷ as') b w h e = let q : 92 ≡ b = cc in subst (λ (x : ℕ). (x == 47) ≡ false) q refl

pub at_front : (l : Lexeme) (rest v w : List ℕ) → w ≡ v → Reaches l (length v) (lexeme (v ++ rest)) → Reaches l (length w) (lexeme (w ++ rest))
at_front l rest v w e h = subst (λ (x : List ℕ). Reaches l (length x) (lexeme (x ++ rest))) (sym e) h

pub sign_reaches : (k : TokenKind) (v rest : List ℕ) (n : ℕ) → length v ≡ n → lexeme (v ++ rest) ≡ Some (piece (Kept k) n) → Reaches (Kept k) (length v) (lexeme (v ++ rest))
unfolding Reaches
sign_reaches k v rest n l e = subst (λ (o : Option SizedLexeme). Reaches (Kept k) (length v) o) (sym e) (let q : length v ≤ n = omega (arith, l) in (q, λ _. refl))

pub token_reaches : (k : TokenKind) (w : List ℕ) → IsToken k w → (rest : List ℕ) → Reaches (Kept k) (length w) (lexeme (w ++ rest))
unfolding IsToken lexeme sign_at single two one_or_two
token_reaches Name w h rest = at_front (Kept Name) rest _ w h.4 (reaches_name h.0 h.1 rest h.2 h.3)
token_reaches Number w h rest = at_front (Kept Number) rest _ w h.4 (reaches_number h.0 h.1 rest h.2 h.3)
token_reaches Literal w h rest = at_front (Kept Literal) rest _ w h.2 (reaches_literal h.0 rest h.1)
token_reaches Regex w h rest = at_front (Kept Regex) rest _ w h.6 (reaches_regex h.0 h.1 rest (regex_first h.2 h.0 h.1 h.3 h.5) h.4 (subst (λ (v : List ℕ). AtLeast (length (v ++ 47 ∷ [])) (regex false ((v ++ 47 ∷ []) ++ rest))) h.5 (regex_long h.2 rest h.3)))
token_reaches Define w h rest = at_front (Kept Define) rest _ w h (sign_reaches Define (codes ":=") rest 2 refl refl)
token_reaches Colon w h rest = at_front (Kept Colon) rest _ w h (one_or_two_reaches 61 Define Colon rest)
token_reaches Pipe w h rest = at_front (Kept Pipe) rest _ w h (sign_reaches Pipe (codes ">>") rest 2 refl refl)
token_reaches Bar w h rest = at_front (Kept Bar) rest _ w h (sign_reaches Bar (codes "|") rest 1 refl refl)
token_reaches Tilde w h rest = at_front (Kept Tilde) rest _ w h (sign_reaches Tilde (codes "~") rest 1 refl refl)
token_reaches At w h rest = at_front (Kept At) rest _ w h (sign_reaches At (codes "@") rest 1 refl refl)
token_reaches Star w h rest = at_front (Kept Star) rest _ w h (sign_reaches Star (codes "*") rest 1 refl refl)
token_reaches Plus w h rest = at_front (Kept Plus) rest _ w h (one_or_two_reaches 61 PlusEquals Plus rest)
token_reaches PlusEquals w h rest = at_front (Kept PlusEquals) rest _ w h (sign_reaches PlusEquals (codes "+=") rest 2 refl refl)
token_reaches Question w h rest = at_front (Kept Question) rest _ w h (sign_reaches Question (codes "?") rest 1 refl refl)
token_reaches OpenBrace w h rest = at_front (Kept OpenBrace) rest _ w h (sign_reaches OpenBrace (codes "{") rest 1 refl refl)
token_reaches CloseBrace w h rest = at_front (Kept CloseBrace) rest _ w h (sign_reaches CloseBrace (codes "}") rest 1 refl refl)
token_reaches Comma w h rest = at_front (Kept Comma) rest _ w h (sign_reaches Comma (codes ",") rest 1 refl refl)
token_reaches Bang w h rest = at_front (Kept Bang) rest _ w h (sign_reaches Bang (codes "!") rest 1 refl refl)
token_reaches OpenBracket w h rest = at_front (Kept OpenBracket) rest _ w h (sign_reaches OpenBracket (codes "[") rest 1 refl refl)
token_reaches CloseBracket w h rest = at_front (Kept CloseBracket) rest _ w h (sign_reaches CloseBracket (codes "]") rest 1 refl refl)
token_reaches Arrow w h rest = at_front (Kept Arrow) rest _ w h (sign_reaches Arrow (codes "<-") rest 2 refl refl)
token_reaches OpenParen w h rest = at_front (Kept OpenParen) rest _ w h (sign_reaches OpenParen (codes "(") rest 1 refl refl)
token_reaches CloseParen w h rest = at_front (Kept CloseParen) rest _ w h (sign_reaches CloseParen (codes ")") rest 1 refl refl)

pub lexeme_reaches : (l : Lexeme) (w : List ℕ) → IsLexeme l w → (rest : List ℕ) → Reaches l (length w) (lexeme (w ++ rest))
unfolding IsLexeme
lexeme_reaches Space w h rest = at_front Space rest _ w h.2 (reaches_space h.0 rest h.1)
lexeme_reaches LineComment w h rest = at_front LineComment rest _ w h.2 (reaches_line h.0 rest h.1)
lexeme_reaches BlockComment w h rest = at_front BlockComment rest _ w h.2 (reaches_block h.0 rest h.1)
lexeme_reaches (Kept k) w h rest = token_reaches k w h rest

-- ---- the laws

pub front_reaches : (bytes : List ℕ) (l : Lexeme) (n : ℕ) → IsLexeme l (take n bytes) → Reaches l (length (take n bytes)) (lexeme bytes)
front_reaches bytes l n h =
    let same : take n bytes ++ drop n bytes ≡ bytes = take-append-drop n bytes in
    subst (λ (x : List ℕ). Reaches l (length (take n bytes)) (lexeme x)) same (lexeme_reaches l (take n bytes) h (drop n bytes))

pub not_longer : (bytes : List ℕ) (p : SizedLexeme) → lexeme bytes ≡ Some p → (other : Lexeme) (n : ℕ) → p.long < n → n ≤ length bytes → IsLexeme other (take n bytes) → ⊥
unfolding Reaches
not_longer bytes p e other n lt le h =
    let j : Reaches other (length (take n bytes)) (Some p) = subst (λ (o : Option SizedLexeme). Reaches other (length (take n bytes)) o) e (front_reaches bytes other n h) in
    absurd (omega (arith, j.0, lt, length-take-le n bytes le))

pub found_longest : (bytes : List ℕ) (p : SizedLexeme) → lexeme bytes ≡ Some p → IsLongest bytes p
unfolding Found
found_longest bytes p e =
    let s : Split bytes p.long (IsLexeme p.lexeme) = subst (Found bytes) e (lexeme_found bytes) in
    let front : take p.long bytes ≡ s.front = ap (take p.long) s.whole ∙ take_at s.front s.rest p.long s.long in
    record {
      inside = omega (arith, s.long, ap length s.whole, length-append s.front s.rest);
      is = subst (IsLexeme p.lexeme) (sym front) s.holds;
      no_longer = λ other n lt le h. not_longer bytes p e other n lt le h;
    }

pub none_found : (bytes : List ℕ) → lexeme bytes ≡ None → HasNoLexeme bytes
unfolding Reaches
none_found bytes e any n h = subst (λ (o : Option SizedLexeme). Reaches any (length (take n bytes)) o) e (front_reaches bytes any n h)

-- ---- no lexeme is empty

pub token_filled : (k : TokenKind) (w : List ℕ) → IsToken k w → w ≡ [] → ⊥
unfolding IsToken
token_filled Name w h e = let q = h.4 in absurd cc
token_filled Number w h e = let q = h.4 in absurd cc
token_filled Literal w h e = let q = h.2 in absurd cc
token_filled Regex w h e = let q = h.6 in absurd cc
token_filled _ w h e = absurd cc

pub lexeme_filled : (l : Lexeme) (w : List ℕ) → IsLexeme l w → w ≡ [] → ⊥
unfolding IsLexeme
lexeme_filled Space w h e = let q = h.2 in absurd cc
lexeme_filled LineComment w h e = let q = h.2 in absurd cc
lexeme_filled BlockComment w h e = let q = h.2 in absurd cc
lexeme_filled (Kept k) w h e = token_filled k w h e

pub longest_filled : (bytes : List ℕ) (p : SizedLexeme) → IsLongest bytes p → 0 < p.long
longest_filled bytes p h = go p.long refl
  where
    go : (n : ℕ) → p.long ≡ n → 0 < n
    go zero e = absurd (lexeme_filled p.lexeme (take p.long bytes) h.is (ap (λ (k : ℕ). take k bytes) e))
    go (suc n) e = omega arith

-- ---- the longest is what is found

pub found_is : (bytes : List ℕ) (p : SizedLexeme) (o : Option SizedLexeme) → lexeme bytes ≡ o → IsLongest bytes p → Reaches p.lexeme p.long o → o ≡ Some p
unfolding Reaches
found_is bytes p None e h r = absurd r
found_is bytes p (Some q) e h r =
    let l : p.long ≡ q.long = same (nat_lt p.long q.long) refl in
    let k : q.lexeme ≡ p.lexeme = r.1 l in
    ap (λ (x : Lexeme). Some (piece x q.long)) k ∙ ap (λ (n : ℕ). Some (piece p.lexeme n)) (sym l)
  where
    same : (b : Bool) → nat_lt p.long q.long ≡ b → p.long ≡ q.long
    same true t = let s : IsLongest bytes q = found_longest bytes q e in absurd (h.no_longer q.lexeme q.long (ltb-true p.long q.long t) s.inside s.is)
    same false t = omega (arith, r.0, ltb-false p.long q.long t)

pub longest_found : (bytes : List ℕ) (p : SizedLexeme) → IsLongest bytes p → lexeme bytes ≡ Some p
longest_found bytes p h =
    let long : length (take p.long bytes) ≡ p.long = length-take-le p.long bytes h.inside in
    found_is bytes p (lexeme bytes) refl h (subst (λ (n : ℕ). Reaches p.lexeme n (lexeme bytes)) long (front_reaches bytes p.lexeme p.long h.is))

pub one_longest : (bytes : List ℕ) (p q : SizedLexeme) → IsLongest bytes p → IsLongest bytes q → p ≡ q
one_longest bytes p q h k =
    let e : lexeme bytes ≡ Some p = longest_found bytes p h in
    let f : lexeme bytes ≡ Some q = longest_found bytes q k in
    cc
