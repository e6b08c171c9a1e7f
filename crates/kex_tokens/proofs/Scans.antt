-- The scanners of literals, regexes and block comments find what is spelled so, and no less.
use Rattle.std.proofs.Common.{◌≡◌, ℕ, suc, ◌≤◌, Bool, true, false, cond, List, [], ◌∷◌, ◌++◌, length, Option, Some, None, refl, sym, ap, ◌∙◌, subst, arith}
use Rattle.std.specs.Prelude.{◌==◌, ◌||◌}
use Rattle.std.proofs.lemmas.Bool.{eqb-true, eqb-false, ne_eqb, false≢true}
use Rattle.kex_tokens.specs.Lexemes.{is_hex, not, is_no_feed, is_short, is_literal_byte, is_regex_byte, AreAll, LiteralItem, Itself, Short, Hex, items, AreItems, LiteralAtom, Plain, Escaped, atoms, AreAtoms, NoClose}
use Rattle.kex_tokens.specs.Scanning.{run, more, InLiteral, Between, Backslash, HexBegun, HexOne, ClosingStep, On, after, closing, literal, literal_step, regex, regex_step, block, block_step, star_closes}

pub by_test : {A : Type 0} (P : A → Type 0) (b : Bool) (x y : A) → (b ≡ true → P x) → (b ≡ false → P y) → P (cond b x y)
by_test P true x y f g = f refl
by_test P false x y f g = g refl

pub apart : (f : ℕ → Bool) (b n : ℕ) → f b ≡ true → f n ≡ false → (b == n) ≡ false
apart f b n h k = ne_eqb b n (λ e. false≢true (sym k ∙ ap f (sym e) ∙ h))

pub cond_yes : {A : Type 0} (b : Bool) (x y : A) → b ≡ true → cond b x y ≡ x
cond_yes true x y e = refl
cond_yes false x y e = absurd (false≢true e)

pub cond_no : {A : Type 0} (b : Bool) (x y : A) → b ≡ false → cond b x y ≡ y
cond_no true x y e = absurd (false≢true (sym e))
cond_no false x y e = refl

pub is_code : (b n : ℕ) → (b == n) ≡ true → n ≡ b
is_code b n e = sym (eqb-true b n e)

pub not_is : (x : Bool) → x ≡ false → not x ≡ true
not_is x e = ap not e

pub or_no : (x y : Bool) → x ≡ false → y ≡ false → (x || y) ≡ false
or_no true y e f = absurd (false≢true (sym e))
or_no false y e f = f

-- ---- fronts

pub record Split (bytes : List ℕ) (n : ℕ) (P : List ℕ → Type 0) : Type 0 where
  pub front : List ℕ
  pub rest : List ℕ
  pub whole : bytes ≡ front ++ rest
  pub long : length front ≡ n
  pub holds : P front

unfoldable pub Splits : List ℕ → (List ℕ → Type 0) → Option ℕ → Type 0
Splits bytes P None = Unit {0}
Splits bytes P (Some n) = Split bytes n P

pub one : (b : ℕ) (bs : List ℕ) (P : List ℕ → Type 0) → P (b ∷ []) → Splits (b ∷ bs) P (Some 1)
unfolding Splits
one b bs P h = record { front = b ∷ []; rest = bs; whole = refl; long = refl; holds = h }

pub more_splits : (b : ℕ) (bs : List ℕ) (P Q : List ℕ → Type 0) (o : Option ℕ) → ((w : List ℕ) → Q w → P (b ∷ w)) → Splits bs Q o → Splits (b ∷ bs) P (more o)
unfolding Splits more
more_splits b bs P Q None f s = tt
more_splits b bs P Q (Some n) f s = record { front = b ∷ s.front; rest = s.rest; whole = ap (λ (w : List ℕ). b ∷ w) s.whole; long = ap suc s.long; holds = f s.front s.holds }

pub run_splits : (p : ℕ → Bool) (bs : List ℕ) → Split bs (run p bs) (AreAll p)
unfolding run AreAll
run_splits p [] = record { front = []; rest = []; whole = refl; long = refl; holds = tt }
run_splits p (b ∷ bs) =
    let r = run_splits p bs in
    by_test (λ (n : ℕ). Split (b ∷ bs) n (AreAll p)) (p b) _ _
    (λ e. record { front = b ∷ r.front; rest = r.rest; whole = ap (λ (w : List ℕ). b ∷ w) r.whole; long = ap suc r.long; holds = (e, r.holds) })
    (λ _. record { front = []; rest = b ∷ bs; whole = refl; long = refl; holds = tt })

pub run_long : (p : ℕ → Bool) (w rest : List ℕ) → AreAll p w → length w ≤ run p (w ++ rest)
unfolding run AreAll
run_long p [] rest h = omega arith
run_long p (b ∷ w) rest h = subst (λ (n : ℕ). suc (length w) ≤ n) (sym (cond_yes (p b) (suc (run p (w ++ rest))) 0 h.0)) (omega (arith, run_long p w rest h.1))

-- ---- literals

abbrev pub IsLiteralEnd : List ℕ → Type 0
IsLiteralEnd w = (is : List LiteralItem) × AreItems is × (w ≡ items is ++ 34 ∷ [])

unfoldable pub so_far : InLiteral → List ℕ
so_far Between = []
so_far Backslash = 92 ∷ []
so_far HexBegun = 92 ∷ 120 ∷ []
so_far (HexOne high) = 92 ∷ 120 ∷ high ∷ []

unfoldable pub IsInLiteral : InLiteral → Type 0
IsInLiteral Between = Unit {0}
IsInLiteral Backslash = Unit {0}
IsInLiteral HexBegun = Unit {0}
IsInLiteral (HexOne high) = is_hex high ≡ true

pub with_itself : (b : ℕ) (w : List ℕ) → is_literal_byte b ≡ true → IsLiteralEnd w → IsLiteralEnd (b ∷ w)
unfolding items AreItems
with_itself b w h e = (Itself b ∷ e.0, (h, e.1), ap (λ (v : List ℕ). b ∷ v) e.2)

pub with_short : (b : ℕ) (w : List ℕ) → is_short b ≡ true → IsLiteralEnd w → IsLiteralEnd (92 ∷ b ∷ w)
unfolding items AreItems
with_short b w h e = (Short b ∷ e.0, (h, e.1), ap (λ (v : List ℕ). 92 ∷ b ∷ v) e.2)

pub with_hex : (h l : ℕ) (w : List ℕ) → is_hex h ≡ true → is_hex l ≡ true → IsLiteralEnd w → IsLiteralEnd (92 ∷ 120 ∷ h ∷ l ∷ w)
unfolding items AreItems
with_hex h l w i j e = (Hex h l ∷ e.0, (i, j, e.1), ap (λ (v : List ℕ). 92 ∷ 120 ∷ h ∷ l ∷ v) e.2)

pub quote_ends : (b : ℕ) → (b == 34) ≡ true → IsLiteralEnd (b ∷ [])
unfolding items AreItems
quote_ends b e = ([], tt, ap (λ (x : ℕ). x ∷ []) (sym (is_code b 34 e)))

pub literal_byte : (b : ℕ) → (b == 34) ≡ false → (b == 92) ≡ false → (b == 10) ≡ false → is_literal_byte b ≡ true
literal_byte b e f g = not_is _ (or_no _ _ (or_no _ _ e f) g)

pub literal_splits : (st : InLiteral) (bs : List ℕ) → IsInLiteral st → Splits bs (λ w. IsLiteralEnd (so_far st ++ w)) (literal st bs)
unfolding closing literal_step so_far IsInLiteral Splits
literal_splits Between [] k = tt
literal_splits Backslash [] k = tt
literal_splits HexBegun [] k = tt
literal_splits (HexOne high) [] k = tt
literal_splits Between (b ∷ bs) k =
    let P = λ (x : ClosingStep InLiteral). Splits (b ∷ bs) (λ w. IsLiteralEnd w) (after x (λ t. literal t bs)) in
    by_test P (b == 34) _ _ (λ e. one b bs (λ w. IsLiteralEnd w) (quote_ends b e)) (λ n1.
    by_test P (b == 92) _ _ (λ e. more_splits b bs (λ w. IsLiteralEnd w) (λ w. IsLiteralEnd (92 ∷ w)) _ (λ w h. subst (λ (x : ℕ). IsLiteralEnd (x ∷ w)) (is_code b 92 e) h) (literal_splits Backslash bs tt)) (λ n2.
    by_test P (b == 10) _ _ (λ e. tt) (λ n3. more_splits b bs (λ w. IsLiteralEnd w) (λ w. IsLiteralEnd w) _ (λ w h. with_itself b w (literal_byte b n1 n2 n3) h) (literal_splits Between bs tt))))
literal_splits Backslash (b ∷ bs) k =
    let P = λ (x : ClosingStep InLiteral). Splits (b ∷ bs) (λ w. IsLiteralEnd (92 ∷ w)) (after x (λ t. literal t bs)) in
    by_test P (b == 120) _ _ (λ e. more_splits b bs (λ w. IsLiteralEnd (92 ∷ w)) (λ w. IsLiteralEnd (92 ∷ 120 ∷ w)) _ (λ w h. subst (λ (x : ℕ). IsLiteralEnd (92 ∷ x ∷ w)) (is_code b 120 e) h) (literal_splits HexBegun bs tt)) (λ _.
    by_test P (is_short b) _ _ (λ e. more_splits b bs (λ w. IsLiteralEnd (92 ∷ w)) (λ w. IsLiteralEnd w) _ (λ w h. with_short b w e h) (literal_splits Between bs tt)) (λ _. tt))
literal_splits HexBegun (b ∷ bs) k =
    by_test (λ (x : ClosingStep InLiteral). Splits (b ∷ bs) (λ w. IsLiteralEnd (92 ∷ 120 ∷ w)) (after x (λ t. literal t bs))) (is_hex b) _ _ (λ e. more_splits b bs (λ w. IsLiteralEnd (92 ∷ 120 ∷ w)) (λ w. IsLiteralEnd (92 ∷ 120 ∷ b ∷ w)) _ (λ w h. h) (literal_splits (HexOne b) bs e)) (λ _. tt)
literal_splits (HexOne high) (b ∷ bs) k =
    by_test (λ (x : ClosingStep InLiteral). Splits (b ∷ bs) (λ w. IsLiteralEnd (92 ∷ 120 ∷ high ∷ w)) (after x (λ t. literal t bs))) (is_hex b) _ _ (λ e. more_splits b bs (λ w. IsLiteralEnd (92 ∷ 120 ∷ high ∷ w)) (λ w. IsLiteralEnd w) _ (λ w h. with_hex high b w k e h) (literal_splits Between bs tt)) (λ _. tt)

-- and what is spelled so is found
unfoldable pub AtLeast : ℕ → Option ℕ → Type 0
AtLeast n None = ⊥
AtLeast n (Some m) = n ≤ m

pub more_at_least : (n : ℕ) (o : Option ℕ) → AtLeast n o → AtLeast (suc n) (more o)
unfolding AtLeast more
more_at_least n None h = h
more_at_least n (Some m) h = omega (arith, h)

pub from_step : {S : Type 0} (n : ℕ) (step : S → ℕ → ClosingStep S) (s : S) (b : ℕ) (bs : List ℕ) (x : ClosingStep S) → step s b ≡ x → AtLeast n (after x (λ t. closing step t bs)) → AtLeast n (closing step s (b ∷ bs))
unfolding closing
from_step n step s b bs x e h = subst (λ (y : ClosingStep _). AtLeast n (after y (λ t. closing step t bs))) (sym e) h

pub itself_step : (b : ℕ) → is_literal_byte b ≡ true → literal_step Between b ≡ On Between
unfolding literal_step
itself_step b h = cond_no (b == 34) _ _ (apart is_literal_byte b 34 h refl) ∙ cond_no (b == 92) _ _ (apart is_literal_byte b 92 h refl) ∙ cond_no (b == 10) _ _ (apart is_literal_byte b 10 h refl)

pub short_step : (b : ℕ) → is_short b ≡ true → literal_step Backslash b ≡ On Between
unfolding literal_step
short_step b h = cond_no (b == 120) _ _ (apart is_short b 120 h refl) ∙ cond_yes (is_short b) _ _ h

pub hex_step : (b : ℕ) → is_hex b ≡ true → literal_step HexBegun b ≡ On (HexOne b)
unfolding literal_step
hex_step b h = cond_yes (is_hex b) _ _ h

pub low_step : (high b : ℕ) → is_hex b ≡ true → literal_step (HexOne high) b ≡ On Between
unfolding literal_step
low_step high b h = cond_yes (is_hex b) _ _ h

pub literal_long : (is : List LiteralItem) (rest : List ℕ) → AreItems is → AtLeast (length (items is ++ 34 ∷ [])) (literal Between ((items is ++ 34 ∷ []) ++ rest))
unfolding items AreItems closing literal_step AtLeast
literal_long [] rest h = omega arith
literal_long (Itself b ∷ is) rest h = from_step _ literal_step Between b _ (On Between) (itself_step b h.0) (more_at_least _ _ (literal_long is rest h.1))
literal_long (Short b ∷ is) rest h = more_at_least _ _ (from_step _ literal_step Backslash b _ (On Between) (short_step b h.0) (more_at_least _ _ (literal_long is rest h.1)))
literal_long (Hex i j ∷ is) rest h =
    let n = length (items is ++ 34 ∷ []) in
    more_at_least _ _ (more_at_least _ _ (from_step (suc (suc n)) literal_step HexBegun i (j ∷ ((items is ++ 34 ∷ []) ++ rest)) (On (HexOne i)) (hex_step i h.0) (more_at_least _ _ (from_step (suc n) literal_step (HexOne i) j ((items is ++ 34 ∷ []) ++ rest) (On Between) (low_step i j h.1) (more_at_least _ _ (literal_long is rest h.2))))))

-- ---- regexes

abbrev pub IsRegexEnd : List ℕ → Type 0
IsRegexEnd w = (as' : List LiteralAtom) × AreAtoms as' × (w ≡ atoms as' ++ 47 ∷ [])

unfoldable pub escaped : Bool → List ℕ
escaped true = 92 ∷ []
escaped false = []

pub regex_byte : (b : ℕ) → (b == 47) ≡ false → (b == 92) ≡ false → (b == 10) ≡ false → is_regex_byte b ≡ true
regex_byte b e f g = not_is _ (or_no _ _ (or_no _ _ e f) g)

pub with_plain : (b : ℕ) (w : List ℕ) → is_regex_byte b ≡ true → IsRegexEnd w → IsRegexEnd (b ∷ w)
unfolding atoms AreAtoms
with_plain b w h e = (Plain b ∷ e.0, (h, e.1), ap (λ (v : List ℕ). b ∷ v) e.2)

pub with_escaped : (b : ℕ) (w : List ℕ) → is_no_feed b ≡ true → IsRegexEnd w → IsRegexEnd (92 ∷ b ∷ w)
unfolding atoms AreAtoms
with_escaped b w h e = (Escaped b ∷ e.0, (h, e.1), ap (λ (v : List ℕ). 92 ∷ b ∷ v) e.2)

pub slash_ends : (b : ℕ) → (b == 47) ≡ true → IsRegexEnd (b ∷ [])
unfolding atoms AreAtoms
slash_ends b e = ([], tt, ap (λ (x : ℕ). x ∷ []) (sym (is_code b 47 e)))

pub regex_splits : (e : Bool) (bs : List ℕ) → Splits bs (λ w. IsRegexEnd (escaped e ++ w)) (regex e bs)
unfolding closing regex_step escaped Splits
regex_splits true [] = tt
regex_splits false [] = tt
regex_splits false (b ∷ bs) =
    let P = λ (x : ClosingStep Bool). Splits (b ∷ bs) (λ w. IsRegexEnd w) (after x (λ t. regex t bs)) in
    by_test P (b == 47) _ _ (λ e. one b bs (λ w. IsRegexEnd w) (slash_ends b e)) (λ n1.
    by_test P (b == 92) _ _ (λ e. more_splits b bs (λ w. IsRegexEnd w) (λ w. IsRegexEnd (92 ∷ w)) _ (λ w h. subst (λ (x : ℕ). IsRegexEnd (x ∷ w)) (is_code b 92 e) h) (regex_splits true bs)) (λ n2.
    by_test P (b == 10) _ _ (λ e. tt) (λ n3. more_splits b bs (λ w. IsRegexEnd w) (λ w. IsRegexEnd w) _ (λ w h. with_plain b w (regex_byte b n1 n2 n3) h) (regex_splits false bs))))
regex_splits true (b ∷ bs) =
    by_test (λ (x : ClosingStep Bool). Splits (b ∷ bs) (λ w. IsRegexEnd (92 ∷ w)) (after x (λ t. regex t bs))) (b == 10) _ _ (λ _. tt) (λ n. more_splits b bs (λ w. IsRegexEnd (92 ∷ w)) (λ w. IsRegexEnd w) _ (λ w h. with_escaped b w (not_is _ n) h) (regex_splits false bs))

pub feed_apart : (b : ℕ) → is_no_feed b ≡ true → (b == 10) ≡ false
feed_apart b h = apart is_no_feed b 10 h refl

pub plain_step : (b : ℕ) → is_regex_byte b ≡ true → regex_step false b ≡ On false
unfolding regex_step
plain_step b h = cond_no (b == 47) _ _ (apart is_regex_byte b 47 h refl) ∙ cond_no (b == 92) _ _ (apart is_regex_byte b 92 h refl) ∙ cond_no (b == 10) _ _ (apart is_regex_byte b 10 h refl)

pub escaped_step : (b : ℕ) → is_no_feed b ≡ true → regex_step true b ≡ On false
unfolding regex_step
escaped_step b h = cond_no (b == 10) _ _ (feed_apart b h)

pub regex_long : (as' : List LiteralAtom) (rest : List ℕ) → AreAtoms as' → AtLeast (length (atoms as' ++ 47 ∷ [])) (regex false ((atoms as' ++ 47 ∷ []) ++ rest))
unfolding atoms AreAtoms closing regex_step AtLeast
regex_long [] rest h = omega arith
regex_long (Plain b ∷ as') rest h = from_step _ regex_step false b _ (On false) (plain_step b h.0) (more_at_least _ _ (regex_long as' rest h.1))
regex_long (Escaped b ∷ as') rest h = more_at_least _ _ (from_step _ regex_step true b _ (On false) (escaped_step b h.0) (more_at_least _ _ (regex_long as' rest h.1)))

-- ---- block comments

unfoldable pub star_before : Bool → List ℕ
star_before true = 42 ∷ []
star_before false = []

-- bytes up to and with the first */, where these come before them
abbrev pub IsBlockEnd : Bool → List ℕ → Type 0
IsBlockEnd star w = (v : List ℕ) × NoClose (v ++ 42 ∷ []) × (star_before star ++ w ≡ v ++ 42 ∷ 47 ∷ [])

pub no_close_tail : (b : ℕ) (w : List ℕ) → NoClose (b ∷ w) → NoClose w
no_close_tail b w n a d e = n (b ∷ a) d (ap (λ (x : List ℕ). b ∷ x) e)

pub no_close_other : (b : ℕ) (w : List ℕ) → (b ≡ 42 → ⊥) → NoClose w → NoClose (b ∷ w)
no_close_other b w other n [] d e = absurd (other (cc))
no_close_other b w other n (x ∷ a) d e = n a d (cc)

pub no_close_next : (c : ℕ) (w : List ℕ) → (c ≡ 47 → ⊥) → NoClose (c ∷ w) → NoClose (42 ∷ c ∷ w)
no_close_next c w other n [] d e = absurd (other (cc))
no_close_next c w other n (x ∷ a) d e = n a d (cc)

pub no_close_star : NoClose (42 ∷ [])
no_close_star [] d e = absurd cc
no_close_star (x ∷ []) d e = absurd cc
no_close_star (x ∷ y ∷ a) d e = absurd cc

-- a star in front of what begins with a star
pub star_twice : (v w : List ℕ) → 42 ∷ w ≡ v ++ 42 ∷ 47 ∷ [] → NoClose (v ++ 42 ∷ []) → NoClose (42 ∷ (v ++ 42 ∷ []))
star_twice [] w e n = no_close_next 42 [] (λ q. absurd (omega (arith, q))) n
star_twice (x ∷ v) w e n =
    let first : x ≡ 42 = cc in
    no_close_next x (v ++ 42 ∷ []) (λ q. absurd (omega (arith, q, first))) n

pub drop_star : (star : Bool) (b : ℕ) (w : List ℕ) → NoClose (star_before star ++ b ∷ w) → NoClose (b ∷ w)
unfolding star_before
drop_star false b w n = n
drop_star true b w n = no_close_tail 42 (b ∷ w) n

pub star_case : (star : Bool) (b : ℕ) (w : List ℕ) → star_closes star b ≡ false → b ≡ 42 → IsBlockEnd true w → IsBlockEnd star (b ∷ w)
unfolding star_before
star_case false b w s e k = (k.0, k.1, ap (λ (x : ℕ). x ∷ w) e ∙ k.2)
star_case true b w s e k = (42 ∷ k.0, star_twice k.0 w k.2 k.1, ap (λ (x : ℕ). 42 ∷ x ∷ w) e ∙ ap (λ (x : List ℕ). 42 ∷ x) k.2)

pub other_case : (star : Bool) (b : ℕ) (w : List ℕ) → star_closes star b ≡ false → (b ≡ 42 → ⊥) → IsBlockEnd false w → IsBlockEnd star (b ∷ w)
unfolding star_before
other_case false b w s n k = (b ∷ k.0, no_close_other b _ n k.1, ap (λ (x : List ℕ). b ∷ x) k.2)
other_case true b w s n k = (42 ∷ b ∷ k.0, no_close_next b _ (eqb-false b 47 s) (no_close_other b _ n k.1), ap (λ (x : List ℕ). 42 ∷ b ∷ x) k.2)

pub block_ends : (star : Bool) (b : ℕ) → star_closes star b ≡ true → IsBlockEnd star (b ∷ [])
unfolding star_before
block_ends true b e = ([], no_close_star, ap (λ (x : ℕ). 42 ∷ x ∷ []) (sym (is_code b 47 e)))
block_ends false b e = absurd (false≢true e)

pub star_open : (star : Bool) (b : ℕ) (w : List ℕ) → NoClose (star_before star ++ b ∷ w) → star_closes star b ≡ false
unfolding star_before
star_open false b w n = refl
star_open true b w n = ne_eqb b 47 (λ e. n [] w (ap (λ (x : ℕ). 42 ∷ x ∷ w) e))

pub star_rest : (star : Bool) (b : ℕ) (w : List ℕ) → NoClose (star_before star ++ b ∷ w) → NoClose (star_before (b == 42) ++ w)
unfolding star_before
star_rest star b w n = go (b == 42) refl
  where
    go : (t : Bool) → (b == 42) ≡ t → NoClose (star_before t ++ w)
    go true e = subst (λ (x : ℕ). NoClose (x ∷ w)) (eqb-true b 42 e) (drop_star star b w n)
    go false e = no_close_tail b w (drop_star star b w n)

pub block_cons : (star : Bool) (b : ℕ) (w : List ℕ) → star_closes star b ≡ false → IsBlockEnd (b == 42) w → IsBlockEnd star (b ∷ w)
unfolding star_before
block_cons star b w s h = go (b == 42) refl h
  where
    go : (t : Bool) → (b == 42) ≡ t → IsBlockEnd t w → IsBlockEnd star (b ∷ w)
    go true e k = star_case star b w s (eqb-true b 42 e) k
    go false e k = other_case star b w s (eqb-false b 42 e) k

pub block_splits : (star : Bool) (bs : List ℕ) → Splits bs (IsBlockEnd star) (block star bs)
unfolding closing block_step Splits
block_splits star [] = tt
block_splits star (b ∷ bs) =
    by_test (λ (x : ClosingStep Bool). Splits (b ∷ bs) (IsBlockEnd star) (after x (λ t. block t bs))) (star_closes star b) _ _ (λ e. one b bs (IsBlockEnd star) (block_ends star b e))
    (λ n. more_splits b bs (IsBlockEnd star) (IsBlockEnd (b == 42)) _ (λ w h. block_cons star b w n h) (block_splits (b == 42) bs))

pub open_step : (star : Bool) (b : ℕ) → star_closes star b ≡ false → block_step star b ≡ On (b == 42)
unfolding block_step
open_step star b h = cond_no (star_closes star b) _ _ h

pub block_long : (star : Bool) (v rest : List ℕ) → NoClose (star_before star ++ (v ++ 42 ∷ [])) → AtLeast (length (v ++ 42 ∷ 47 ∷ [])) (block star ((v ++ 42 ∷ 47 ∷ []) ++ rest))
unfolding closing block_step AtLeast more star_before
block_long true [] rest n = omega arith
block_long false [] rest n = omega arith
block_long star (b ∷ v) rest n =
    from_step _ block_step star b _ (On (b == 42)) (open_step star b (star_open star b (v ++ 42 ∷ []) n)) (more_at_least _ _ (block_long (b == 42) v rest (star_rest star b (v ++ 42 ∷ []) n)))
