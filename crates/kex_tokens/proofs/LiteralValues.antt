-- What the loops over a literal and over digits gather.
use Rattle.std.proofs.Common.{◌≡◌, ℕ, ◌+◌, ◌-◌, ◌*◌, ◌<◌, ◌≤◌, true, List, [], ◌∷◌, ◌++◌, length, get_or, drop, Option, Some, None, refl, sym, ap, ◌∙◌, arith, append_assoc, append-nil}
use Rattle.std.specs.Prelude.{map, ◌==◌}
use Rattle.std.proofs.Math.ListN.{drop_of_length-le}
use Rattle.kex_tokens.specs.Lexemes.{is_literal_byte, is_short, LiteralItem, Itself, Short, Hex, items, AreItems, Literal, IsToken}
use Rattle.kex_tokens.specs.Scanning.{InLiteral, Between, Backslash, HexBegun, HexOne, ClosingStep, On, Closed, Wrong, literal_step}
use Rattle.kex_tokens.specs.Values.{hex_value, short_value, item_value, StandsFor, number_behind, decimal_value, item_end, or_nothing, decode_after, decode}
use Rattle.kex_tokens.proofs.Scans.{apart, cond_no, itself_step, short_step, hex_step, low_step}
use Rattle.kex_tokens.proofs.Loops.{drop_at_next}

-- ---- literals

pub decode_step : (s t : InLiteral) (b : ℕ) (bs : List ℕ) (o : Option ℕ) → literal_step s b ≡ On t → item_end s b ≡ o → decode s (b ∷ bs) ≡ or_nothing o ++ decode t bs
unfolding decode
decode_step s t b bs o e f =
    ap (λ (x : ClosingStep InLiteral). decode_after x (or_nothing (item_end s b)) (λ u. decode u bs)) e ∙ ap (λ (x : Option ℕ). or_nothing x ++ decode t bs) f

pub itself_end : (b : ℕ) → is_literal_byte b ≡ true → item_end Between b ≡ Some b
unfolding item_end
itself_end b h = cond_no (b == 92) _ _ (apart is_literal_byte b 92 h refl)

pub short_end : (b : ℕ) → is_short b ≡ true → item_end Backslash b ≡ Some (short_value b)
unfolding item_end
short_end b h = cond_no (b == 120) _ _ (apart is_short b 120 h refl)

-- an item's first bytes give nothing, and its last one gives its value
pub decode_items : (is : List LiteralItem) → AreItems is → decode Between (items is ++ 34 ∷ []) ≡ map item_value is
unfolding items AreItems decode literal_step item_end
decode_items [] h = refl
decode_items (Itself b ∷ is) h =
    decode_step Between Between b (items is ++ 34 ∷ []) (Some b) (itself_step b h.0) (itself_end b h.0) ∙ ap (λ (w : List ℕ). b ∷ w) (decode_items is h.1)
decode_items (Short b ∷ is) h =
    decode_step Backslash Between b (items is ++ 34 ∷ []) (Some (short_value b)) (short_step b h.0) (short_end b h.0) ∙ ap (λ (w : List ℕ). short_value b ∷ w) (decode_items is h.1)
decode_items (Hex i j ∷ is) h =
    let value = 16 * hex_value i + hex_value j in
    decode_step HexBegun (HexOne i) i (j ∷ (items is ++ 34 ∷ [])) None (hex_step i h.0) refl ∙ decode_step (HexOne i) Between j (items is ++ 34 ∷ []) (Some value) (low_step i j h.1) refl ∙ ap (λ (w : List ℕ). value ∷ w) (decode_items is h.2)

-- what has been given, and what the rest gives, is what the whole gives
abbrev pub IsGiven : List ℕ → List ℕ → InLiteral → ℕ → Type 0
IsGiven text given s i = given ++ decode s (drop i text) ≡ decode Between (drop 1 text)

pub decode_at : (text : List ℕ) (i : ℕ) (s : InLiteral) (x : ClosingStep InLiteral) → i < length text → x ≡ literal_step s (get_or text i 0) → decode s (drop i text) ≡ decode_after x (or_nothing (item_end s (get_or text i 0))) (λ t. decode t (drop (i + 1) text))
unfolding decode
decode_at text i s x h e = ap (decode s) (drop_at_next text i h) ∙ ap (λ (y : ClosingStep InLiteral). decode_after y (or_nothing (item_end s (get_or text i 0))) (λ t. decode t (drop (i + 1) text))) (sym e)

pub given_more : (text given new : List ℕ) (i : ℕ) (s t : InLiteral) (o : Option ℕ) → i < length text → On t ≡ literal_step s (get_or text i 0) → o ≡ item_end s (get_or text i 0) → new ≡ given ++ or_nothing o → IsGiven text given s i → IsGiven text new t (i + 1)
given_more text given new i s t o h e f n inv =
    ap (λ (w : List ℕ). w ++ decode t (drop (i + 1) text)) (n ∙ ap (λ (x : Option ℕ). given ++ or_nothing x) f)
    ∙ append_assoc given (or_nothing (item_end s (get_or text i 0))) (decode t (drop (i + 1) text))
    ∙ ap (λ (w : List ℕ). given ++ w) (sym (decode_at text i s (On t) h e)) ∙ inv

pub given_all : (text given : List ℕ) (i : ℕ) (s : InLiteral) (x : ClosingStep InLiteral) → i < length text → x ≡ literal_step s (get_or text i 0) → ((t : InLiteral) → x ≡ On t → ⊥) → IsGiven text given s i → given ≡ decode Between (drop 1 text)
given_all text given i s (On t) h e n inv = absurd (n t refl)
given_all text given i s Closed h e n inv = sym (append-nil given) ∙ ap (λ (w : List ℕ). given ++ w) (sym (decode_at text i s Closed h e)) ∙ inv
given_all text given i s Wrong h e n inv = sym (append-nil given) ∙ ap (λ (w : List ℕ). given ++ w) (sym (decode_at text i s Wrong h e)) ∙ inv

pub given_out : (text given : List ℕ) (i : ℕ) (s : InLiteral) → length text ≤ i → IsGiven text given s i → given ≡ decode Between (drop 1 text)
unfolding decode
given_out text given i s h inv = sym (append-nil given) ∙ ap (λ (w : List ℕ). given ++ decode s w) (sym (drop_of_length-le text h)) ∙ inv

pub literal_stands : (text bytes : List ℕ) → IsToken Literal text → bytes ≡ decode Between (drop 1 text) → StandsFor text bytes
unfolding IsToken
literal_stands text bytes h e = (h.0, h.1, h.2, sym (decode_items h.0 h.1) ∙ ap (λ (w : List ℕ). decode Between (drop 1 w)) (sym h.2) ∙ sym e)

pub one_value : (text a b : List ℕ) → StandsFor text a → StandsFor text b → a ≡ b
one_value text a b h k =
    let value : (c : List ℕ) → StandsFor text c → c ≡ decode Between (drop 1 text) = λ (c : List ℕ) (s : StandsFor text c). sym s.3 ∙ sym (decode_items s.0 s.1) ∙ ap (λ (w : List ℕ). decode Between (drop 1 w)) (sym s.2) in
    value a h ∙ sym (value b k)

-- ---- numbers

pub number_grows : (n : ℕ) (bs : List ℕ) → n ≤ number_behind n bs
unfolding number_behind
number_grows n [] = omega arith
number_grows n (b ∷ bs) = omega (arith, number_grows (10 * n + (b - 48)) bs)

pub number_at : (digits : List ℕ) (i n m : ℕ) → i < length digits → m ≡ 10 * n + (get_or digits i 0 - 48) → number_behind n (drop i digits) ≡ number_behind m (drop (i + 1) digits)
unfolding number_behind
number_at digits i n m h e = ap (number_behind n) (drop_at_next digits i h) ∙ ap (λ (k : ℕ). number_behind k (drop (i + 1) digits)) (sym e)

pub number_more : (digits : List ℕ) (i n m : ℕ) → i < length digits → m ≡ 10 * n + (get_or digits i 0 - 48) → number_behind n (drop i digits) ≡ decimal_value digits → number_behind m (drop (i + 1) digits) ≡ decimal_value digits
number_more digits i n m h e inv = sym (number_at digits i n m h e) ∙ inv

pub number_above : (digits : List ℕ) (i n m most : ℕ) → i < length digits → m ≡ 10 * n + (get_or digits i 0 - 48) → number_behind n (drop i digits) ≡ decimal_value digits → most < m → most < decimal_value digits
number_above digits i n m most h e inv l = omega (arith, l, number_grows m (drop (i + 1) digits), number_more digits i n m h e inv)

pub number_whole : (digits : List ℕ) (i n : ℕ) → length digits ≤ i → number_behind n (drop i digits) ≡ decimal_value digits → n ≡ decimal_value digits
unfolding number_behind
number_whole digits i n h inv = sym (ap (number_behind n) (drop_of_length-le digits h)) ∙ inv
