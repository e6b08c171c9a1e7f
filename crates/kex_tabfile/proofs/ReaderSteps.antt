-- What is read of a file, and the numbers in it.
use Rattle.std.proofs.Common.{◌≡◌, ℕ, zero, suc, ◌+◌, ◌-◌, ◌*◌, ◌<◌, ◌≤◌, ◌^◌, List, [], ◌∷◌, ◌++◌, length, get_or, take, drop, refl, sym, ap, ap₂, subst, ◌∙◌, append_assoc, length-append, arith, rules}
use Rattle.std.specs.Prelude.{decimal}
use Rattle.std.proofs.Math.Seq.{take-add, drop-cons}
use Rattle.std.proofs.lemmas.List.{drop_all, take-append-drop, length-take-le}
use Rattle.std.proofs.lemmas.Str.Parse.{IsNumeralModel, numerals_by_fold}
use Rattle.std.proofs.lemmas.Fmt.{digits_decimal, digits_value-decimal}
use Rattle.kex_tabfile.specs.Readers.{ReadsBytes, IsDigit}

take_front : (xs ys : List ℕ) → take (length xs) (xs ++ ys) ≡ xs
take_front [] ys = refl
take_front (x ∷ xs) ys = ap (λ z. x ∷ z) (take_front xs ys)

pub drop_front : (xs ys : List ℕ) → drop (length xs) (xs ++ ys) ≡ ys
drop_front [] ys = refl
drop_front (x ∷ xs) ys = drop_front xs ys

pub drop_on : (n m : ℕ) (xs : List ℕ) → drop (n + m) xs ≡ drop m (drop n xs)
drop_on zero m xs = let e : zero + m ≡ m = omega arith in ap (λ z. drop z xs) e
drop_on (suc n) m [] = drop_all (suc n + m) [] (omega arith) ∙ sym (drop_all m [] (omega arith))
drop_on (suc n) m (x ∷ xs) = let e : suc n + m ≡ suc (n + m) = omega arith in ap (λ z. drop z (x ∷ xs)) e ∙ drop_on n m xs

head_of : (xs : List ℕ) (k : ℕ) → k < length xs → drop k xs ≡ get_or xs k 0 ∷ drop (k + 1) xs
head_of xs k lt = let e : suc k ≡ k + 1 = omega arith in drop-cons xs k 0 lt ∙ ap (λ n. get_or xs k 0 ∷ drop n xs) e

-- what comes next is read
pub reads_on : (bytes : List ℕ) (at to : ℕ) (line more : List ℕ) → drop at bytes ≡ line ++ more → to ≡ at + length line → ReadsBytes (record { before = take at bytes; rest = drop at bytes }) line (record { before = take to bytes; rest = drop to bytes })
reads_on bytes at to line more e is = record {
  before = ap (λ n. take n bytes) is ∙ take-add at (length line) bytes ∙ ap (λ z. take at bytes ++ take (length line) z) e ∙ ap (λ z. take at bytes ++ z) (take_front line more);
  came = e ∙ ap (λ z. line ++ z) (sym (ap (λ n. drop n bytes) is ∙ drop_on at (length line) bytes ∙ ap (drop (length line)) e ∙ drop_front line more));
}

-- a line comes next, and is read
pub line_read : (bytes : List ℕ) (at : ℕ) (line front rest : List ℕ) → front ≡ drop at bytes → front ≡ line ++ rest → ReadsBytes (record { before = take at bytes; rest = drop at bytes }) line (record { before = take (at + length line) bytes; rest = drop (at + length line) bytes })
line_read bytes at line front rest e f = reads_on bytes at (at + length line) line rest (sym e ∙ f) refl

-- a line and a text come next, and are read
pub text_read : (bytes : List ℕ) (at to size : ℕ) (line left behind text : List ℕ) → left ≡ drop at bytes → left ≡ line ++ drop (length line) left → behind ≡ drop (length line) left → text ≡ take size behind → size < length behind → get_or behind size 0 ≡ 10 → to ≡ at + (length line + size + 1) → (length text ≡ size) × ReadsBytes (record { before = take at bytes; rest = drop at bytes }) (line ++ (text ++ 10 ∷ [])) (record { before = take to bytes; rest = drop to bytes })
text_read bytes at to size line left behind text e f g h lt feed is =
    let long : length text ≡ size = ap length h ∙ length-take-le size behind (omega (arith, lt)) in
    let cut : behind ≡ (text ++ 10 ∷ []) ++ drop (size + 1) behind =
    sym (take-append-drop size behind)
    ∙ ap₂ (λ u v. u ++ v) (sym h) (head_of behind size lt ∙ ap (λ n. n ∷ drop (size + 1) behind) feed)
    ∙ sym (append_assoc text (10 ∷ []) (drop (size + 1) behind)) in
    let whole : drop at bytes ≡ (line ++ (text ++ 10 ∷ [])) ++ drop (size + 1) behind =
    sym e ∙ f ∙ ap (λ z. line ++ z) (sym g ∙ cut) ∙ sym (append_assoc line (text ++ 10 ∷ []) (drop (size + 1) behind)) in
    let count : length (line ++ (text ++ 10 ∷ [])) ≡ length line + size + 1 = omega (arith, length-append line (text ++ 10 ∷ []), length-append text (10 ∷ []), long) in
    (long, reads_on bytes at to (line ++ (text ++ 10 ∷ [])) (drop (size + 1) behind) whole (omega (arith, is, count)))

-- no such text comes next
pub no_text : (size : ℕ) (line left behind text more : List ℕ) → behind ≡ drop (length line) left → length text ≡ size → left ≡ (line ++ (text ++ 10 ∷ [])) ++ more → (size < length behind) × (get_or behind size 0 ≡ 10)
no_text size line left behind text more g long e =
    let is : behind ≡ (text ++ 10 ∷ []) ++ more = g ∙ ap (drop (length line)) (e ∙ append_assoc line (text ++ 10 ∷ []) more) ∙ drop_front line ((text ++ 10 ∷ []) ++ more) in
    let lt : size < length behind = omega (arith, ap length is, length-append (text ++ 10 ∷ []) more, length-append text (10 ∷ []), long) in
    let at_size : drop size behind ≡ 10 ∷ more = ap (drop size) (is ∙ append_assoc text (10 ∷ []) more) ∙ ap (λ n. drop n (text ++ 10 ∷ more)) (sym long) ∙ drop_front text (10 ∷ more) in
    let head = sym (head_of behind size lt) ∙ at_size in
    (lt, (cc))

-- ---- numbers

abbrev pub EachDigit : List ℕ → Type 0
EachDigit [] = Unit {0}
EachDigit (b ∷ bs) = IsDigit b × EachDigit bs

abbrev pub read_on : ℕ → List ℕ → ℕ
read_on n [] = n
read_on n (b ∷ bs) = read_on (10 * n + (b - 48)) bs

own : IsNumeralModel EachDigit (read_on 0)
own = numerals_by_fold EachDigit (search rules) read_on (search rules)

-- from an offset on, the digits that are left make the value this number
pub record IsNumberLeft (bytes : List ℕ) (i value n next : ℕ) (more : List ℕ) : Type 0 where
  pub left : List ℕ
  pub each : EachDigit left
  pub here : drop i bytes ≡ left ++ next ∷ more
  pub is : read_on value left ≡ n

pub number_begun : (bytes : List ℕ) (from n next : ℕ) (more : List ℕ) → n < 2 ^ 64 → drop from bytes ≡ decimal n ++ next ∷ more → IsNumberLeft bytes from 0 n next more
number_begun bytes from n next more fits e = record { left = decimal n; each = digits_decimal own n fits; here = e; is = digits_value-decimal own n fits }

read_above : (v : ℕ) (bs : List ℕ) → v ≤ read_on v bs
read_above v [] = omega arith
read_above v (b ∷ bs) = let h = read_above (10 * v + (b - 48)) bs in omega (arith, h)

-- at a byte that is no digit the number is whole
pub number_whole : (bytes : List ℕ) (i value n next : ℕ) (more : List ℕ) → i < length bytes → (IsDigit (get_or bytes i 0) → ⊥) → IsNumberLeft bytes i value n next more → value ≡ n
number_whole bytes i value n next more lt none h = by h.left h.each h.here h.is
  where
    by : (left : List ℕ) → EachDigit left → drop i bytes ≡ left ++ next ∷ more → read_on value left ≡ n → value ≡ n
    by [] each here is = is
    by (b ∷ bs) each here is = let e = sym (head_of bytes i lt) ∙ here in let same : b ≡ get_or bytes i 0 = cc in absurd (none (subst IsDigit same each.0))

-- a digit is read
pub number_more : (bytes : List ℕ) (i value n next : ℕ) (more : List ℕ) → i < length bytes → IsDigit (get_or bytes i 0) → (IsDigit next → ⊥) → IsNumberLeft bytes i value n next more → IsNumberLeft bytes (i + 1) (10 * value + (get_or bytes i 0 - 48)) n next more
number_more bytes i value n next more lt digit none h = by h.left h.each h.here h.is
  where
    by : (left : List ℕ) → EachDigit left → drop i bytes ≡ left ++ next ∷ more → read_on value left ≡ n → IsNumberLeft bytes (i + 1) (10 * value + (get_or bytes i 0 - 48)) n next more
    by [] each here is = let e = sym (head_of bytes i lt) ∙ here in let same : get_or bytes i 0 ≡ next = cc in absurd (none (subst IsDigit same digit))
    by (b ∷ bs) each here is =
        let e = sym (head_of bytes i lt) ∙ here in
        let same : b ≡ get_or bytes i 0 = cc in
        record { left = bs; each = each.1; here = cc; is = subst (λ z. read_on (10 * value + (z - 48)) bs ≡ n) same is }

-- the value so far is no more than the number
pub number_above : (bytes : List ℕ) (i value n next : ℕ) (more : List ℕ) → IsNumberLeft bytes i value n next more → value ≤ n
number_above bytes i value n next more h = subst (λ z. value ≤ z) h.is (read_above value h.left)

-- the number doesn't end where the bytes do
pub number_not_cut : (bytes : List ℕ) (i value n next : ℕ) (more : List ℕ) → length bytes ≤ i → IsNumberLeft bytes i value n next more → ⊥
number_not_cut bytes i value n next more le h = by h.left (sym (drop_all i bytes le) ∙ h.here)
  where
    by : (left : List ℕ) → [] ≡ left ++ next ∷ more → ⊥
    by [] e = cc
    by (b ∷ bs) e = cc
