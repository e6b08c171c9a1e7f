-- Postfixes, of bodies and of programs: their trees, what they mean, how an alphabet spells them,
-- and the machine that reads a count in braces.
use Rattle.kex_tokens.specs.Values.{decimal_value}
use Rattle.std.specs.Prelude.{ℕ, Bool, true, false, ◌||◌, List, [], ◌∷◌, ◌++◌, Option, Some, None}
use Rattle.std.specs.Prelude.{nat_lt}

-- counts as their digits
pub data Postfix : Type 0 where
  ZeroOrMore : Postfix
  OneOrMore : Postfix
  Optional : Postfix
  Exactly : (n : List ℕ) → Postfix
  AtLeast : (n : List ℕ) → Postfix
  AtMost : (m : List ℕ) → Postfix
  FromTo : (n m : List ℕ) → Postfix

-- ---- what they mean

-- the least number of turns
unfoldable pub low : Postfix → ℕ
low ZeroOrMore = 0
low OneOrMore = 1
low Optional = 0
low (Exactly n) = decimal_value n
low (AtLeast n) = decimal_value n
low (AtMost m) = 0
low (FromTo n m) = decimal_value n

-- the greatest number of turns, if there is one
unfoldable pub high : Postfix → Option ℕ
high ZeroOrMore = None
high OneOrMore = None
high Optional = Some 1
high (Exactly n) = Some (decimal_value n)
high (AtLeast n) = None
high (AtMost m) = Some (decimal_value m)
high (FromTo n m) = Some (decimal_value m)

-- the greatest count that is allowed
abbrev pub most_count : ℕ
most_count = 1000

-- a count above it, or one that is below the count before it
abbrev pub is_bad_count : Postfix → Bool
is_bad_count ZeroOrMore = false
is_bad_count OneOrMore = false
is_bad_count Optional = false
is_bad_count (Exactly n) = nat_lt most_count (decimal_value n)
is_bad_count (AtLeast n) = nat_lt most_count (decimal_value n)
is_bad_count (AtMost m) = nat_lt most_count (decimal_value m)
is_bad_count (FromTo n m) = nat_lt most_count (decimal_value n)
    || nat_lt most_count (decimal_value m) || nat_lt (decimal_value m) (decimal_value n)

-- ---- spelling

-- the signs of an alphabet, and how it writes digits
pub record Signs (A : Type 0) : Type 0 where
  pub star : A
  pub plus : A
  pub question : A
  pub open_brace : A
  pub comma : A
  pub close_brace : A
  pub number : List ℕ → List A

abbrev pub postfix_spelling : {A : Type 0} → Signs A → Postfix → List A
postfix_spelling s ZeroOrMore = s.star ∷ []
postfix_spelling s OneOrMore = s.plus ∷ []
postfix_spelling s Optional = s.question ∷ []
postfix_spelling s (Exactly n) = s.open_brace ∷ s.number n ++ s.close_brace ∷ []
postfix_spelling s (AtLeast n) = s.open_brace ∷ s.number n ++ s.comma ∷ s.close_brace ∷ []
postfix_spelling s (AtMost m) = s.open_brace ∷ s.comma ∷ s.number m ++ s.close_brace ∷ []
postfix_spelling s (FromTo n m) =
    s.open_brace ∷ s.number n ++ (s.comma ∷ s.number m ++ s.close_brace ∷ [])

-- what makes a postfix lazy: one more sign
abbrev pub lazy_sign : {A : Type 0} → Signs A → Bool → List A
lazy_sign s false = []
lazy_sign s true = s.question ∷ []

-- ---- a count, after its brace

pub data Counting : Type 0 where
  Opened : Counting
  Low : (n : List ℕ) → Counting
  LowComma : (n : List ℕ) → Counting
  LowHigh : (n m : List ℕ) → Counting
  OnlyComma : Counting
  High : (m : List ℕ) → Counting

abbrev pub count_spelling : {A : Type 0} → Signs A → Counting → List A
count_spelling s Opened = []
count_spelling s (Low n) = s.number n
count_spelling s (LowComma n) = s.number n ++ s.comma ∷ []
count_spelling s (LowHigh n m) = s.number n ++ s.comma ∷ s.number m
count_spelling s OnlyComma = s.comma ∷ []
count_spelling s (High m) = s.comma ∷ s.number m

-- what one letter more is to a count
pub data CountSign : Type 0 where
  Digits : (digits : List ℕ) → CountSign
  CommaSign : CountSign
  CloseSign : CountSign
  NoSign : CountSign

pub data CountStep : Type 0 where
  CountOn : Counting → CountStep
  CountRead : Postfix → CountStep
  CountWrong : CountStep

-- one letter more. In some alphabets a number comes by and by, and digits go on with it; in others
-- it comes whole
abbrev pub count_by : (by_digits : Bool) → Counting → CountSign → CountStep
count_by digits Opened (Digits d) = CountOn (Low d)
count_by digits Opened CommaSign = CountOn OnlyComma
count_by true (Low n) (Digits d) = CountOn (Low (n ++ d))
count_by digits (Low n) CommaSign = CountOn (LowComma n)
count_by digits (Low n) CloseSign = CountRead (Exactly n)
count_by digits (LowComma n) (Digits d) = CountOn (LowHigh n d)
count_by digits (LowComma n) CloseSign = CountRead (AtLeast n)
count_by true (LowHigh n m) (Digits d) = CountOn (LowHigh n (m ++ d))
count_by digits (LowHigh n m) CloseSign = CountRead (FromTo n m)
count_by digits OnlyComma (Digits d) = CountOn (High d)
count_by true (High m) (Digits d) = CountOn (High (m ++ d))
count_by digits (High m) CloseSign = CountRead (AtMost m)
count_by _ _ _ = CountWrong
