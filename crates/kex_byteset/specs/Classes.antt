-- Bytes by classes: the list of their classes, by byte.
use Rattle.std.specs.Prelude.{◌≡◌, ℕ, suc, ◌+◌, ◌<◌, Bool, List, [], ◌∷◌, All, ◌↔◌, length, get_or}
use Rattle.std.specs.Prelude.{max, Option, Some, None}
use Rattle.kex_byteset.specs.Sets.{has}

abbrev pub class_at : List ℕ → ℕ → ℕ
class_at classes b = get_or classes b 0

-- how many classes there are: one more than the greatest
abbrev pub class_count : List ℕ → ℕ
class_count [] = 0
class_count (c ∷ cs) = max (suc c) (class_count cs)

-- each of the sets has both bytes or neither
abbrev pub AreAlike : List (List Bool) → ℕ → ℕ → Type 0
AreAlike sets a b = All (λ s. has s a ≡ has s b) sets

-- each byte has a class, and all lower classes are those of earlier bytes: classes are numbered by
-- their least byte
pub record IsNumbered (classes : List ℕ) : Type 0 where
  pub long : length classes ≡ 256
  pub least : (b c : ℕ) → b < 256 → c < class_at classes b → (a : ℕ) × (a < b)
      × (class_at classes a ≡ c)

-- two bytes have one class exactly if each of the sets has both or neither, and classes are
-- numbered by their least byte
pub record IsRefinedBy (classes : List ℕ) (sets : List (List Bool)) : Type 0 where
  pub numbered : IsNumbered classes
  pub alike : (a b : ℕ) → a < 256 → b < 256 → (class_at classes a ≡ class_at classes b)
      ↔ AreAlike sets a b

-- the number that was given to an old class, if one was
abbrev pub new_number : List (Option ℕ) → ℕ → Option ℕ
new_number numbers class = get_or numbers class None

abbrev pub number_or : ℕ → Option ℕ → ℕ
number_or next None = next
number_or next (Some n) = n

-- how many numbers are then given
abbrev pub count_with : ℕ → Option ℕ → ℕ
count_with count None = count + 1
count_with count (Some n) = count
