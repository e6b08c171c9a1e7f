-- Transitions by class: one more, each of them, and those that are made from each.
use Rattle.std.proofs.Common.{◌≡◌, ℕ, zero, suc, ◌+◌, ◌<◌, ◌≤◌, take, List, [], ◌∷◌, ◌++◌, Option, None, length, get_or, map, refl, sym, ap, ap₂, subst, ◌∙◌, arith}
use Rattle.std.specs.List.{range_with_len}
use Rattle.std.proofs.lemmas.List.{ext_get_or, get_or-map, get_or-take}
use Rattle.std.proofs.lemmas.List.FromFn.{get_or-map-range_with_len, length-map-range_with_len, map-range_with_len_more}
use Rattle.kex_sst.specs.declared.table.Transition.{Transition}
use Rattle.kex_sst.specs.Fans.{IsFan, fan, fan_at}

range_same : {X : Type 0} (f g : ℕ → X) (a n : ℕ) → ((k : ℕ) → a ≤ k → k < a + n → f k ≡ g k) → map f (range_with_len a n) ≡ map g (range_with_len a n)
range_same f g a zero h = refl
range_same f g a (suc n) h = ap₂ (λ x xs. x ∷ xs) (h a (omega arith) (omega arith)) (range_same f g (a + 1) n (λ k le lt. h k (omega (arith, le)) (omega (arith, lt))))

map_range : {X Y : Type 0} (f : X → Y) (g : ℕ → X) (a n : ℕ) → map f (map g (range_with_len a n)) ≡ map (λ k. f (g k)) (range_with_len a n)
map_range f g a zero = refl
map_range f g a (suc n) = ap (λ xs. f (g a) ∷ xs) (map_range f g (a + 1) n)

pub fan_long : (n : ℕ) (numbers : List ℕ) (different : List (Option Transition)) → length (fan n numbers different) ≡ n
fan_long n numbers different = length-map-range_with_len (λ class. fan_at numbers different class) 0 n

pub fan_get : (n : ℕ) (numbers : List ℕ) (different : List (Option Transition)) (class : ℕ) → class < n → get_or (fan n numbers different) class None ≡ fan_at numbers different class
fan_get n numbers different class lt = get_or-map-range_with_len (λ class. fan_at numbers different class) 0 n class class None lt (omega arith)

-- one class more
pub fan_more : (n : ℕ) (numbers numbers' : List ℕ) (different different' : List (Option Transition)) (r : Option Transition) → ((class : ℕ) → class < n → fan_at numbers' different' class ≡ fan_at numbers different class) → fan_at numbers' different' n ≡ r → fan (n + 1) numbers' different' ≡ fan n numbers different ++ r ∷ []
fan_more n numbers numbers' different different' r same last =
    map-range_with_len_more (λ class. fan_at numbers' different' class) 0 n n (omega arith)
    ∙ ap₂ (λ xs x. xs ++ x ∷ []) (range_same (λ class. fan_at numbers' different' class) (λ class. fan_at numbers different class) 0 n (λ k le lt. same k (omega (arith, lt)))) last

-- what is made from each transition
pub fan_map : {n : ℕ} {numbers : List ℕ} {different : List (Option Transition)} (f : Option Transition → Option Transition) → IsFan n numbers different → map f (fan n numbers different) ≡ fan n numbers (map f different)
fan_map {n} {numbers} {different} f h =
    map_range f (λ class. fan_at numbers different class) 0 n
    ∙ range_same (λ class. f (fan_at numbers different class)) (λ class. fan_at numbers (map f different) class) 0 n
    (λ k le lt. sym (get_or-map f different (get_or numbers k 0) None None (h.each k (omega (arith, lt)))))

-- what is so of each that is different is so on each class
pub fan_each : (P : Option Transition → Type 0) {n : ℕ} {numbers : List ℕ} {different : List (Option Transition)} → IsFan n numbers different → ((k : ℕ) → k < length different → P (get_or different k None)) → (class : ℕ) → class < n → P (get_or (fan n numbers different) class None)
fan_each P {n} {numbers} {different} h all class lt = subst P (sym (fan_get n numbers different class lt)) (all (get_or numbers class 0) (h.each class lt))

-- where each class has its own number, the transitions are those that are different
pub fan_own : (n : ℕ) (numbers : List ℕ) (different : List (Option Transition)) → n ≡ length different → ((k : ℕ) → k < n → get_or numbers k 0 ≡ k) → fan n numbers different ≡ different
fan_own n numbers different long own =
    ext_get_or None (fan n numbers different) different (fan_long n numbers different ∙ long)
    (λ k lt.
    let less : k < n = omega (arith, lt, fan_long n numbers different) in
    fan_get n numbers different k less ∙ ap (λ z. get_or different z None) (own k less))

own_number : (k : ℕ) → k < 8 → get_or (0 ∷ 1 ∷ 2 ∷ 3 ∷ 4 ∷ 5 ∷ 6 ∷ 7 ∷ []) k 0 ≡ k
own_number zero lt = refl
own_number (suc zero) lt = refl
own_number (suc (suc zero)) lt = refl
own_number (suc (suc (suc zero))) lt = refl
own_number (suc (suc (suc (suc zero)))) lt = refl
own_number (suc (suc (suc (suc (suc zero))))) lt = refl
own_number (suc (suc (suc (suc (suc (suc zero)))))) lt = refl
own_number (suc (suc (suc (suc (suc (suc (suc zero))))))) lt = refl
own_number (suc (suc (suc (suc (suc (suc (suc (suc k)))))))) lt = omega (arith, lt)

-- the numbers of few classes
pub own_numbers : (n k : ℕ) → n ≤ 8 → k < n → get_or (take n (0 ∷ 1 ∷ 2 ∷ 3 ∷ 4 ∷ 5 ∷ 6 ∷ 7 ∷ [])) k 0 ≡ k
own_numbers n k few lt = get_or-take n (0 ∷ 1 ∷ 2 ∷ 3 ∷ 4 ∷ 5 ∷ 6 ∷ 7 ∷ []) k 0 lt ∙ own_number k (omega (arith, few, lt))
