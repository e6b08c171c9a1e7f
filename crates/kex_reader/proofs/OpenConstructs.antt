-- How many constructs are open.
use Rattle.std.proofs.Common.{◌≡◌, ℕ, suc, ◌≤◌, Bool, true, false, List, [], ◌∷◌, ◌++◌, length, if◌then◌else◌, ap, ◌∙◌, arith}
use Rattle.std.specs.Prelude.{reverse}
use Rattle.std.proofs.lemmas.List.{reverse-append, length-reverse}
use Rattle.kex_reader.specs.declared.stack.TermConstruct.{TermConstruct}
use Rattle.kex_reader.specs.Stands.{is_opening, open_constructs}

pub opened : (f : TermConstruct) (fs : List TermConstruct) → is_opening f ≡ true → open_constructs (f ∷ fs) ≡ suc (open_constructs fs)
unfolding open_constructs
opened f fs e = ap (λ (b : Bool). if b then suc (open_constructs fs) else open_constructs fs) e

pub not_opened : (f : TermConstruct) (fs : List TermConstruct) → is_opening f ≡ false → open_constructs (f ∷ fs) ≡ open_constructs fs
unfolding open_constructs
not_opened f fs e = ap (λ (b : Bool). if b then suc (open_constructs fs) else open_constructs fs) e

up : (b : Bool) (n : ℕ) → (if b then suc n else n) ≤ suc n
up true n = omega arith
up false n = omega arith

pub open_long : (fs : List TermConstruct) → open_constructs fs ≤ length fs
unfolding open_constructs
open_long [] = omega arith
open_long (f ∷ fs) = omega (arith, up (is_opening f) (open_constructs fs), open_long fs)

pub open_reversed : (fs : List TermConstruct) → open_constructs (reverse fs) ≤ length fs
open_reversed fs = omega (arith, open_long (reverse fs), length-reverse fs)

pub pushed : (xs ys : List TermConstruct) (f : TermConstruct) → ys ≡ xs ++ f ∷ [] → reverse ys ≡ f ∷ reverse xs
pushed xs ys f e = ap reverse e ∙ reverse-append xs (f ∷ [])
