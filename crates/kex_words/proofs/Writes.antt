-- Writes one after another.
use Rattle.std.proofs.Common.{◌≡◌, ◌++◌, ℕ, true, false, List, ◌∙◌, sym, subst, arith}
use Rattle.std.specs.Prelude.{Option, Result, Ok, Err, IsErr, OnErr}
use Rattle.kex_ports.proofs.Known.{appends-then, front-then, front-more}
use Rattle.kex_words.specs.Gains.{GainsFront, GainsWhole, TellsGain, change}

module _ {T E : Type 0} where
  pub on-err : (r : Result T E) (P : Type 0) → P → OnErr r P
  on-err (Ok done) P p = tt
  on-err (Err failed) P p = p

-- First x whole, and then y whole.
pub whole-then : (a b c : Option (List ℕ)) (m n k : ℕ) (x y : List ℕ)
    → GainsWhole (change a b m n) x → GainsWhole (change b c n k) y → GainsWhole (change a c m k) (x ++ y)
whole-then a b c m n k x y g t = (appends-then a b c x y g.0 t.0, t.1 ∙ g.1)

-- First x whole, and then a front of y.
front-after : (a b c : Option (List ℕ)) (m n k : ℕ) (x y : List ℕ)
    → GainsWhole (change a b m n) x → GainsFront (change b c n k) y → GainsFront (change a c m k) (x ++ y)
front-after a b c m n k x y g t =
    (front-then a b c x y g.0 t.0, (omega (arith, t.1.0, g.1), omega (arith, t.1.1, g.1)))

module _ {E : Type 0} where
  -- A front of y, then, is a front of x, y and z.
  pub fails-after : (a b c : Option (List ℕ)) (m n k : ℕ) (x y z all : List ℕ) (r : Result (Unit {0}) E) → IsErr r
      → all ≡ x ++ (y ++ z) → GainsWhole (change a b m n) x → GainsFront (change b c n k) y → TellsGain (change a c m k) all r
  fails-after a b c m n k x y z all (Ok done) is e g t = let bad : false ≡ true = is in cc
  fails-after a b c m n k x y z all (Err failed) is e g t =
      let f = front-after a b c m n k x (y ++ z) g (front-more b c y z t.0, t.1) in
      let P : List ℕ → Type 0 = λ s. GainsFront (change a c m k) s in
      subst P (sym e) f
