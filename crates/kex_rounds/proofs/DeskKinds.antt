-- Desks side by side, and what they go by.
use Rattle.std.proofs.Common.{◌≡◌, ◌<◌, ℕ, zero, suc, List, [], ◌∷◌, ◌++◌, length, map, get_or, refl, sym, ap, ap₂, ◌∙◌, arith}
use Rattle.std.specs.Prelude.{Result, Ok, Err, OnErr}
use Rattle.std.proofs.lemmas.List.{map-append}
use Rattle.std.proofs.Math.ListN.{set}
use Rattle.kex_pipe.specs.declared.pipe.PipeFault.{PipeFault}

module _ {D K : Type 0} (f : D → K) where
  -- a single one has worked
  pub one-kind : (xs : List D) (x y : D) → length xs < 2 → 0 < length xs → x ≡ get_or xs 0 x → f y ≡ f x → map f (set xs 0 y) ≡ map f xs
  one-kind [] x y few some is same = absurd (omega arith)
  one-kind (a ∷ b ∷ xs) x y few some is same = absurd (omega arith)
  one-kind (a ∷ []) x y few some is same = ap (λ z. z ∷ []) (same ∙ ap f is)

  -- both halves have
  pub both-kinds : (xs ys us vs all : List D) → all ≡ xs ++ ys → map f us ≡ map f xs → map f vs ≡ map f ys → map f (us ++ vs) ≡ map f all
  both-kinds xs ys us vs all is front back =
      map-append f us vs ∙ ap₂ (λ x y. x ++ y) front back ∙ sym (map-append f xs ys) ∙ ap (λ z. map f z) (sym is)

  -- desks that go by the same are owned as those were
  pub kinds-own : (P : D → Type 0) → ((a b : D) → f b ≡ f a → P a → P b) → (xs ys : List D) → map f ys ≡ map f xs → ((k : ℕ) (d : D) → k < length xs → P (get_or xs k d)) → (k : ℕ) (d : D) → k < length ys → P (get_or ys k d)
  kinds-own P stays xs [] e all k d lt = absurd (omega arith)
  kinds-own P stays [] (y ∷ ys) e all k d lt = cc
  kinds-own P stays (x ∷ xs) (y ∷ ys) e all zero d lt =
      let same : f y ≡ f x = cc in
      stays x y same (all zero x (omega arith))
  kinds-own P stays (x ∷ xs) (y ∷ ys) e all (suc k) d lt =
      let rest : map f ys ≡ map f xs = cc in
      kinds-own P stays xs ys rest (λ n c less. all (suc n) c (omega arith)) k d (omega arith)

-- either fault
pub on-fault : {A P : Type 0} (r : Result A PipeFault) → (r ≡ Err PipeFault.Memory → P) → (r ≡ Err PipeFault.Spent → P) → OnErr r P
on-fault (Ok x) m s = tt
on-fault (Err PipeFault.Memory) m s = m refl
on-fault (Err PipeFault.Spent) m s = s refl
