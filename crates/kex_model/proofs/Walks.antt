-- Walks: a code determines its steps.
use Rattle.std.proofs.Common.{◌≡◌, List, [], ◌∷◌, ◌++◌, refl, sym, ap, ◌∙◌, subst, append_assoc, append-nil}
use Rattle.std.proofs.lemmas.List.{append_cancel_left}
use Rattle.kex_code.specs.declared.symbol.Symbol.{Symbol}
use Rattle.kex_code.specs.declared.symbol.Symbol.TheVariants.{L, R, Byte}
use Rattle.kex_code.specs.Codes.{bytes_of}
use Rattle.kex_model.specs.Moves.{Move, Step, Allows, reads, goes_left, goes_right, goes_forced, goes, target_of, symbols_of, code_of, Walk, Waits, IsWaiting}

pub bytes_of-append : (c d : List Symbol) → bytes_of (c ++ d) ≡ bytes_of c ++ bytes_of d
bytes_of-append [] d = refl
bytes_of-append (L ∷ c) d = bytes_of-append c d
bytes_of-append (R ∷ c) d = bytes_of-append c d
bytes_of-append (Byte b ∷ c) d = ap (λ bs. b ∷ bs) (bytes_of-append c d)

pub nothing_after : {A : Type 0} (xs ys : List A) → xs ++ ys ≡ xs → ys ≡ []
nothing_after xs ys e = append_cancel_left xs ys [] (e ∙ sym (append-nil xs))

-- a step by its move and the code that it begins
pub step_from_code : {S : Type 0} {m : Move S} {j k : Step S} (x y : List Symbol) → Allows m j → Allows m k → symbols_of j ++ x ≡ symbols_of k ++ y → j ≡ k
step_from_code x y (reads h) (reads h') e = cc
step_from_code x y goes_left goes_left e = refl
step_from_code x y goes_left goes_right e = cc
step_from_code x y goes_right goes_left e = cc
step_from_code x y goes_right goes_right e = refl
step_from_code x y goes_forced goes_forced e = refl
step_from_code x y goes goes e = refl

-- from a place that waits only a byte leads on
pub waits_for_byte : {S : Type 0} {m : Move S} {k : Step S} (x : List Symbol) → IsWaiting m → Allows m k → bytes_of (symbols_of k ++ x) ≡ [] → ⊥
waits_for_byte x h (reads t) e = cc
waits_for_byte x h goes_left e = h
waits_for_byte x h goes_right e = h
waits_for_byte x h goes_forced e = h
waits_for_byte x h goes e = h

module _ {S : Type 0} (moves : S → Move S) where
  -- two walks to waiting places whose codes differ at most by a tail without a byte are one
  pub one_walk : (js ks : List (Step S)) (s p q : S) (x : List Symbol) → Walk moves s js p → Walk moves s ks q → Waits moves p → Waits moves q → code_of ks ≡ code_of js ++ x → bytes_of x ≡ [] → js ≡ ks
  one_walk [] [] s p q x wj wk hp hq e none = refl
  one_walk [] (k ∷ ks) s p q x wj wk hp hq e none = absurd (waits_for_byte (code_of ks) (subst (λ s. Waits moves s) (sym wj) hp) wk.0 (rw e none))
  one_walk (j ∷ js) [] s p q x wj wk hp hq e none = absurd (waits_for_byte (code_of js ++ x) (subst (λ s. Waits moves s) (sym wk) hq) wj.0 (ap bytes_of (sym (e ∙ append_assoc (symbols_of j) (code_of js) x))))
  one_walk (j ∷ js) (k ∷ ks) s p q x wj wk hp hq e none =
      let shown : symbols_of j ++ (code_of js ++ x) ≡ symbols_of k ++ code_of ks = sym (e ∙ append_assoc (symbols_of j) (code_of js) x) in
      let same : j ≡ k = step_from_code (code_of js ++ x) (code_of ks) wj.0 wk.0 shown in
      let others : js ≡ ks = one_walk js ks (target_of j) p q x wj.1 (rw same wk.1) hp hq (append_cancel_left (symbols_of k) _ _ (sym (rw same at shown))) none in
      cc
