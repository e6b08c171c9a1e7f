-- What is written only grows.
use Rattle.std.proofs.Common.{ℕ, List, [], ◌∷◌, ◌++◌, refl, sym, ap, ◌∙◌, append-nil, append_assoc}
use Rattle.kex_code.specs.declared.symbol.Symbol.{Symbol}
use Rattle.kex_code.specs.Codes.{Begins}
use Rattle.kex_code.specs.Registers.{Registers}
use Rattle.kex_model.specs.Moves.{Effect, nothing, append, open_buffer, drop_buffer, into, write, set_to, add_to, Step, took, chose, went}
use Rattle.kex_model.specs.Acting.{ActingState, after_append, after_drop, after_into, after_effect, after_steps}

same_front : {A : Type 0} (xs : List A) → Begins xs xs
same_front xs = ([], sym (append-nil xs))

pub further_front : {A : Type 0} (xs ys zs : List A) → Begins ys xs → Begins zs ys → Begins zs xs
further_front xs ys zs p q = (p.0 ++ q.0, q.1 ∙ ap (λ z. z ++ q.0) p.1 ∙ append_assoc xs p.0 q.0)

appended_grows : (s out : List ℕ) (bs : List (List ℕ)) (regs : Registers) → Begins (after_append s out bs regs).out out
appended_grows s out [] regs = (s, refl)
appended_grows s out (b ∷ bs) regs = same_front out

done_grows : (e : Effect) (s : ActingState) → Begins (after_effect e s).out s.out
done_grows nothing s = same_front s.out
done_grows (append x) s = appended_grows x s.out s.buffers s.registers
done_grows open_buffer s = same_front s.out
done_grows drop_buffer s = by s.buffers
  where
    by : (bs : List (List ℕ)) → Begins (after_drop s.out bs s.registers).out s.out
    by [] = same_front s.out
    by (b ∷ bs) = same_front s.out
done_grows (into r) s = by s.buffers
  where
    by : (bs : List (List ℕ)) → Begins (after_into r s.out bs s.registers).out s.out
    by [] = same_front s.out
    by (b ∷ bs) = same_front s.out
done_grows (write r) s = appended_grows _ s.out s.buffers s.registers
done_grows (set_to r parts) s = same_front s.out
done_grows (add_to r parts) s = same_front s.out

acted_on : {S : Type 0} (ks : List (Step S)) (c : List Symbol) (s : ActingState) → Begins (after_steps ks c s).out s.out
acted_on [] c s = same_front s.out
acted_on (went e t ∷ ks) c s = further_front _ _ _ (done_grows e s) (acted_on ks c (after_effect e s))
acted_on (chose x t ∷ ks) [] s = same_front s.out
acted_on (chose x t ∷ ks) (y ∷ c) s = acted_on ks c s
acted_on (took b t ∷ ks) [] s = same_front s.out
acted_on (took b t ∷ ks) (y ∷ c) s = further_front _ _ _ (appended_grows (b ∷ []) s.out s.buffers s.registers) (acted_on ks c (after_append (b ∷ []) s.out s.buffers s.registers))

-- with more of its code a run writes more
pub acted_grows : {S : Type 0} (ks : List (Step S)) (c m : List Symbol) (s : ActingState) → Begins (after_steps ks (c ++ m) s).out (after_steps ks c s).out
acted_grows [] c m s = same_front s.out
acted_grows (went e t ∷ ks) c m s = acted_grows ks c m (after_effect e s)
acted_grows (chose x t ∷ ks) [] m s = acted_on (chose x t ∷ ks) m s
acted_grows (chose x t ∷ ks) (y ∷ c) m s = acted_grows ks c m s
acted_grows (took b t ∷ ks) [] m s = acted_on (took b t ∷ ks) m s
acted_grows (took b t ∷ ks) (y ∷ c) m s = acted_grows ks c m (after_append (b ∷ []) s.out s.buffers s.registers)
