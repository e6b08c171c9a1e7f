-- Walks of a machine, and what their steps do.
use Rattle.std.proofs.Common.{◌≡◌, ℕ, List, [], ◌∷◌, ◌++◌, refl, sym, ap, ap₂, ◌∙◌, subst, append_assoc}
use Rattle.std.proofs.lemmas.List.{append_cancel_left}
use Rattle.kex_code.specs.declared.symbol.Symbol.{Symbol}
use Rattle.kex_code.specs.declared.symbol.Symbol.TheVariants.{L, R, Byte}
use Rattle.kex_code.specs.Registers.{Registers, content_of}
use Rattle.kex_model.specs.Moves.{Move, accept, Allows, reads, goes_left, goes_right, goes_forced, goes, to_left, to_right, code_of, symbols_of, target_of, Walk, Effect, nothing, append, open_buffer, drop_buffer, into, write, set_to, add_to, Step, took, chose, went}
use Rattle.kex_model.specs.Acting.{ActingState, after_append, after_drop, after_into, after_effect, after_steps}
use Rattle.kex_model.proofs.Walks.{step_from_code}
use Rattle.kex_model.proofs.Derivations.{from_accept}
use Rattle.kex_action.specs.Holdings.{Rests, step_by}

-- one walk, and then another
pub after_steps-append : {S : Type 0} (js ks : List (Step S)) (d : List Symbol) (s : ActingState) → after_steps (js ++ ks) (code_of js ++ d) s ≡ after_steps ks d (after_steps js (code_of js) s)
after_steps-append [] ks d s = refl
after_steps-append (went e t ∷ js) ks d s = after_steps-append js ks d (after_effect e s)
after_steps-append (chose x t ∷ js) ks d s = after_steps-append js ks d s
after_steps-append (took b t ∷ js) ks d s = after_steps-append js ks d (after_append (b ∷ []) s.out s.buffers s.registers)

-- from a place that rests nothing is done without a symbol
resting : {S : Type 0} {m : Move S} {k : Step S} (ks : List (Step S)) (s : ActingState) → Rests m → Allows m k → after_steps (k ∷ ks) [] s ≡ s
resting ks s h (reads t) = refl
resting ks s h goes_left = refl
resting ks s h goes_right = refl
resting ks s h goes_forced = refl
resting ks s h goes = absurd h

pub nothing_done : {S : Type 0} (f : S → Move S) (ks : List (Step S)) (t e : S) (s : ActingState) → Rests (f t) → Walk f t ks e → after_steps ks [] s ≡ s
nothing_done f [] t e s h w = refl
nothing_done f (k ∷ ks) t e s h w = resting ks s h w.0

-- the step that gives a symbol
pub first_step : {m : Move ℕ} {k : Step ℕ} (x z : List Symbol) (y : Symbol) → Rests m → Allows m k → symbols_of k ++ x ≡ y ∷ z → (s : ℕ) × (k ≡ step_by y s)
first_step x z y h (reads {b = b} {s = s} t) e = let f : Byte b ≡ y = cc in (s, ap (λ q. step_by q s) f)
first_step x z y h (goes_left {l = l}) e = let f : L ≡ y = cc in (l, ap (λ q. step_by q l) f)
first_step x z y h (goes_right {r = r}) e = let f : R ≡ y = cc in (r, ap (λ q. step_by q r) f)
first_step x z y h (goes_forced {x = to_left} {s = s}) e = let f : L ≡ y = cc in (s, ap (λ q. step_by q s) f)
first_step x z y h (goes_forced {x = to_right} {s = s}) e = let f : R ≡ y = cc in (s, ap (λ q. step_by q s) f)
first_step x z y h goes e = absurd h

-- with more bytes in front of the output
abbrev pub ahead : List ℕ → ActingState → ActingState
ahead x s = record { out = x ++ s.out; buffers = s.buffers; registers = s.registers }

after_append-ahead : (x s out : List ℕ) (bs : List (List ℕ)) (regs : Registers) → after_append s (x ++ out) bs regs ≡ ahead x (after_append s out bs regs)
after_append-ahead x s out [] regs = ap (λ q. record { out = q; buffers = []; registers = regs }) (append_assoc x out s)
after_append-ahead x s out (b ∷ bs) regs = refl

after_drop-ahead : (x out : List ℕ) (bs : List (List ℕ)) (regs : Registers) → after_drop (x ++ out) bs regs ≡ ahead x (after_drop out bs regs)
after_drop-ahead x out [] regs = refl
after_drop-ahead x out (b ∷ bs) regs = refl

after_into-ahead : (r : ℕ) (x out : List ℕ) (bs : List (List ℕ)) (regs : Registers) → after_into r (x ++ out) bs regs ≡ ahead x (after_into r out bs regs)
after_into-ahead r x out [] regs = refl
after_into-ahead r x out (b ∷ bs) regs = refl

after_effect-ahead : (e : Effect) (x : List ℕ) (s : ActingState) → after_effect e (ahead x s) ≡ ahead x (after_effect e s)
after_effect-ahead nothing x s = refl
after_effect-ahead (append bytes) x s = after_append-ahead x bytes s.out s.buffers s.registers
after_effect-ahead open_buffer x s = refl
after_effect-ahead drop_buffer x s = after_drop-ahead x s.out s.buffers s.registers
after_effect-ahead (into r) x s = after_into-ahead r x s.out s.buffers s.registers
after_effect-ahead (write r) x s = after_append-ahead x (content_of s.registers r) s.out s.buffers s.registers
after_effect-ahead (set_to r parts) x s = refl
after_effect-ahead (add_to r parts) x s = refl

-- what the output had before stays in front of it
pub after_steps-ahead : {S : Type 0} (ks : List (Step S)) (c : List Symbol) (x : List ℕ) (s : ActingState) → after_steps ks c (ahead x s) ≡ ahead x (after_steps ks c s)
after_steps-ahead [] c x s = refl
after_steps-ahead (went e t ∷ ks) c x s = ap (λ z. after_steps ks c z) (after_effect-ahead e x s) ∙ after_steps-ahead ks c x (after_effect e s)
after_steps-ahead (chose y t ∷ ks) [] x s = refl
after_steps-ahead (chose y t ∷ ks) (z ∷ c) x s = after_steps-ahead ks c x s
after_steps-ahead (took b t ∷ ks) [] x s = refl
after_steps-ahead (took b t ∷ ks) (z ∷ c) x s = ap (λ q. after_steps ks c q) (after_append-ahead x (b ∷ []) s.out s.buffers s.registers) ∙ after_steps-ahead ks c x (after_append (b ∷ []) s.out s.buffers s.registers)

pub parts_none : {A : Type 0} (xs ys : List A) → xs ++ ys ≡ [] → (xs ≡ []) × (ys ≡ [])
parts_none [] ys e = (refl, e)
parts_none (x ∷ xs) ys e = cc

-- a walk to the end whose code begins with that of another goes on from where that one came to
pub record GoesOn {S : Type 0} (f : S → Move S) (js ks : List (Step S)) (t e : S) (x : List Symbol) : Type 0 where
  pub rest : List (Step S)
  pub same : ks ≡ js ++ rest
  pub walk : Walk f t rest e
  pub codes : code_of rest ≡ x

pub goes_on : {S : Type 0} (f : S → Move S) (js ks : List (Step S)) (s t e : S) (x : List Symbol) → Walk f s js t → Walk f s ks e → f e ≡ accept → code_of ks ≡ code_of js ++ x → GoesOn f js ks t e x
goes_on f [] ks s t e x wj wk ends c = record { rest = ks; same = refl; walk = subst (λ q. Walk f q ks e) wj wk; codes = c }
goes_on f (j ∷ js) [] s t e x wj wk ends c = absurd (from_accept (subst (λ m. Allows m j) (ap f wk ∙ ends) wj.0))
goes_on f (j ∷ js) (k ∷ ks) s t e x wj wk ends c =
    let shown : symbols_of j ++ (code_of js ++ x) ≡ symbols_of k ++ code_of ks = sym (c ∙ append_assoc (symbols_of j) (code_of js) x) in
    let same : j ≡ k = step_from_code (code_of js ++ x) (code_of ks) wj.0 wk.0 shown in
    let rest : code_of ks ≡ code_of js ++ x = append_cancel_left (symbols_of k) _ _ (sym (rw same at shown)) in
    let on = goes_on f js ks (target_of j) t e x wj.1 (subst (λ q. Walk f (target_of q) ks e) (sym same) wk.1) ends rest in
    record { rest = on.rest; same = ap₂ (λ p q. p ∷ q) (sym same) on.same; walk = on.walk; codes = on.codes }
