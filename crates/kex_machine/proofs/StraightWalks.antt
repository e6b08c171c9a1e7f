-- Walks that come back nowhere, walks that part, and walks that are split after a text.
use Rattle.std.proofs.Common.{◌≡◌, ℕ, List, [], ◌∷◌, ◌++◌, ◌⊎◌, inl, inr, ⊎_elim, refl, sym, ap, subst, ◌∙◌, append-nil}
use Rattle.std.proofs.lemmas.Bool.{cases_eq}
use Rattle.kex_code.specs.declared.symbol.Symbol.{Symbol}
use Rattle.kex_code.specs.declared.symbol.Symbol.TheVariants.{L, R, Byte}
use Rattle.kex_code.specs.Codes.{bytes_of, Before}
use Rattle.kex_model.specs.Moves.{Move, Effect, Step, Side, to_left, to_right, took, chose, went, Allows, reads, goes_left, goes_right, goes_forced, goes, target_of, symbols_of, symbol_of, code_of, Walk, Waits, IsWaiting}
use Rattle.kex_model.specs.Survivors.{NoReturn}
use Rattle.kex_model.proofs.AgreedFronts.{byte_waits}
use Rattle.kex_model.proofs.LeftBehind.{Short, shorten}
use Rattle.kex_machine.proofs.CutWalks.{cut}

-- from a waiting place no step leads without a byte
pub no_side : {m : Move ℕ} {x : Side} {t : ℕ} → IsWaiting m → Allows m (chose x t) → ⊥
no_side h goes_left = h
no_side h goes_right = h
no_side h goes_forced = h

pub no_effect : {m : Move ℕ} {f : Effect} {t : ℕ} → IsWaiting m → Allows m (went f t) → ⊥
no_effect h goes = h

-- the front of a walk that comes back nowhere
pub once_front : (js ks : List (Step ℕ)) (seen : List ℕ) → NoReturn seen (js ++ ks) → NoReturn seen js
once_front [] ks seen n = tt
once_front (took b t ∷ js) ks seen n = once_front js ks (t ∷ []) n
once_front (chose x t ∷ js) ks seen n = (n.0, once_front js ks (t ∷ seen) n.1)
once_front (went e t ∷ js) ks seen n = (n.0, once_front js ks (t ∷ seen) n.1)

module _ (moves : ℕ → Move ℕ) where
  -- from a waiting place it doesn't matter what was entered
  pub once_from : (ks : List (Step ℕ)) (p e : ℕ) (seen many : List ℕ) → Waits moves p → Walk moves p ks e → NoReturn many ks → NoReturn seen ks
  once_from [] p e seen many h w n = tt
  once_from (took b t ∷ ks) p e seen many h w n = n
  once_from (chose x t ∷ ks) p e seen many h w n = absurd (no_side h w.0)
  once_from (went f t ∷ ks) p e seen many h w n = absurd (no_effect h w.0)

  -- a walk to a waiting place, and on from there
  pub once_onward : (js ks : List (Step ℕ)) (p e : ℕ) (seen many : List ℕ) → Waits moves p → Walk moves p ks e → NoReturn seen js → NoReturn many ks → NoReturn seen (js ++ ks)
  once_onward [] ks p e seen many h w n n' = once_from ks p e seen many h w n'
  once_onward (took b t ∷ js) ks p e seen many h w n n' = once_onward js ks p e (t ∷ []) many h w n n'
  once_onward (chose x t ∷ js) ks p e seen many h w n n' = (n.0, once_onward js ks p e (t ∷ seen) many h w n.1 n')
  once_onward (went f t ∷ js) ks p e seen many h w n n' = (n.0, once_onward js ks p e (t ∷ seen) many h w n.1 n')

  -- a walk that comes back nowhere without a byte
  abbrev pub Straight : ℕ → ℕ → List ℕ → Type 0
  Straight s t text = Short cases_eq moves s t text

  -- every walk can be made one, on the same text
  pub straight : (ks : List (Step ℕ)) (s t : ℕ) → Walk moves s ks t → Straight s t (bytes_of (code_of ks))
  straight ks s t w = shorten cases_eq moves ks s t w

  -- a walk to a waiting place, split after a front of its text at a waiting place
  pub record Split (s t : ℕ) (ks : List (Step ℕ)) (w x : List ℕ) : Type 0 where
    pub front : List (Step ℕ)
    pub at : ℕ
    pub back : List (Step ℕ)
    pub same : ks ≡ front ++ back
    pub first : Walk moves s front at
    pub waits : Waits moves at
    pub last : Walk moves at back t
    pub front_bytes : bytes_of (code_of front) ≡ w
    pub back_bytes : bytes_of (code_of back) ≡ x

  pub split : (ks : List (Step ℕ)) (s t : ℕ) (w x : List ℕ) → Walk moves s ks t → Waits moves t → bytes_of (code_of ks) ≡ w ++ x → Split s t ks w x
  split ks s t w [] walk h e = record { front = ks; at = t; back = []; same = sym (append-nil ks); first = walk; waits = h; last = refl; front_bytes = e ∙ append-nil w; back_bytes = refl }
  split ks s t w (b ∷ x) walk h e =
      let r = cut moves ks s t w b x walk e in
      record { front = r.front; at = r.at; back = took b r.to ∷ r.back; same = r.same; first = r.first; waits = byte_waits moves r.byte; last = (r.byte, r.last); front_bytes = r.front_bytes; back_bytes = ap (λ z. b ∷ z) r.back_bytes }

  behind : (s : Symbol) (c d : List Symbol) → Before c d → Before (s ∷ c) (s ∷ d)
  behind s c d b = (s ∷ b.0, b.1, b.2, ap (λ z. s ∷ z) b.3, ap (λ z. s ∷ z) b.4)

  abbrev pub Compared : List (Step ℕ) → List (Step ℕ) → Type 0
  Compared js ks = (js ≡ ks) ⊎ (Before (code_of js) (code_of ks) ⊎ Before (code_of ks) (code_of js))

  one_more : (k : Step ℕ) (js ks : List (Step ℕ)) → Compared js ks → Compared (k ∷ js) (k ∷ ks)
  one_more (took b t) js ks h = ⊎_elim (λ e. inl (ap (λ z. took b t ∷ z) e)) (λ r. inr (⊎_elim (λ b'. inl (behind (Byte b) (code_of js) (code_of ks) b')) (λ b'. inr (behind (Byte b) (code_of ks) (code_of js) b')) r)) h
  one_more (chose x t) js ks h = ⊎_elim (λ e. inl (ap (λ z. chose x t ∷ z) e)) (λ r. inr (⊎_elim (λ b'. inl (behind (symbol_of x) (code_of js) (code_of ks) b')) (λ b'. inr (behind (symbol_of x) (code_of ks) (code_of js) b')) r)) h
  one_more (went f t) js ks h = ⊎_elim (λ e. inl (ap (λ z. went f t ∷ z) e)) (λ r. inr r) h

  -- how two steps from one place go
  abbrev OneOrApart : Step ℕ → Step ℕ → Type 0
  OneOrApart j k = (j ≡ k) ⊎ ((symbols_of j ≡ L ∷ []) × (symbols_of k ≡ R ∷ []) ⊎ (symbols_of j ≡ R ∷ []) × (symbols_of k ≡ L ∷ []))

  first_steps : {m : Move ℕ} {j k : Step ℕ} (x y : List Symbol) → Allows m j → Allows m k → bytes_of (symbols_of j ++ x) ≡ bytes_of (symbols_of k ++ y) → OneOrApart j k
  first_steps x y (reads h) (reads h') e = inl (cc)
  first_steps x y goes_left goes_left e = inl refl
  first_steps x y goes_left goes_right e = inr (inl (refl, refl))
  first_steps x y goes_right goes_left e = inr (inr (refl, refl))
  first_steps x y goes_right goes_right e = inl refl
  first_steps x y goes_forced goes_forced e = inl refl
  first_steps x y goes goes e = inl refl

  none_from : {m : Move ℕ} {k : Step ℕ} (x : List Symbol) → IsWaiting m → Allows m k → bytes_of (symbols_of k ++ x) ≡ [] → ⊥
  none_from x h (reads t) e = cc
  none_from x h goes_left e = h
  none_from x h goes_right e = h
  none_from x h goes_forced e = h
  none_from x h goes e = h

  -- of two walks on one text to waiting places one comes before the other, or they are one
  pub compared : (js ks : List (Step ℕ)) (s p q : ℕ) → Walk moves s js p → Walk moves s ks q → Waits moves p → Waits moves q → bytes_of (code_of js) ≡ bytes_of (code_of ks) → Compared js ks
  compared [] [] s p q w w' h h' e = inl refl
  compared [] (k ∷ ks) s p q w w' h h' e = absurd (none_from (code_of ks) (subst (λ z. Waits moves z) (sym w) h) w'.0 (sym e))
  compared (j ∷ js) [] s p q w w' h h' e = absurd (none_from (code_of js) (subst (λ z. Waits moves z) (sym w') h') w.0 e)
  compared (j ∷ js) (k ∷ ks) s p q w w' h h' e =
      ⊎_elim
      (λ f.
      let w'' : Walk moves (target_of j) ks q = subst (λ z. Walk moves (target_of z) ks q) (sym f) w'.1 in
      let e' : bytes_of (code_of js) ≡ bytes_of (code_of ks) = rest j (code_of js) (code_of ks) (e ∙ ap (λ z. bytes_of (symbols_of z ++ code_of ks)) (sym f)) in
      subst (λ z. Compared (j ∷ js) (z ∷ ks)) f (one_more j js ks (compared js ks (target_of j) p q w.1 w'' h h' e')))
      (λ r.
      inr (⊎_elim
      (λ a. inl ([], code_of js, code_of ks, ap (λ z. z ++ code_of js) a.0, ap (λ z. z ++ code_of ks) a.1))
      (λ a. inr ([], code_of ks, code_of js, ap (λ z. z ++ code_of ks) a.1, ap (λ z. z ++ code_of js) a.0))
      r))
      (first_steps (code_of js) (code_of ks) w.0 w'.0 e)
    where
      rest : (k : Step ℕ) (x y : List Symbol) → bytes_of (symbols_of k ++ x) ≡ bytes_of (symbols_of k ++ y) → bytes_of x ≡ bytes_of y
      rest (took b t) x y e = cc
      rest (chose to_left t) x y e = e
      rest (chose to_right t) x y e = e
      rest (went f t) x y e = e
