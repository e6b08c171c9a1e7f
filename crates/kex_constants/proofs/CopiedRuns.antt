-- A table whose states are copies passes on the same.
use Rattle.std.proofs.Common.{◌≡◌, ℕ, zero, suc, ◌≤◌, List, [], ◌∷◌, ◌++◌, Option, Some, None, ⊎_elim, length, get_or, map, refl, sym, ap, ap₂, subst, ◌∙◌, arith}
use Rattle.std.specs.Prelude.{slice_get}
use Rattle.std.proofs.lemmas.Bool.{cases_lt}
use Rattle.std.proofs.lemmas.List.{get_or_past}
use Rattle.kex_sst.specs.declared.parts.Part.{Part}
use Rattle.kex_sst.specs.declared.table.Transition.{Transition}
use Rattle.kex_sst.specs.Parts.{Change, parts_code}
use Rattle.kex_sst.specs.Tables.{Row, Transducer, transition_if, transition_of, transition_on}
use Rattle.kex_sst.specs.Passes.{Pass, ended_by, first_pass, next_of, next_pass, pass_after, passes, passes_if, transition_at, way_of}
use Rattle.kex_constants.specs.Alike.{PassesSpeakAlike, SpeakAlike}
use Rattle.kex_constants.specs.Copies.{GoAlike, GoesAlike, IsCopy, IsCopyOf, HasCopiedStates}

transition_there : (go : List (Option Transition)) (k : ℕ) → transition_if (slice_get go k) ≡ get_or go k None
transition_there [] k = refl
transition_there (r ∷ go) zero = refl
transition_there (r ∷ go) (suc k) = transition_there go k

alike_at : (of : List ℕ) (go copied : List (Option Transition)) → GoAlike of go copied → (k : ℕ) → GoesAlike of (transition_if (slice_get go k)) (transition_if (slice_get copied k))
alike_at of go copied a k =
    subst (λ z. GoesAlike of z (transition_if (slice_get copied k))) (sym (transition_there go k))
    (subst (λ z. GoesAlike of (get_or go k None) z) (sym (transition_there copied k)) (⊎_elim (λ lt. a.each k lt) past (cases_lt k (length go))))
  where
    past : length go ≤ k → GoesAlike of (get_or go k None) (get_or copied k None)
    past le =
        subst (λ z. GoesAlike of z (get_or copied k None)) (sym (get_or_past go k None le))
        (subst (λ z. GoesAlike of None z) (sym (get_or_past copied k None (omega (arith, le, a.long)))) tt)

module _ (t u : Transducer) (s : HasCopiedStates t u) where
  -- the same place, at a copy of its state
  abbrev Like : Option Pass → Option Pass → Type 0
  Like None None = Unit {0}
  Like None (Some q) = ⊥
  Like (Some p) None = ⊥
  Like (Some p) (Some q) = IsCopyOf s.of q.state p.state × (q.code ≡ p.code) × (q.registers ≡ p.registers)

  after_like : (c d : Change) (b : ℕ) (p q : Pass) (target copy : ℕ) → d ≡ c → IsCopyOf s.of copy target → q.code ≡ p.code → q.registers ≡ p.registers → Like (Some (pass_after c b p target)) (Some (pass_after d b q copy))
  after_like c d b p q target copy same of code regs = (
    of,
    ap₂ (λ y z. y ++ z) code (ap₂ (λ e r. parts_code r b e.out) same regs),
    ap₂ (λ e r. map (λ xs. parts_code r b xs) e.regs) same regs,
  )

  next_like : (b : ℕ) (p q : Pass) (r r' : Option Transition) → GoesAlike s.of r r' → Like (Some p) (Some q) → Like (next_pass r b p) (next_pass r' b q)
  next_like b p q None None g l = tt
  next_like b p q None (Some x) g l = absurd g
  next_like b p q (Some r) None g l = absurd g
  next_like b p q (Some r) (Some x) g l = after_like r.update x.update b p q r.target x.target g.0 g.1 l.1 l.2

  copy_at : (p q : ℕ) → IsCopyOf s.of q p → (row : Row) × (copy : Row) × (slice_get t.states p ≡ Some row) × (slice_get u.states q ≡ Some copy) × IsCopy s.of row copy
  copy_at p q (lt, e) = let h = s.copies.each q lt in (h.row, h.copy, subst (λ z. slice_get t.states z ≡ Some h.row) e h.at, h.copied, h.is)

  goes_alike : (p q b : ℕ) → IsCopyOf s.of q p → GoesAlike s.of (next_of t p b) (next_of u q b)
  goes_alike p q b of =
      subst (λ z. GoesAlike s.of (next_of t p b) (transition_at u q (slice_get z b))) (sym s.classes) (by (slice_get t.classes b))
    where
      by : (k : Option ℕ) → GoesAlike s.of (transition_at t p k) (transition_at u q k)
      by None = tt
      by (Some k) =
          let (row, copy, at, copied, is) = copy_at p q of in
          subst (λ z. GoesAlike s.of (transition_on z k) (transition_of u q k)) (sym at)
          (subst (λ z. GoesAlike s.of (transition_on (Some row) k) (transition_on z k)) (sym copied) (alike_at s.of row.go copy.go is.goes k))

  like_from : (w : List ℕ) (p q : Option Pass) → Like p q → Like (passes_if t p w) (passes_if u q w)
  like_from [] None None l = tt
  like_from (b ∷ w) None None l = tt
  like_from [] (Some p) (Some q) l = l
  like_from (b ∷ w) (Some p) (Some q) l = like_from w (next_pass (next_of t p.state b) b p) (next_pass (next_of u q.state b) b q) (next_like b p q (next_of t p.state b) (next_of u q.state b) (goes_alike p.state q.state b l.0) l)
  like_from w None (Some q) l = absurd l
  like_from w (Some p) None l = absurd l

  ended_alike : (way : Option (List Part)) (p q : Pass) → q.code ≡ p.code → q.registers ≡ p.registers → ended_by way q ≡ ended_by way p
  ended_alike None p q code regs = refl
  ended_alike (Some way) p q code regs = ap Some (ap₂ (λ y r. y ++ parts_code r 0 way) code regs)

  ends_alike : (p q : Option Pass) → Like p q → PassesSpeakAlike t u p q
  ends_alike None None l = tt
  ends_alike None (Some q) l = absurd l
  ends_alike (Some p) None l = absurd l
  ends_alike (Some p) (Some q) l =
      let (row, copy, at, copied, is) = copy_at p.state q.state l.0 in (
        l.1,
        ap (λ z. ended_by (way_of z) q) copied ∙ ap (λ z. ended_by z q) is.accepting ∙ ended_alike row.accepting p q l.1 l.2 ∙ sym (ap (λ z. ended_by (way_of z) p) at),
      )

  pub split_alike : SpeakAlike t u
  split_alike w = ends_alike (passes t w) (passes u w) (like_from w (Some (first_pass t.initial)) (Some (first_pass u.initial)) (after_like t.initial u.initial 0 (record { state = 0; code = []; registers = [] }) (record { state = 0; code = []; registers = [] }) 0 0 s.initial s.first refl refl))
