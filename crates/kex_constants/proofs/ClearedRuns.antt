-- The table without constants goes the same way and says the same.
use Rattle.std.proofs.Common.{◌≡◌, ℕ, zero, suc, ◌+◌, List, [], ◌∷◌, ◌++◌, Option, Some, None, map, get_or, refl, sym, ap, ap₂, subst, ◌∙◌, append-nil, arith}
use Rattle.std.specs.Prelude.{slice_get}
use Rattle.kex_code.specs.declared.symbol.Symbol.{Symbol}
use Rattle.kex_machine.specs.declared.Bit.{Bit}
use Rattle.kex_sst.specs.declared.parts.Part.{Part}
use Rattle.kex_sst.specs.declared.parts.Part.TheVariants.{Put, Old, Input}
use Rattle.kex_sst.specs.declared.table.Transition.{Transition}
use Rattle.kex_sst.specs.Parts.{value, parts_code, Change}
use Rattle.kex_sst.specs.Tables.{Row, Transducer, transition_if, transition_on}
use Rattle.kex_sst.specs.Passes.{Pass, pass_after, first_pass, transition_at, next_of, next_pass, passes_if, passes, way_of, ended_by}
use Rattle.kex_constants.specs.Known.{Constants, Hold, kept_items, kept_number}
use Rattle.kex_constants.specs.Clearing.{constant_or_register, parts_for, cleared_parts, cleared_change, cleared_transition, cleared_way, cleared_state, cleared_states, cleared_table, HoldAfter, HoldAlways}
use Rattle.kex_constants.specs.Alike.{PassesAreAlike, PassAlike}
use Rattle.kex_constants.proofs.Lists.{parts_code-append, parts_code-puts_bits}

-- a register that is kept holds what it held
kept_get : (cs : Constants) (regs : List (List Symbol)) (i : ℕ) → get_or cs i None ≡ None → get_or (kept_items cs regs) (kept_number cs i) [] ≡ get_or regs i []
kept_get [] regs i e = refl
kept_get (c ∷ cs) [] i e = refl
kept_get (Some v ∷ cs) (x ∷ xs) zero e = cc
kept_get (Some v ∷ cs) (x ∷ xs) (suc i) e = kept_get cs xs i e
kept_get (None ∷ cs) (x ∷ xs) zero e = refl
kept_get (None ∷ cs) (x ∷ xs) (suc i) e = kept_get cs xs i e

kept-map : {A B : Type 0} (f : A → B) (cs : Constants) (xs : List A) → kept_items cs (map f xs) ≡ map f (kept_items cs xs)
kept-map f [] xs = refl
kept-map f (c ∷ cs) [] = refl
kept-map f (Some v ∷ cs) (x ∷ xs) = kept-map f cs xs
kept-map f (None ∷ cs) (x ∷ xs) = ap (λ z. f x ∷ z) (kept-map f cs xs)

module _ (cs : Constants) (regs : List (List Symbol)) (b : ℕ) (h : Hold cs regs) where
  instead_meant : (x : Part) → parts_code (kept_items cs regs) b (parts_for cs x) ≡ value regs b x
  instead_meant (Put s) = refl
  instead_meant Input = refl
  instead_meant (Old i) = by (get_or cs i None) refl
    where
      by : (c : Option (List Bit)) → get_or cs i None ≡ c → parts_code (kept_items cs regs) b (constant_or_register cs i c) ≡ get_or regs i []
      by None e = append-nil (get_or (kept_items cs regs) (kept_number cs i) []) ∙ kept_get cs regs i e
      by (Some v) e = parts_code-puts_bits (kept_items cs regs) b v ∙ sym (h i v e)

  pub replaced_meant : (xs : List Part) → parts_code (kept_items cs regs) b (cleared_parts cs xs) ≡ parts_code regs b xs
  replaced_meant [] = refl
  replaced_meant (x ∷ xs) = parts_code-append (kept_items cs regs) b (parts_for cs x) (cleared_parts cs xs) ∙ ap₂ (λ u v. u ++ v) (instead_meant x) (replaced_meant xs)

  replaced_map : (xs : List (List Part)) → map (λ x. parts_code (kept_items cs regs) b x) (map (λ x. cleared_parts cs x) xs) ≡ map (λ x. parts_code regs b x) xs
  replaced_map [] = refl
  replaced_map (x ∷ xs) = ap₂ (λ u v. u ∷ v) (replaced_meant x) (replaced_map xs)

-- the same place, with the registers that are kept
abbrev Like : List Constants → Option Pass → Option Pass → Type 0
Like css None None = Unit {0}
Like css (Some p) (Some q) = (q.state ≡ p.state) × (q.code ≡ p.code) × (q.registers ≡ kept_items (get_or css p.state []) p.registers)
Like css None (Some q) = ⊥
Like css (Some p) None = ⊥

changed_like : (css : List Constants) (cs : Constants) (u : Change) (b target : ℕ) (p q : Pass) → Hold cs p.registers → q.code ≡ p.code → q.registers ≡ kept_items cs p.registers → Like css (Some (pass_after u b p target)) (Some (pass_after (cleared_change cs u (get_or css target [])) b q target))
changed_like css cs u b target p q h code regs = (
  refl,
  ap₂ (λ y z. y ++ z) code (ap (λ z. parts_code z b (cleared_parts cs u.out)) regs ∙ replaced_meant cs p.registers b h u.out),
  ap (λ z. map (λ x. parts_code z b x) (map (λ x. cleared_parts cs x) (kept_items (get_or css target []) u.regs))) regs
      ∙ replaced_map cs p.registers b h (kept_items (get_or css target []) u.regs)
      ∙ sym (kept-map (λ x. parts_code p.registers b x) (get_or css target []) u.regs),
)

-- a state, if it is there, cleared
abbrev pub cleared_state_if : List Constants → Constants → Option Row → Option Row
cleared_state_if css cs None = None
cleared_state_if css cs (Some s) = Some (cleared_state css cs s)

pub states_at : (css : List Constants) (ss : List Row) (j i : ℕ) → slice_get (cleared_states css j ss) i ≡ cleared_state_if css (get_or css (j + i) []) (slice_get ss i)
states_at css [] j i = refl
states_at css (s ∷ ss) j zero = let e : j ≡ j + 0 = omega arith in ap (λ z. Some (cleared_state css (get_or css z []) s)) e
states_at css (s ∷ ss) j (suc i) = let e : suc j + i ≡ j + suc i = omega arith in states_at css ss (suc j) i ∙ ap (λ z. cleared_state_if css (get_or css z []) (slice_get ss i)) e

-- the states from the first on
pub state_at : (css : List Constants) (ss : List Row) (i : ℕ) → slice_get (cleared_states css 0 ss) i ≡ cleared_state_if css (get_or css i []) (slice_get ss i)
state_at css ss i = let e : 0 + i ≡ i = omega arith in states_at css ss 0 i ∙ ap (λ z. cleared_state_if css (get_or css z []) (slice_get ss i)) e

go_at : (css : List Constants) (cs : Constants) (go : List (Option Transition)) (k : ℕ) → transition_if (slice_get (map (λ r. cleared_transition css cs r) go) k) ≡ cleared_transition css cs (transition_if (slice_get go k))
go_at css cs [] k = refl
go_at css cs (r ∷ go) zero = refl
go_at css cs (r ∷ go) (suc k) = go_at css cs go k

class_at : (css : List Constants) (cs : Constants) (s : Option Row) (k : ℕ) → transition_on (cleared_state_if css cs s) k ≡ cleared_transition css cs (transition_on s k)
class_at css cs None k = refl
class_at css cs (Some s) k = go_at css cs s.go k

way_alike : (css : List Constants) (cs : Constants) (s : Option Row) → way_of (cleared_state_if css cs s) ≡ cleared_way cs (way_of s)
way_alike css cs None = refl
way_alike css cs (Some s) = refl

ended_alike : (cs : Constants) (p q : Pass) (way : Option (List Part)) → Hold cs p.registers → q.code ≡ p.code → q.registers ≡ kept_items cs p.registers → ended_by (cleared_way cs way) q ≡ ended_by way p
ended_alike cs p q None h code regs = refl
ended_alike cs p q (Some way) h code regs = ap Some (ap₂ (λ y z. y ++ z) code (ap (λ z. parts_code z 0 (cleared_parts cs way)) regs ∙ replaced_meant cs p.registers 0 h way))

module _ (css : List Constants) (t : Transducer) where
  next_at : (state b : ℕ) → next_of (cleared_table css t) state b ≡ cleared_transition css (get_or css state []) (next_of t state b)
  next_at state b = by (slice_get t.classes b)
    where
      by : (k : Option ℕ) → transition_at (cleared_table css t) state k ≡ cleared_transition css (get_or css state []) (transition_at t state k)
      by None = refl
      by (Some k) = ap (λ z. transition_on z k) (state_at css t.states state) ∙ class_at css (get_or css state []) (slice_get t.states state) k

  step_like : (b : ℕ) (p q : Pass) → Hold (get_or css p.state []) p.registers → Like css (Some p) (Some q) → Like css (next_pass (next_of t p.state b) b p) (next_pass (next_of (cleared_table css t) q.state b) b q)
  step_like b p q h (state, code, regs) = subst (λ z. Like css (next_pass (next_of t p.state b) b p) (next_pass z b q)) (sym (ap (λ z. next_of (cleared_table css t) z b) state ∙ next_at p.state b)) (by (next_of t p.state b))
    where
      by : (r : Option Transition) → Like css (next_pass r b p) (next_pass (cleared_transition css (get_or css p.state []) r) b q)
      by None = tt
      by (Some r) = changed_like css (get_or css p.state []) r.update b r.target p q h code regs

  like_from : (w : List ℕ) (p q : Option Pass) → ((v : List ℕ) → HoldAfter css (passes_if t p v)) → Like css p q → Like css (passes_if t p w) (passes_if (cleared_table css t) q w)
  like_from [] None None h l = tt
  like_from (b ∷ w) None None h l = tt
  like_from [] (Some p) (Some q) h l = l
  like_from (b ∷ w) (Some p) (Some q) h l = like_from w (next_pass (next_of t p.state b) b p) (next_pass (next_of (cleared_table css t) q.state b) b q) (λ v. h (b ∷ v)) (step_like b p q (h []) l)
  like_from w None (Some q) h l = absurd l
  like_from w (Some p) None h l = absurd l

  ends_alike : (p q : Option Pass) → HoldAfter css p → Like css p q → PassesAreAlike t (cleared_table css t) p q
  ends_alike None None h l = tt
  ends_alike (Some p) (Some q) h (state, code, regs) = (
    state,
    code,
    ap (λ z. ended_by (way_of (slice_get (cleared_states css 0 t.states) z)) q) state
        ∙ ap (λ z. ended_by (way_of z) q) (state_at css t.states p.state)
        ∙ ap (λ z. ended_by z q) (way_alike css (get_or css p.state []) (slice_get t.states p.state))
        ∙ ended_alike (get_or css p.state []) p q (way_of (slice_get t.states p.state)) h code regs,
  )
  ends_alike None (Some q) h l = absurd l
  ends_alike (Some p) None h l = absurd l

  pub pass_alike : HoldAlways t css → PassAlike t (cleared_table css t)
  pass_alike h w = ends_alike (passes t w) (passes (cleared_table css t) w) (h w) (like_from w (Some (first_pass t.initial)) (Some (first_pass (cleared_table css t).initial)) h (changed_like css [] t.initial 0 0 (record { state = 0; code = []; registers = [] }) (record { state = 0; code = []; registers = [] }) nothing refl refl))
    where
      nothing : Hold [] []
      nothing i c e = cc
