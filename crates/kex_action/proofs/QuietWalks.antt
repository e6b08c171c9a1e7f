-- A walk without a symbol in a trimmed machine has fewer steps than the machine has nodes.
use Rattle.std.proofs.Common.{◌≡◌, ℕ, zero, suc, ◌<◌, ◌≤◌, List, [], ◌∷◌, ◌++◌, Option, Some, None, All, length, map, get_or, inl, inr, ⊎_elim, refl, sym, ap, ap₂, subst, arith, ◌⊎◌}
use Rattle.std.proofs.lemmas.List.Elements.{All-get_or}
use Rattle.std.proofs.lemmas.Option.{slice_get_cases}
use Rattle.std.specs.Prelude.{slice_get, IfSome}
use Rattle.kex_code.specs.Codes.{IsAmong, Different}
use Rattle.kex_model.specs.Moves.{Move, forced, Side, Allows, goes_forced, code_of, symbols_of, target_of, Walk, Step, chose}
use Rattle.kex_model.proofs.Derivations.{from_accept, from_read, from_choose, from_go}
use Rattle.kex_model.proofs.DistinctItems.{different_fits}
use Rattle.kex_machine.specs.declared.MNode.{MNode}
use Rattle.kex_machine.specs.declared.MNode.TheVariants.{Accept, Read, Choice, Forced, Do, Skip}
use Rattle.kex_machine.specs.Nodes.{Graph, node_moves, move_of, IsBelow, IsMachineInRange, IsTrimmed, HasMuteLoop}
use Rattle.kex_action.proofs.WalkEffects.{parts_none}

-- all numbers below n
below : ℕ → List ℕ
below zero = []
below (suc n) = n ∷ below n

length-below : (n : ℕ) → length (below n) ≡ n
unfolding below
length-below zero = refl
length-below (suc n) = ap suc (length-below n)

le_cases : (a b : ℕ) → a ≤ b → (a ≡ b) ⊎ (a < b)
le_cases zero zero h = inl refl
le_cases zero (suc b) h = inr (omega arith)
le_cases (suc a) zero h = absurd (omega arith)
le_cases (suc a) (suc b) h = ⊎_elim (λ e. inl (ap suc e)) (λ l. inr (omega arith)) (le_cases a b (omega arith))

is_below : (n x : ℕ) → x < n → IsAmong (below n) x
unfolding below
is_below zero x h = absurd (omega arith)
is_below (suc n) x h = ⊎_elim (λ e. inl (sym e)) (λ l. inr (is_below n x l)) (le_cases x n (omega arith))

from_forced : {x : Side} {m : ℕ} {k : Step ℕ} → Allows (forced x m) k → k ≡ chose x m
from_forced goes_forced = refl

pub some_in : {A : Type 0} (P : A → Type 0) (xs : List A) (i : ℕ) → All P xs → IfSome (slice_get xs i) P
some_in {A} P xs i h = ⊎_elim (λ (f : (x : A) × (i < length xs) × (slice_get xs i ≡ Some x) × (get_or xs i x ≡ x)). subst (λ o. IfSome o P) (sym f.2) (subst P f.3 (All-get_or P xs i f.0 f.1 h))) (λ (f : (length xs ≤ i) × (slice_get xs i ≡ None)). subst (λ o. IfSome o P) (sym f.1) tt) (slice_get_cases xs i).1

entered_by : (o : Option MNode) (n r : ℕ) (k : Step ℕ) → IfSome o (IsBelow n r) → Allows (move_of o) k → target_of k < n
entered_by None n r k h a = absurd (from_accept a)
entered_by (Some Accept) n r k h a = absurd (from_accept a)
entered_by (Some (Read set m)) n r k h a = let p = from_read a in subst (λ q. target_of q < n) (sym p.2) h
entered_by (Some (Choice x y)) n r k h a = ⊎_elim (λ e. subst (λ q. target_of q < n) (sym e) h.0) (λ e. subst (λ q. target_of q < n) (sym e) h.1) (from_choose a)
entered_by (Some (Forced b m)) n r k h a = subst (λ q. target_of q < n) (sym (from_forced a)) h
entered_by (Some (Do e m)) n r k h a = subst (λ q. target_of q < n) (sym (from_go a)) h.0
entered_by (Some (Skip m)) n r k h a = subst (λ q. target_of q < n) (sym (from_go a)) h

-- steps lead to nodes
pub entered_in : (g : Graph) (s : ℕ) (k : Step ℕ) → IsMachineInRange g.start g.nodes g.registers → Allows (node_moves g.nodes s) k → target_of k < length g.nodes
entered_in g s k range a = entered_by (slice_get g.nodes s) (length g.nodes) g.registers k (some_in (IsBelow (length g.nodes) g.registers) g.nodes s range.below) a

pub walked_in : (g : Graph) (ks : List (Step ℕ)) (s t : ℕ) → IsMachineInRange g.start g.nodes g.registers → s < length g.nodes → Walk (node_moves g.nodes) s ks t → t < length g.nodes
walked_in g [] s t range h w = subst (λ q. q < length g.nodes) w h
walked_in g (k ∷ ks) s t range h w = walked_in g ks (target_of k) t range (entered_in g s k range w.0) w.1

-- a silent walk that comes to x can be cut there
record Cut (f : ℕ → Move ℕ) (s x : ℕ) : Type 0 where
  pub first : Step ℕ
  pub others : List (Step ℕ)
  pub walk : Walk f s (first ∷ others) x
  pub silent : code_of (first ∷ others) ≡ []

cut : (f : ℕ → Move ℕ) (ks : List (Step ℕ)) (s t x : ℕ) → Walk f s ks t → code_of ks ≡ [] → IsAmong (map target_of ks) x → Cut f s x
cut f [] s t x w c h = absurd h
cut f (k ∷ ks) s t x w c (inl e) =
    let p = parts_none (symbols_of k) (code_of ks) c in
    record { first = k; others = []; walk = (w.0, e); silent = ap (λ q. q ++ []) p.0 }
cut f (k ∷ ks) s t x w c (inr h) =
    let p = parts_none (symbols_of k) (code_of ks) c in
    let r = cut f ks (target_of k) t x w.1 p.1 h in
    record { first = k; others = r.first ∷ r.others; walk = (w.0, r.walk); silent = ap₂ (λ a b. a ++ b) p.0 r.silent }

different : (nodes : List MNode) (ks : List (Step ℕ)) (s t : ℕ) → (HasMuteLoop nodes → ⊥) → Walk (node_moves nodes) s ks t → code_of ks ≡ [] → Different (s ∷ map target_of ks)
different nodes [] s t none w c = ((λ h. absurd h), tt)
different nodes (k ∷ ks) s t none w c =
    let p = parts_none (symbols_of k) (code_of ks) c in
    ((λ h. let r = cut (node_moves nodes) (k ∷ ks) s t s w c h in none (s, r.first, r.others, r.walk, r.silent)), different nodes ks (target_of k) t none w.1 p.1)

length-places : (ks : List (Step ℕ)) → length (map target_of ks) ≡ length ks
length-places [] = refl
length-places (k ∷ ks) = ap suc (length-places ks)

all_below : (g : Graph) (ks : List (Step ℕ)) (s t x : ℕ) → IsMachineInRange g.start g.nodes g.registers → s < length g.nodes → Walk (node_moves g.nodes) s ks t → IsAmong (s ∷ map target_of ks) x → x < length g.nodes
all_below g ks s t x range h w (inl e) = subst (λ q. q < length g.nodes) e h
all_below g [] s t x range h w (inr i) = absurd i
all_below g (k ∷ ks) s t x range h w (inr i) = all_below g ks (target_of k) t x range (entered_in g s k range w.0) w.1 i

pub walk_short : (g : Graph) (ks : List (Step ℕ)) (s t : ℕ) → IsTrimmed g → IsMachineInRange g.start g.nodes g.registers → s < length g.nodes → Walk (node_moves g.nodes) s ks t → code_of ks ≡ [] → length ks < length g.nodes
walk_short g ks s t trim range h w c =
    let fits : length (s ∷ map target_of ks) ≤ length (below (length g.nodes)) = different_fits (s ∷ map target_of ks) (below (length g.nodes)) (different g.nodes ks s t trim.no_mute_loop w c) (λ x i. is_below (length g.nodes) x (all_below g ks s t x range h w i)) in
    let n : length (below (length g.nodes)) ≡ length g.nodes = length-below (length g.nodes) in
    let m : length (map target_of ks) ≡ length ks = length-places ks in
    omega arith
