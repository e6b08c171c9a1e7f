-- What is left of a machine when what doesn't lead to the end is gone.
use Rattle.std.specs.Prelude.{◌≡◌, ℕ, ◌<◌, ◌≤◌, Bool, true, false, List, [], ◌∷◌, ◌++◌, get_or}
use Rattle.std.specs.Prelude.{slice_set, length}
use Rattle.kex_code.specs.Codes.{HasNumber}
use Rattle.kex_model.specs.Moves.{Move, accept, read, choose, forced, go, Side, to_left, to_right}
use Rattle.kex_model.specs.Moves.{Effect}
use Rattle.kex_model.specs.Survivors.{LeadsToEnd}
use Rattle.kex_machine.specs.declared.MNode.{MNode}
use Rattle.kex_machine.specs.Nodes.{Graph, node_moves}
use Rattle.kex_trim.specs.declared.TrimRefusal.{TrimRefusal}
use Rattle.kex_trim.specs.declared.TrimRefusal.TheVariants.{NoText, Memory}

-- the same, but that a choice with a lost side has only the other side left; R pairs what is kept
pub data KeepsMove {S T : Type 0} (R : S → T → Type 0) (Lost : S → Type 0) : Move S → Move T
    → Type 0 where
  still_accepts : KeepsMove R Lost accept accept
  still_reads : {set : List Bool} {s : S} {t : T} → R s t
      → KeepsMove R Lost (read set s) (read set t)
  still_chooses : {s s' : S} {t t' : T} → R s t → R s' t'
      → KeepsMove R Lost (choose s s') (choose t t')
  only_left : {s s' : S} {t : T} → R s t → Lost s'
      → KeepsMove R Lost (choose s s') (forced to_left t)
  only_right : {s s' : S} {t : T} → Lost s → R s' t
      → KeepsMove R Lost (choose s s') (forced to_right t)
  still_forced : {x : Side} {s : S} {t : T} → R s t → KeepsMove R Lost (forced x s) (forced x t)
  still_goes : {e : Effect} {s : S} {t : T} → R s t → KeepsMove R Lost (go e s) (go e t)

-- h has just the nodes of g from which the end is reached
pub record IsTrimOf (g h : Graph) : Type 0 where
  pub kept : List ℕ
  pub count : length kept ≡ length h.nodes
  pub each : (s t : ℕ) → HasNumber kept s t → LeadsToEnd (node_moves g.nodes) s
      × (s < length g.nodes)
  pub all : (s : ℕ) → s < length g.nodes → LeadsToEnd (node_moves g.nodes) s → (t : ℕ)
      × HasNumber kept s t
  pub once : (s t t' : ℕ) → HasNumber kept s t → HasNumber kept s t' → t ≡ t'
  pub start : HasNumber kept g.start h.start
  pub keeps : (s t : ℕ) → HasNumber kept s t → KeepsMove (HasNumber kept) (λ q.
      LeadsToEnd (node_moves g.nodes) q → ⊥) (node_moves g.nodes s) (node_moves h.nodes t)
  pub stage : h.stage ≡ g.stage
  pub registers : h.registers ≡ g.registers

-- why the machine is refused
abbrev pub IsTrimCause : Graph → TrimRefusal → Type 0
IsTrimCause g NoText = LeadsToEnd (node_moves g.nodes) g.start → ⊥
IsTrimCause g Memory = Unit {0}

-- those that are alive have numbers
pub record IsNumbering (alive : List Bool) (kept numbers : List ℕ) : Type 0 where
  pub long : length numbers ≡ length alive
  pub few : length kept ≤ length alive
  pub each : (s t : ℕ) → HasNumber kept s t → get_or alive s false ≡ true
  pub all : (s : ℕ) → get_or alive s false ≡ true → HasNumber kept s (get_or numbers s 0)
  pub once : (s t : ℕ) → HasNumber kept s t → get_or numbers s 0 ≡ t

abbrev pub NumbersOne : Bool → ℕ → List ℕ → List ℕ → List ℕ → List ℕ → Type 0
NumbersOne true s kept numbers kept' numbers' = (kept' ≡ kept ++ s ∷ [])
    × (numbers' ≡ slice_set numbers s (length kept))
NumbersOne false s kept numbers kept' numbers' = (kept' ≡ kept) × (numbers' ≡ numbers)

abbrev pub choice_left : Bool → Bool → ℕ → ℕ → Move ℕ
choice_left true true l r = choose l r
choice_left true false l r = forced to_left l
choice_left false x l r = forced to_right r

-- the move by the new numbers
abbrev pub renumbered_move : List Bool → List ℕ → Move ℕ → Move ℕ
renumbered_move alive numbers accept = accept
renumbered_move alive numbers (read set t) = read set (get_or numbers t 0)
renumbered_move alive numbers (choose l r) = choice_left (get_or alive l false)
    (get_or alive r false) (get_or numbers l 0) (get_or numbers r 0)
renumbered_move alive numbers (forced x t) = forced x (get_or numbers t 0)
renumbered_move alive numbers (go e t) = go e (get_or numbers t 0)

-- the nodes that were made so far are those that are kept, by their new numbers
pub record IsShrunk (nodes made : List MNode) (alive : List Bool)
    (kept numbers : List ℕ) : Type 0 where
  pub count : length made ≡ length kept
  pub each : (s t : ℕ) → HasNumber kept s t
      → node_moves made t ≡ renumbered_move alive numbers (node_moves nodes s)
