-- Paths and shapes over a stage's places and over its nodes: the same, place for node.
use Rattle.std.specs.Prelude.{◌≡◌, ◌↔◌, ℕ, List}
use Rattle.kex_code.specs.declared.symbol.Symbol.{Symbol}
use Rattle.kex_code.specs.Codes.{HasNumber}
use Rattle.kex_model.specs.Programs.{Grammar}
use Rattle.kex_model.specs.Labelled.{Shape, place, parts}
use Rattle.kex_model.specs.Places.{Place, moves, start_of}
use Rattle.kex_model.specs.Survivors.{LeadsToEnd, Reaches, HasShape}
use Rattle.kex_model.specs.States.{HasMoreStates, HasStates}
use Rattle.kex_machine.specs.Nodes.{Graph, node_moves}
use Rattle.kex_desugar.specs.Machines.{IsMachineOf}
use Rattle.kex_trim.specs.Trim.{IsTrimOf}
use Rattle.kex_lowering.specs.Stages.{Carries, IsKeptOf}

-- shapes that differ at most in their places, each of which R pairs with the other's
abbrev pub SameShape : {S T : Type 0} → (S → T → Type 0) → Shape S → Shape T → Type 0
SameShape R (place s) (place t) = R s t
SameShape R (parts l r) (parts l' r') = SameShape R l l' × SameShape R r r'
SameShape R (place s) (parts l r) = ⊥
SameShape R (parts l r) (place t) = ⊥

-- R pairs places and nodes one to one; the paths to those from which the end is reached, and the
-- shapes, are the same
pub record SameShapes (P : Grammar) (root : ℕ) (m : Graph) (R : Place → ℕ → Type 0) : Type 0 where
  pub one_node : (p : Place) (n n' : ℕ) → R p n → R p n' → n ≡ n'
  pub one_place : (p p' : Place) (n : ℕ) → R p n → R p' n → p ≡ p'
  pub path_of_nodes : (w : List ℕ) (p : Place) (c : List Symbol) → LeadsToEnd (moves P) p
      → Reaches (moves P) (start_of P root) w p c → (n : ℕ) × R p n
      × Reaches (node_moves m.nodes) m.start w n c × LeadsToEnd (node_moves m.nodes) n
  pub path_of_places : (w : List ℕ) (n : ℕ) (c : List Symbol) → LeadsToEnd (node_moves m.nodes) n
      → Reaches (node_moves m.nodes) m.start w n c → (p : Place) × R p n
      × Reaches (moves P) (start_of P root) w p c × LeadsToEnd (moves P) p
  pub shape_of_nodes : (w : List ℕ) (s : Shape Place) → HasShape (moves P) (start_of P root) w s
      → (u : Shape ℕ) × SameShape R s u × HasShape (node_moves m.nodes) m.start w u
  pub shape_of_places : (w : List ℕ) (u : Shape ℕ) → HasShape (node_moves m.nodes) m.start w u
      → (s : Shape Place) × SameShape R s u × HasShape (moves P) (start_of P root) w s

-- all paths are the same, also those to places from which the end isn't reached
pub record SamePaths (P : Grammar) (root : ℕ) (m : Graph) (R : Place → ℕ → Type 0) : Type 0 where
  pub to_node : (w : List ℕ) (p : Place) (c : List Symbol)
      → Reaches (moves P) (start_of P root) w p c → (n : ℕ) × R p n
      × Reaches (node_moves m.nodes) m.start w n c
  pub to_place : (w : List ℕ) (n : ℕ) (c : List Symbol) → Reaches (node_moves m.nodes) m.start w n c
      → (p : Place) × R p n × Reaches (moves P) (start_of P root) w p c

-- the place is the one of the node's number
abbrev pub IsPlaceOf : {P : Grammar} {root : ℕ} {m : Graph} → IsMachineOf P root m → Place → ℕ
    → Type 0
IsPlaceOf is p n = HasNumber is.places p n

-- the place is the one of the number that the node had before the machine was trimmed
abbrev pub WasPlaceOf : {P : Grammar} {root : ℕ} {m t : Graph} → IsMachineOf P root m → IsTrimOf m t
    → Place → ℕ → Type 0
WasPlaceOf is trimmed p n = (before : ℕ) × HasNumber is.places p before
    × HasNumber trimmed.kept before n

-- the machine before it is trimmed
pub record MachineAnswersAsPlaces (P : Grammar) (root : ℕ) (m : Graph)
    (is : IsMachineOf P root m) : Type 0 where
  pub paths : SamePaths P root m (λ p n. IsPlaceOf is p n)
  pub shapes : SameShapes P root m (λ p n. IsPlaceOf is p n)
  pub carries : LeadsToEnd (moves P) (start_of P root) → Carries P root m

abbrev pub MachinesAnswerAsPlaces : Type 0
MachinesAnswerAsPlaces = (P : Grammar) (root : ℕ) (m : Graph) (is : IsMachineOf P root m)
    → MachineAnswersAsPlaces P root m is

-- and what is left of it
abbrev pub NodesHaveShapesOfPlaces : Type 0
NodesHaveShapesOfPlaces = (P : Grammar) (root : ℕ) (m t : Graph) (is : IsMachineOf P root m)
    (trimmed : IsTrimOf m t) → SameShapes P root t (λ p n. WasPlaceOf is trimmed p n)

-- the machine has as many states as the stage
pub record SameStates (P : Grammar) (root : ℕ) (m : Graph) (n : ℕ) : Type 0 where
  pub more : HasMoreStates (moves P) (start_of P root) n
      ↔ HasMoreStates (node_moves m.nodes) m.start n
  pub count : HasStates (moves P) (start_of P root) n ↔ HasStates (node_moves m.nodes) m.start n

-- so it is with what is left of a stage's machine
abbrev pub NodesHaveStatesOfPlaces : Type 0
NodesHaveStatesOfPlaces = (P : Grammar) (root : ℕ) (m : Graph) (n : ℕ) → IsKeptOf P root m
    → SameStates P root m n
