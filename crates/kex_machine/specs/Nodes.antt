-- A machine's nodes, as what there is to do at a number.
use Rattle.std.specs.Prelude.{◌≡◌, ℕ, Bool, List, [], ◌∷◌, Option, Some, None, slice_get, ◌<◌, All}
use Rattle.std.specs.Prelude.{length}
use Rattle.kex_byteset.specs.Classes.{IsRefinedBy}
use Rattle.kex_model.specs.Programs.{HasPieces}
use Rattle.kex_model.specs.Moves.{Move, accept, read, choose, forced, go, Side, to_left, to_right}
use Rattle.kex_model.specs.Moves.{nothing, append, open_buffer, drop_buffer, into, write, set_to}
use Rattle.kex_model.specs.Moves.{add_to, Step, code_of, Walk}
use Rattle.kex_model.specs.Survivors.{LeadsToEnd}
use Rattle.kex_machine.specs.declared.Bit.{Bit}
use Rattle.kex_machine.specs.declared.Bit.TheVariants.{L, R}
use Rattle.kex_machine.specs.declared.Effect.{Effect}
use Rattle.kex_machine.specs.declared.Effect.TheVariants.{Lit, Open, Drop, Into, Write, Set, Add}
use Rattle.kex_machine.specs.declared.MNode.{MNode}
use Rattle.kex_machine.specs.declared.MNode.TheVariants.{Accept, Read, Choice, Forced, Do, Skip}
use Rattle.kex_model.specs.Moves as moves

abbrev pub side_of : Bit → Side
side_of L = to_left
side_of R = to_right

abbrev pub effect_of : Effect → moves.Effect
effect_of (Lit bytes) = append bytes
effect_of Open = open_buffer
effect_of Drop = drop_buffer
effect_of (Into r) = into r
effect_of (Write r) = write r
effect_of (Set r parts) = set_to r parts
effect_of (Add r parts) = add_to r parts

abbrev pub move_of : Option MNode → Move ℕ
move_of None = accept
move_of (Some Accept) = accept
move_of (Some (Read set n)) = read set n
move_of (Some (Choice l r)) = choose l r
move_of (Some (Forced b n)) = forced (side_of b) n
move_of (Some (Do e n)) = go (effect_of e) n
move_of (Some (Skip n)) = go nothing n

-- what there is to do at a node
abbrev pub node_moves : List MNode → ℕ → Move ℕ
node_moves ms n = move_of (slice_get ms n)

-- the registers of what a step does are below the count
abbrev pub UsesRegisters : ℕ → moves.Effect → Type 0
UsesRegisters registers (into r) = r < registers
UsesRegisters registers (write r) = r < registers
UsesRegisters registers (set_to r parts) = (r < registers) × HasPieces registers parts
UsesRegisters registers (add_to r parts) = (r < registers) × HasPieces registers parts
UsesRegisters registers _ = Unit {0}

abbrev pub HasRegisters : ℕ → Effect → Type 0
HasRegisters registers e = UsesRegisters registers (effect_of e)

-- the numbers of a node are below the counts of nodes and of registers
abbrev pub IsBelow : ℕ → ℕ → MNode → Type 0
IsBelow count registers Accept = Unit {0}
IsBelow count registers (Read set n) = n < count
IsBelow count registers (Choice l r) = (l < count) × (r < count)
IsBelow count registers (Forced b n) = n < count
IsBelow count registers (Do e n) = (n < count) × HasRegisters registers e
IsBelow count registers (Skip n) = n < count

-- all numbers are of nodes and of registers
pub record IsMachineInRange (start : ℕ) (ms : List MNode) (registers : ℕ) : Type 0 where
  pub start_in : start < length ms
  pub below : All (IsBelow (length ms) registers) ms
  pub count : length ms < 4294967296

-- where a node leads is below the count
abbrev pub MoveBelow : ℕ → Move ℕ → Type 0
MoveBelow m accept = Unit {0}
MoveBelow m (read set t) = t < m
MoveBelow m (choose l r) = (l < m) × (r < m)
MoveBelow m (forced x t) = t < m
MoveBelow m (go e t) = t < m

-- each node leads to nodes
abbrev pub StaysWithin : List MNode → Type 0
StaysWithin nodes = (n : ℕ) → n < length nodes → MoveBelow (length nodes) (node_moves nodes n)

pub record Graph : Type 0 where
  pub start : ℕ
  pub nodes : List MNode
  pub stage : ℕ
  pub registers : ℕ

-- some node is reached again from itself without a symbol
abbrev pub HasMuteLoop : List MNode → Type 0
HasMuteLoop nodes = (n : ℕ) × (k : Step ℕ) × (ks : List (Step ℕ))
    × Walk (node_moves nodes) n (k ∷ ks) n × (code_of (k ∷ ks) ≡ [])

-- the end is reached from every node, and every loop without a byte has a choice or a forced side
-- in it
pub record IsTrimmed (g : Graph) : Type 0 where
  pub ends : (n : ℕ) → n < length g.nodes → LeadsToEnd (node_moves g.nodes) n
  pub no_mute_loop : HasMuteLoop g.nodes → ⊥

-- the sets of bytes that nodes read, in the order of the nodes
abbrev pub sets_of : List MNode → List (List Bool)
sets_of [] = []
sets_of (Read set n ∷ ms) = set ∷ sets_of ms
sets_of (Accept ∷ ms) = sets_of ms
sets_of (Choice l r ∷ ms) = sets_of ms
sets_of (Forced b n ∷ ms) = sets_of ms
sets_of (Do e n ∷ ms) = sets_of ms
sets_of (Skip n ∷ ms) = sets_of ms

-- a class has the bytes that no node tells apart; each set has a flag for each byte and no more
pub record HasClasses (nodes : List MNode) (classes : List ℕ) : Type 0 where
  pub refined : IsRefinedBy classes (sets_of nodes)
  pub bytes : All (λ set. length set ≡ 256) (sets_of nodes)
