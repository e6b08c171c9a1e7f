-- What the code of an update does at a node, for every byte that is read.
use Rattle.std.specs.Prelude.{◌≡◌, ℕ, List, [], ◌++◌}
use Rattle.kex_code.specs.declared.symbol.Symbol.{Symbol}
use Rattle.kex_code.specs.declared.symbol.Symbol.TheVariants as symbols
use Rattle.kex_model.specs.Moves.{Step, code_of, Walk}
use Rattle.kex_model.specs.Acting.{ActingState}
use Rattle.kex_machine.specs.declared.MNode.{MNode}
use Rattle.kex_machine.specs.Nodes.{node_moves}
use Rattle.kex_action.specs.declared.action.Action.{Action}
use Rattle.kex_action.specs.Holdings.{LeadsByCode, Does}
use Rattle.kex_action.specs.Actions.{after_actions}
use Rattle.kex_sst.specs.declared.parts.Part.{Part}
use Rattle.kex_sst.specs.Parts.{parts_code}
use Rattle.kex_held.specs.declared.walk.Letter.{Letter}
use Rattle.kex_held.specs.declared.walk.Letter.TheVariants.{L, R, Read}

-- a letter where the byte b is read
abbrev pub symbol_at : ℕ → Letter → Symbol
symbol_at b L = symbols.L
symbol_at b R = symbols.R
symbol_at b Read = symbols.Byte b

-- the code of parts without registers, where the byte b is read
abbrev pub code_with_byte : ℕ → List Part → List Symbol
code_with_byte b parts = parts_code [] b parts

-- some steps from n have the code
pub record TakesCode (nodes : List MNode) (n : ℕ) (c : List Symbol) : Type 0 where
  pub steps : List (Step ℕ)
  pub to : ℕ
  pub walk : Walk (node_moves nodes) n steps to
  pub codes : code_of steps ≡ c

-- on the way from n to t no symbol is needed, and what is done is noted
pub record WalkGoesOn (nodes : List MNode) (n : ℕ) (before : List Action) (t : ℕ)
    (after : List Action) : Type 0 where
  pub more : List Action
  pub noted : after ≡ before ++ more
  pub leads : (b : ℕ) (s : ActingState) → LeadsByCode nodes n s [] t (after_actions nodes b more s)
  pub takes : (c : List Symbol) → TakesCode nodes n c → TakesCode nodes t c

-- for each byte with which the code can be taken from n, on the way to anything, it leads to t and
-- does what is noted
pub record Learns (nodes : List MNode) (n : ℕ) (parts : List Part) (t : ℕ)
    (actions : List Action) : Type 0 where
  pub does : (b : ℕ) (c : List Symbol) → TakesCode nodes n (code_with_byte b parts ++ c)
      → Does nodes n (code_with_byte b parts) t (after_actions nodes b actions)
  pub takes : (b : ℕ) (c : List Symbol) → TakesCode nodes n (code_with_byte b parts ++ c)
      → TakesCode nodes t c
