-- Constants in place of their registers: in lists of parts, in updates, and in a whole table.
use Rattle.std.specs.Prelude.{ℕ, suc, List, [], ◌∷◌, ◌++◌, Option, Some, None, map, get_or}
use Rattle.kex_code.specs.declared.symbol.Symbol.{Symbol}
use Rattle.kex_model.specs.Moves.{symbol_of}
use Rattle.kex_machine.specs.declared.Bit.{Bit}
use Rattle.kex_machine.specs.Nodes.{side_of}
use Rattle.kex_sst.specs.declared.parts.Part.{Part}
use Rattle.kex_sst.specs.declared.parts.Part.TheVariants.{Put, Old, Input}
use Rattle.kex_sst.specs.declared.table.Transition.{Transition}
use Rattle.kex_sst.specs.Parts.{Change, parts_code}
use Rattle.kex_sst.specs.Tables.{Row, Transducer}
use Rattle.kex_sst.specs.Passes.{Pass, passes}
use Rattle.kex_constants.specs.Known.{Constants, Hold, kept_items, kept_number}

-- each choice as a part
abbrev pub puts_bits : List Bit → List Part
puts_bits [] = []
puts_bits (x ∷ xs) = Put (symbol_of (side_of x)) ∷ puts_bits xs

-- a constant, or else the register by its new number
abbrev pub constant_or_register : Constants → ℕ → Option (List Bit) → List Part
constant_or_register cs i None = Old (kept_number cs i) ∷ []
constant_or_register cs i (Some c) = puts_bits c

abbrev pub parts_for : Constants → Part → List Part
parts_for cs (Put s) = Put s ∷ []
parts_for cs (Old i) = constant_or_register cs i (get_or cs i None)
parts_for cs Input = Input ∷ []

-- each constant in place of its register, and the other registers by their new numbers
abbrev pub cleared_parts : Constants → List Part → List Part
cleared_parts cs [] = []
cleared_parts cs (x ∷ xs) = parts_for cs x ++ cleared_parts cs xs

-- the update between the registers that are kept
abbrev pub cleared_change : Constants → Change → Constants → Change
cleared_change cs u ds = record {
  out = cleared_parts cs u.out;
  regs = map (λ x. cleared_parts cs x) (kept_items ds u.regs);
}

abbrev pub cleared_transition : List Constants → Constants → Option Transition → Option Transition
cleared_transition css cs None = None
cleared_transition css cs (Some r) = Some
    (record { target = r.target; update = cleared_change cs r.update (get_or css r.target []) })

abbrev pub cleared_way : Constants → Option (List Part) → Option (List Part)
cleared_way cs None = None
cleared_way cs (Some way) = Some (cleared_parts cs way)

abbrev pub cleared_state : List Constants → Constants → Row → Row
cleared_state css cs s = record {
  registers = kept_number cs s.registers;
  accepting = cleared_way cs s.accepting;
  go = map (λ r. cleared_transition css cs r) s.go;
}

-- the states from number i on
abbrev pub cleared_states : List Constants → ℕ → List Row → List Row
cleared_states css i [] = []
cleared_states css i (s ∷ ss) =
    cleared_state css (get_or css i []) s ∷ cleared_states css (suc i) ss

abbrev pub cleared_table : List Constants → Transducer → Transducer
cleared_table css t =
    record {
      classes = t.classes;
      initial = cleared_change [] t.initial (get_or css 0 []);
      states = cleared_states css 0 t.states;
    }

-- where the old registers hold their constants, the new ones are given theirs
abbrev pub GivesConstants : Constants → Change → Constants → Type 0
GivesConstants cs u ds = (regs : List (List Symbol)) (b : ℕ) → Hold cs regs
    → Hold ds (map (λ x. parts_code regs b x) u.regs)

abbrev pub GivesIf : List Constants → Constants → Option Transition → Type 0
GivesIf css cs None = Unit {0}
GivesIf css cs (Some r) = GivesConstants cs r.update (get_or css r.target [])

abbrev pub HoldAfter : List Constants → Option Pass → Type 0
HoldAfter css None = Unit {0}
HoldAfter css (Some p) = Hold (get_or css p.state []) p.registers

-- the constants, by state and register, are held after every text on which the table goes on
abbrev pub HoldAlways : Transducer → List Constants → Type 0
HoldAlways t css = (w : List ℕ) → HoldAfter css (passes t w)
