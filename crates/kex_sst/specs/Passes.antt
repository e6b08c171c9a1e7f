-- What a table passes on along a text, and at its end.
use Rattle.std.specs.Prelude.{ℕ, List, [], ◌∷◌, ◌++◌, Option, Some, None, map, slice_get}
use Rattle.kex_code.specs.declared.symbol.Symbol.{Symbol}
use Rattle.kex_sst.specs.declared.parts.Part.{Part}
use Rattle.kex_sst.specs.declared.table.Transition.{Transition}
use Rattle.kex_sst.specs.Parts.{Change, parts_code}
use Rattle.kex_sst.specs.Tables.{Row, Transducer, transition_of}

-- a state, all that was passed on, and what the registers hold
pub record Pass : Type 0 where
  pub state : ℕ
  pub code : List Symbol
  pub registers : List (List Symbol)

-- what an update leaves, with the byte that is read
abbrev pub pass_after : Change → ℕ → Pass → ℕ → Pass
pass_after u b p target = record {
  state = target;
  code = p.code ++ parts_code p.registers b u.out;
  registers = map (λ xs. parts_code p.registers b xs) u.regs;
}

-- before the first byte
abbrev pub first_pass : Change → Pass
first_pass u = pass_after u 0 (record { state = 0; code = []; registers = [] }) 0

abbrev pub transition_at : Transducer → ℕ → Option ℕ → Option Transition
transition_at t state None = None
transition_at t state (Some class) = transition_of t state class

-- the transition of a state on a byte; on a number that is no byte there is none
abbrev pub next_of : Transducer → ℕ → ℕ → Option Transition
next_of t state b = transition_at t state (slice_get t.classes b)

abbrev pub next_pass : Option Transition → ℕ → Pass → Option Pass
next_pass None b p = None
next_pass (Some r) b p = Some (pass_after r.update b p r.target)

abbrev pub passes_if : Transducer → Option Pass → List ℕ → Option Pass
passes_if t None w = None
passes_if t (Some p) [] = Some p
passes_if t (Some p) (b ∷ w) = passes_if t (next_pass (next_of t p.state b) b p) w

-- the state after a text, what was passed on, and the registers; none from the first byte on for
-- which there is no transition
abbrev pub passes : Transducer → List ℕ → Option Pass
passes t w = passes_if t (Some (first_pass t.initial)) w

abbrev pub way_of : Option Row → Option (List Part)
way_of None = None
way_of (Some s) = s.accepting

abbrev pub ended_by : Option (List Part) → Pass → Option (List Symbol)
ended_by None p = None
ended_by (Some way) p = Some (p.code ++ parts_code p.registers 0 way)

-- the whole code, if the text may end here
abbrev pub whole_code : Transducer → Pass → Option (List Symbol)
whole_code t p = ended_by (way_of (slice_get t.states p.state)) p
