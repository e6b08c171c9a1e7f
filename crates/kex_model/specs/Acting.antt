-- What steps do, by a stack of open buffers: the form of a meaning over walks.
use Rattle.std.specs.Prelude.{ℕ, List, [], ◌∷◌, ◌++◌}
use Rattle.kex_code.specs.declared.symbol.Symbol.{Symbol}
use Rattle.kex_model.specs.Moves.{Effect, nothing, append, open_buffer, drop_buffer, into, write}
use Rattle.kex_model.specs.Moves.{set_to, add_to, Step, took, chose, went}
use Rattle.kex_code.specs.Registers.{Registers, content_of, with_content, pieces_text}

-- the output, the open buffers, the innermost first, and the registers
pub record ActingState : Type 0 where
  pub out : List ℕ
  pub buffers : List (List ℕ)
  pub registers : Registers

-- bytes go to the innermost open buffer, or to the output where none is open
abbrev pub after_append : List ℕ → List ℕ → List (List ℕ) → Registers → ActingState
after_append s out [] regs = record { out = out ++ s; buffers = []; registers = regs }
after_append s out (b ∷ bs) regs = record { out = out; buffers = (b ++ s) ∷ bs; registers = regs }

abbrev pub after_drop : List ℕ → List (List ℕ) → Registers → ActingState
after_drop out [] regs = record { out = out; buffers = []; registers = regs }
after_drop out (b ∷ bs) regs = record { out = out; buffers = bs; registers = regs }

abbrev pub after_into : ℕ → List ℕ → List (List ℕ) → Registers → ActingState
after_into r out [] regs = record { out = out; buffers = []; registers = regs }
after_into r out (b ∷ bs) regs =
    record { out = out; buffers = bs; registers = with_content regs r b }

abbrev pub after_effect : Effect → ActingState → ActingState
after_effect nothing s = s
after_effect (append bytes) s = after_append bytes s.out s.buffers s.registers
after_effect open_buffer s =
    record { out = s.out; buffers = [] ∷ s.buffers; registers = s.registers }
after_effect drop_buffer s = after_drop s.out s.buffers s.registers
after_effect (into r) s = after_into r s.out s.buffers s.registers
after_effect (write r) s = after_append (content_of s.registers r) s.out s.buffers s.registers
after_effect (set_to r parts) s = record {
  out = s.out;
  buffers = s.buffers;
  registers = with_content s.registers r (pieces_text parts s.registers);
}
after_effect (add_to r parts) s = record {
  out = s.out;
  buffers = s.buffers;
  registers =
      with_content s.registers r (content_of s.registers r ++ pieces_text parts s.registers);
}

-- the steps with a code that they begin with, up to the first symbol that it lacks
abbrev pub after_steps : {S : Type 0} → List (Step S) → List Symbol → ActingState → ActingState
after_steps [] c s = s
after_steps (went e t ∷ ks) c s = after_steps ks c (after_effect e s)
after_steps (chose x t ∷ ks) [] s = s
after_steps (chose x t ∷ ks) (y ∷ c) s = after_steps ks c s
after_steps (took b t ∷ ks) [] s = s
after_steps (took b t ∷ ks) (y ∷ c) s =
    after_steps ks c (after_append (b ∷ []) s.out s.buffers s.registers)
