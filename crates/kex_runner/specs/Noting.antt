-- Registers whose updates are noted: what they were where the notes begin, and the updates since,
-- each with its byte.
use Rattle.std.specs.Prelude.{ℕ, List, [], ◌∷◌, map, reverse}
use Rattle.kex_code.specs.declared.symbol.Symbol.{Symbol}
use Rattle.kex_sst.specs.declared.parts.Part.{Part}
use Rattle.kex_sst.specs.Parts.{Change, parts_code}
use Rattle.kex_script.specs.declared.piece.ByteWord.{ByteWord}
use Rattle.kex_script.specs.Pieces.{code_over}
use Rattle.kex_script.specs.Scripts.{Sheet, change_at}
use Rattle.kex_runner.specs.declared.history.NotedUpdate.{NotedUpdate}
use Rattle.kex_runner.specs.declared.registers.Registers.{Registers}

-- an update, and the byte that was read
pub record ByteUpdate : Type 0 where
  pub update : Change
  pub byte : ℕ

-- the registers that an update leaves
abbrev pub next_registers : Change → ℕ → List (List Symbol) → List (List Symbol)
next_registers u b regs = map (λ xs. parts_code regs b xs) u.regs

-- the registers after each of the updates
abbrev pub registers_after : List (List Symbol) → List ByteUpdate → List (List Symbol)
registers_after base [] = base
registers_after base (n ∷ ns) = registers_after (next_registers n.update n.byte base) ns

-- what pieces spell that are kept last first
abbrev pub spelled_back : List (List Part) → List ByteWord → List Symbol
spelled_back words ps = code_over words (reverse ps)

-- registers that are settled, each in pieces that are kept last first
abbrev pub settled_of : Sheet → List (List ByteWord) → List (List Symbol)
settled_of s base = map (λ ps. spelled_back s.words ps) base

-- the update that a note names
abbrev pub update_of : Sheet → NotedUpdate → ByteUpdate
update_of s n = record { update = change_at s n.update; byte = n.byte }

abbrev pub updates_of : Sheet → List NotedUpdate → List ByteUpdate
updates_of s notes = map (λ n. update_of s n) notes

-- what registers hold after notes
abbrev pub noted_by : Sheet → List (List ByteWord) → List NotedUpdate → List (List Symbol)
noted_by s base notes = registers_after (settled_of s base) (updates_of s notes)

-- what the registers hold
abbrev pub contents : Sheet → Registers → List (List Symbol)
contents s r = noted_by s r.base.items r.notes.items
