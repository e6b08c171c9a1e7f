-- What a history stands for.
use Rattle.std.specs.Prelude.{ℕ, List, take}
use Rattle.kex_code.specs.declared.symbol.Symbol.{Symbol}
use Rattle.kex_runner.specs.Noting.{ByteUpdate, registers_after, settled_of, updates_of}
use Rattle.kex_runner.specs.declared.history.History.{History}

-- what the registers were where the notes begin
abbrev pub base_of : History → List (List Symbol)
base_of h = settled_of h.script.now h.base.now

-- the updates since, each with its byte
abbrev pub noted_in : History → List ByteUpdate
noted_in h = updates_of h.script.now h.notes.now

-- what the registers hold after the first k notes
abbrev pub contents_at : History → ℕ → List (List Symbol)
contents_at h k = registers_after (base_of h) (take k (noted_in h))

-- what they hold after all notes
abbrev pub contents_after : History → List (List Symbol)
contents_after h = registers_after (base_of h) (noted_in h)
