-- What a call leaves of the calls to its source and its sink, by its answer.
use Rattle.std.specs.Prelude.{◌≡◌, ◌⊎◌, ℕ, true, Option, Some, None}
use Rattle.kex_ports.specs.Endings.{Ending, counts_of, after_finish, finishes_of}
use Rattle.kex_ports.specs.Reads.{Asks, Reads}
use Rattle.kex_top.specs.Run.{is_whole}
use Rattle.kex_top.specs.declared.status.Status.{Status}
use Rattle.kex_top.specs.declared.status.Status.TheVariants.{Done, Rejected, Usage, Refused}
use Rattle.kex_top.specs.declared.status.Status.TheVariants.{ReadFault, WriteFault, ShelfFault}
use Rattle.kex_top.specs.declared.status.Status.TheVariants.{Memory, TooLong, InputTooLong}

-- Where all was written, the sink was finished once, and that was the last call to it. After a
-- failed write it wasn't finished; or all writes were taken, and to finish it failed.
abbrev pub Closes : Option Ending → Option Ending → Status → Type 0
Closes before now Done = now ≡ after_finish before
Closes before now (Rejected r) = now ≡ after_finish before
Closes before now (TooLong r) = now ≡ after_finish before
Closes before now InputTooLong = now ≡ after_finish before
Closes before now ReadFault = now ≡ after_finish before
Closes before now WriteFault = (finishes_of now ≡ finishes_of before) ⊎ (now ≡ after_finish before)
Closes before now Memory = finishes_of now ≡ finishes_of before
Closes before now Usage = now ≡ before
Closes before now (Refused r) = now ≡ before
Closes before now ShelfFault = now ≡ before

-- Nothing is read before the program is accepted, and each read asks for a whole block.
abbrev pub ReadsBlocks : ℕ → Option Reads → Option Reads → Status → Type 0
ReadsBlocks block before now Usage = now ≡ before
ReadsBlocks block before now (Refused r) = now ≡ before
ReadsBlocks block before now ShelfFault = now ≡ before
ReadsBlocks block before now _ = Asks block before now

-- The same of a command whose reads ask for this many bytes, or that makes none.
abbrev pub ReadsBy : Option ℕ → Option Reads → Option Reads → Status → Type 0
ReadsBy None before now status = now ≡ before
ReadsBy (Some block) before now status = ReadsBlocks block before now status

-- The sink before it is finished.
abbrev pub IsSinkOpen : Option Ending → Option Ending → Status → Type 0
IsSinkOpen before now status = (finishes_of now ≡ finishes_of before)
    × (is_whole status ≡ true → counts_of now ≡ counts_of before)
