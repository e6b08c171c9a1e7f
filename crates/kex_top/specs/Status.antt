-- What a status says.
use Rattle.std.specs.Prelude.{ℕ, Bool, true, false}
use Rattle.kex_pipe.specs.declared.turn.Why.{Why}
use Rattle.kex_pipe.specs.declared.turn.Why.TheVariants.{Byte, End, Limit}
use Rattle.kex_words.specs.declared.notes.Note.{Note}
use Rattle.kex_words.specs.declared.notes.Note.TheVariants as note
use Rattle.kex_top.specs.declared.status.Status.{Status}
use Rattle.kex_top.specs.declared.status.Status.TheVariants.{Done, Rejected, Usage, Refused}
use Rattle.kex_top.specs.declared.status.Status.TheVariants.{ReadFault, WriteFault, ShelfFault}
use Rattle.kex_top.specs.declared.status.Status.TheVariants.{Memory, TooLong, InputTooLong}

abbrev pub status_number : Status → ℕ
status_number Done = 0
status_number (Rejected r) = 1
status_number Usage = 2
status_number (Refused r) = 3
status_number ReadFault = 4
status_number WriteFault = 5
status_number ShelfFault = 6
status_number Memory = 7
status_number (TooLong r) = 8
status_number InputTooLong = 8

abbrev pub is_at_end : Why → Bool
is_at_end Byte = false
is_at_end End = true
is_at_end Limit = false

abbrev pub note_of : Status → Note
note_of Done = note.Nothing
note_of (Rejected r) = note.Rejected r.stage r.at (is_at_end r.why)
note_of Usage = note.Usage
note_of (Refused r) = note.Refused r
note_of ReadFault = note.ReadFault
note_of WriteFault = note.WriteFault
note_of ShelfFault = note.ShelfFault
note_of Memory = note.Memory
note_of (TooLong r) = note.TooLong r.stage r.at
note_of InputTooLong = note.InputTooLong
