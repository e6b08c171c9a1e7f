use Rattle.std.proofs.Common.{◌≡◌, replicate}
use Rattle.kex_held_rows.specs.declared.note.RowNote.TheVariants.{Unknown}
use Rattle.kex_held_rows.proofs.note.unknown.Given as goal

abbrev pub invariant-loop : goal.invariant-loop
invariant-loop l = l.notes.items ≡ replicate l.counter Unknown
