use Rattle.std.proofs.Common.{◌≡◌, take, Some}
use Rattle.kex_reader.specs.Reading.{State, Begin, state_after}
use Rattle.kex_reader.specs.Asked.{state_checks}
use Rattle.kex_reader.specs.Holding.{InReader, ShowsState}
use Rattle.kex_reader.specs.Stands.{NotesLeast}
use Rattle.kex_reader.specs.Spelling.{offset, words}
use Rattle.kex_reader.proofs.Uses.{AllHeld}
use Rattle.kex_reader.proofs.text.parse.Given as goal

abbrev pub invariant-loop-i : goal.invariant-loop-i
invariant-loop-i l = record {
  state : State;
  reads : state_after (Some Begin) (take l.i (words l.text l.tokens)) ≡ Some state;
  shows : ShowsState l.reader.draft (offset l.text l.tokens) l.reader.stack l.reader.definitions.items l.reader.stages.items l.phase state;
  held : AllHeld l.reader.draft (InReader l.reader l.phase);
  notes : NotesLeast (state_checks (offset l.text l.tokens) state) l.reader.draft.broken;
}
