use Rattle.std.proofs.Common.{◌≡◌, ◌≤◌, ◌-◌, IsTrue, length, take}
use Rattle.kex_action.specs.Sheets.{IsBlank}
use Rattle.kex_script.specs.Pieces.{code_over}
use Rattle.kex_moves.specs.Known.{IsKnown}
use Rattle.kex_moves.specs.Speech.{words_table, PerformsSaid}
use Rattle.kex_moves.proofs.tell.tell.Given as goal

abbrev pub invariant-pieces : goal.invariant-pieces
invariant-pieces l = record {
  at : l.at ≤ length l.pieces;
  machine : l.actor.machine ≡ l.lexicon.machine.now;
  usable : IsTrue l.actor.usable;
  known : IsKnown (words_table l.lexicon.words.now) l.lexicon.machine.now l.notebook.edges;
  blank : IsBlank l.notebook.sheet;
  room : length l.notebook.sheet.bytes.items ≡ 86033;
  performs : PerformsSaid l.fn.actor l.actor (code_over l.lexicon.words.now (take l.at l.pieces)) l.fn.out.items l.out.items;
}

abbrev pub decreases-pieces : goal.decreases-pieces
decreases-pieces l = length l.pieces - l.at
