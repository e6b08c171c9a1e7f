use Rattle.std.proofs.Common.{take}
use Rattle.kex_script.specs.Pages.{AreSound, AreStatesWritten, PagesGrow}
use Rattle.kex_script.proofs.writer.Writer.write_states.Given as goal

abbrev pub invariant-loop-state : goal.invariant-loop-state
invariant-loop-state l = record {
  states : AreStatesWritten l.self l.all (take l.state-index l.states);
  sound : AreSound l.self;
  grown : PagesGrow l.initial.self l.self;
}
