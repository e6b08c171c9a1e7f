use Rattle.std.proofs.Common.{◌≡◌, [], drop}
use Rattle.kex_reader.specs.Spelling.{main_stage}
use Rattle.kex_reader.proofs.text.main_alone.Given as goal

abbrev pub invariant-loop-i : goal.invariant-loop-i
invariant-loop-i l = record {
  none : l.stages.items ≡ [];
  rest : main_stage l.names (drop l.i l.definitions) ≡ main_stage l.names l.definitions;
}
