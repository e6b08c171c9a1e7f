use Rattle.std.proofs.Common.{◌≡◌, ◌+◌, ◌-◌, drop}
use Rattle.kex_tokens.specs.Scanning.{belongs, run}
use Rattle.kex_tokens.proofs.runs.run_length.Given as goal

abbrev pub invariant-loop-i : goal.invariant-loop-i
invariant-loop-i l = (l.i - l.from) + run (belongs l.run) (drop l.i l.text) ≡ run (belongs l.run) (drop l.from l.text)
