use Rattle.std.proofs.Common.{◌≡◌, ◌≤◌, drop}
use Rattle.kex_tokens.specs.Values.{number_behind, decimal_value}
use Rattle.kex_tokens.proofs.values.number_value.Given as goal

abbrev pub invariant-loop-i : goal.invariant-loop-i
invariant-loop-i l = record {
  same : number_behind l.value (drop l.i l.digits) ≡ decimal_value l.digits;
  within : l.value ≤ l.most;
}
