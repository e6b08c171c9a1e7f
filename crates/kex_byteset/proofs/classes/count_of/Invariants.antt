use Rattle.std.proofs.Common.{◌≡◌, ◌≤◌, take}
use Rattle.kex_byteset.specs.Classes.{class_count}
use Rattle.kex_byteset.proofs.classes.count_of.Given as goal

abbrev pub invariant-loop-class : goal.invariant-loop-class
invariant-loop-class l = record {
  counted : l.count ≡ class_count (take l.class-index l.classes);
  few : l.count ≤ 256;
}
