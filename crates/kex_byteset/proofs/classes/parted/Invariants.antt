use Rattle.std.proofs.Common.{true, false}
use Rattle.kex_byteset.proofs.Partitions.{IsBegun, AreNumbers}
use Rattle.kex_byteset.proofs.classes.parted.Given as goal

abbrev pub invariant-loop-byte : goal.invariant-loop-byte
invariant-loop-byte l = record {
  begun : IsBegun l.old l.set l.new l.byte l.count;
  within : AreNumbers l.old l.set l.new l.byte true l.within;
  outside : AreNumbers l.old l.set l.new l.byte false l.outside;
}
