use Rattle.std.proofs.Common.{◌≡◌, ◌++◌, take}
use Rattle.kex_sst.specs.Parts.{parts_code}
use Rattle.kex_runner.specs.Noting.{contents}
use Rattle.kex_runner.proofs.registers.Registers.spell.Given as goal

abbrev pub invariant-loop-part : goal.invariant-loop-part
invariant-loop-part l = record {
  code : l.code ≡ l.initial.code ++ parts_code (contents l.script l.initial.self) 0 (take l.part-index l.way);
  same : contents l.script l.self ≡ contents l.script l.initial.self;
  count : l.self.count ≡ l.initial.self.count;
}
