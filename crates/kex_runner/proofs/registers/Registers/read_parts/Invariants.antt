use Rattle.std.proofs.Common.{◌≡◌, ◌≤◌, drop, length}
use Rattle.kex_sst.specs.Parts.{parts_code}
use Rattle.kex_runner.specs.Noting.{contents, spelled_back}
use Rattle.kex_runner.proofs.registers.Registers.read_parts.Given as goal

abbrev pub invariant-parts : goal.invariant-parts
invariant-parts l = record {
  within : l.left ≤ length l.parts;
  read : spelled_back l.script.words l.pieces.items ≡ parts_code (contents l.script l.initial.self) 0 (drop l.left l.parts);
  same : contents l.script l.self ≡ contents l.script l.initial.self;
  count : l.self.count ≡ l.initial.self.count;
}

abbrev pub decreases-parts : goal.decreases-parts
decreases-parts l = l.left
