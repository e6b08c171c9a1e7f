use Rattle.std.proofs.Common.{◌≡◌, map, take}
use Rattle.kex_sst.specs.Parts.{parts_code}
use Rattle.kex_runner.specs.Noting.{contents, settled_of}
use Rattle.kex_runner.proofs.registers.Registers.read_lists.Given as goal

abbrev pub invariant-lists : goal.invariant-lists
invariant-lists l = record {
  read : settled_of l.script l.all.items ≡ map (λ xs. parts_code (contents l.script l.initial.self) 0 xs) (take l.list-index l.lists);
  same : contents l.script l.self ≡ contents l.script l.initial.self;
  count : l.self.count ≡ l.initial.self.count;
}
