use Rattle.std.proofs.Common.{◌≡◌, ◌++◌}
use Rattle.kex_code.specs.Codes.{Begins}
use Rattle.kex_rope.specs.Blocks.{symbols_in}
use Rattle.kex_rope.proofs.rope.Rope.copy_into.Given as goal

abbrev pub invariant-loop-block : goal.invariant-loop-block
invariant-loop-block l = record {
  all : l.code ++ symbols_in l.block-iterator ≡ l.initial.code ++ l.self;
  begins : Begins l.code l.initial.code;
}
