use Rattle.std.proofs.Common.{◌≡◌, ◌++◌, drop}
use Rattle.kex_tabfile.specs.Writing.{goes_text}
use Rattle.kex_tabfile.proofs.write.write_goes.Given as goal

abbrev pub invariant-loop-class : goal.invariant-loop-class
invariant-loop-class l = l.out.items ++ goes_text l.state l.class (drop l.class l.go) ≡ l.fn.out.items ++ goes_text l.state 0 l.go
