use Rattle.std.proofs.Common.{sym, ap}
use Rattle.std.specs.Prelude.{reverse}
use Rattle.kex_reader.specs.Stands.{open_constructs}
use Rattle.kex_reader.proofs.stack.Stack.new.Goals as goal

pub invariant_of-result : goal.invariant_of-result
unfolding open_constructs
invariant_of-result c = ap (λ xs. open_constructs (reverse xs)) (sym c.new.ensures.items)
