use Rattle.std.proofs.Common.{◌≡◌, [], replicate}
use Rattle.kex_action.proofs.store.Store.new.Given as goal

abbrev pub invariant-loop : goal.invariant-loop
invariant-loop l = l.registers.items ≡ replicate l.counter []
