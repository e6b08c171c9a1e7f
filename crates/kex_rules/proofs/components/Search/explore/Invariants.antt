use Rattle.std.proofs.Common.{[]}
use Rattle.kex_rules.specs.Searches.{Searching, StaysMet, work}
use Rattle.kex_rules.proofs.components.Search.explore.Given as goal

abbrev pub invariant-bounds : goal.invariant-bounds
invariant-bounds l = record { search : Searching l.program [] l.self; met : StaysMet l.fn.self l.self }

abbrev pub decreases-bounds : goal.decreases-bounds
decreases-bounds l = work l.self
