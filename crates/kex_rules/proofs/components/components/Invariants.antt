use Rattle.std.proofs.Common.{◌≡◌, ℕ, ◌<◌, [], get_or}
use Rattle.kex_rules.specs.Searches.{Searching}
use Rattle.kex_rules.specs.declared.components.Mark.TheVariants.{Unseen}
use Rattle.kex_rules.proofs.components.components.Given as goal

abbrev pub invariant-vertices : goal.invariant-vertices
invariant-vertices l = record { search : Searching l.program [] l.search; bounds : l.search.bounds.items ≡ []; met : (k : ℕ) → k < l.v → get_or l.search.marks.items k Unseen ≡ Unseen → ⊥ }
