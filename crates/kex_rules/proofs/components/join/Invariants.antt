use Rattle.std.proofs.Common.{ℕ, ◌<◌, ◌≤◌, length}
use Rattle.kex_code.specs.Codes.{HasNumber}
use Rattle.kex_rules.specs.declared.components.Bound.{Bound}
use Rattle.kex_rules.proofs.components.join.Given as goal

abbrev pub invariant-bounds : goal.invariant-bounds
invariant-bounds l = record { within : l.kept ≤ length l.bounds.items; above : (k : ℕ) (b : Bound) → l.kept ≤ k → HasNumber l.bounds.items b k → l.place < b.path }

abbrev pub decreases-bounds : goal.decreases-bounds
decreases-bounds l = l.kept
