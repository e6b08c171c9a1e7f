use Rattle.std.proofs.Common.{◌≡◌, ℕ, ◌≤◌, length, find, ◌==◌, drop, nat_eq}
use Rattle.std.specs.Option.{option_map}
use Rattle.indexmap.specs.IndexMap.{get}
use Rattle.kex_desugar.proofs.roots.roots_by_name.Given as goal

abbrev pub invariant-loop-left : goal.invariant-loop-left
invariant-loop-left l = record { within : l.left ≤ length l.definitions; has : (name : ℕ) → get nat_eq l.roots name ≡ option_map (λ d. d.root) (find (λ d. d.name == name) (drop l.left l.definitions)) }

abbrev pub decreases-loop-left : goal.decreases-loop-left
decreases-loop-left l = l.left
