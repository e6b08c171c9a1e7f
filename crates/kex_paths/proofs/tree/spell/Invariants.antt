use Rattle.std.proofs.Common.{ℕ, ◌*◌, ◌-◌, List, Some, length}
use Rattle.kex_model.specs.Labelled.{Grown}
use Rattle.kex_sst.specs.declared.parts.Part.{Part}
use Rattle.kex_paths.specs.Forests.{LeadsToTree}
use Rattle.kex_paths.specs.Spellings.{IsSpelled}
use Rattle.kex_paths.specs.Updates.{AreLabels}
use Rattle.kex_paths.proofs.tree.spell.Given as goal

abbrev pub invariant-loop-number : goal.invariant-loop-number
invariant-loop-number l = (a : Grown Part ℕ) → LeadsToTree l.edges (Some l.root) (Some a) → (xs : List (List Part)) × AreLabels l.edges.cells l.labels.items xs × IsSpelled l.edges a l.shape.items l.leaves.items xs l.pending.items

-- each edge is followed once, and spells a node
abbrev pub decreases-loop-number : goal.decreases-loop-number
decreases-loop-number l = 2 * length l.machine.nodes - length l.shape.items
