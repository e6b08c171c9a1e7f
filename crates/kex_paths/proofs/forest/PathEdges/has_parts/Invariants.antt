use Rattle.std.proofs.Common.{◌≡◌, ◌++◌, List, take}
use Rattle.kex_sst.specs.declared.parts.Part.{Part}
use Rattle.kex_paths.specs.Forests.{IsLabel}
use Rattle.kex_paths.proofs.forest.PathEdges.has_parts.Given as goal

abbrev pub invariant-loop-part : goal.invariant-loop-part
invariant-loop-part l = (xs : List Part) → IsLabel l.self.cells l.label xs → (rest : List Part) × IsLabel l.self.cells l.left rest × (take l.part-index l.parts ++ rest ≡ xs)
