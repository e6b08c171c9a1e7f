-- Updates whose lists are labels by number.
use Rattle.std.specs.Prelude.{◌≡◌, ℕ, List, [], ◌∷◌}
use Rattle.kex_sst.specs.declared.parts.Part.{Part}
use Rattle.kex_sst.specs.Parts.{Change}
use Rattle.kex_paths.specs.declared.forest.LabelCell.{LabelCell}
use Rattle.kex_paths.specs.Forests.{EdgeStock, IsLabel}

-- the labels of these numbers, each at its place
abbrev pub AreLabels : List LabelCell → List ℕ → List (List Part) → Type 0
AreLabels cells [] [] = Unit {0}
AreLabels cells [] (x ∷ xs) = ⊥
AreLabels cells (n ∷ ns) [] = ⊥
AreLabels cells (n ∷ ns) (x ∷ xs) = IsLabel cells n x × AreLabels cells ns xs

-- each number is that of a label
abbrev pub HasLists : EdgeStock → ℕ → List ℕ → Type 0
HasLists edges out labels = ((x : List Part) × IsLabel edges.cells out x)
    × ((xs : List (List Part)) × AreLabels edges.cells labels xs)

-- the update passes on the first label, and gives the registers the others
abbrev pub IsUpdateOf : EdgeStock → ℕ → List ℕ → Change → Type 0
IsUpdateOf edges out labels u = (x : List Part) (xs : List (List Part))
    → IsLabel edges.cells out x → AreLabels edges.cells labels xs → (u.out ≡ x) × (u.regs ≡ xs)
