-- Which nodes of a program a definition reaches.
use Rattle.std.specs.Prelude.{◌≡◌, ℕ, List, [], ◌∷◌, Some, slice_get}
use Rattle.kex_code.specs.Codes.{IsAmong}
use Rattle.kex_model.specs.Programs.{Grammar}
use Rattle.kex_model.specs.declared.program.Node.{Node}
use Rattle.kex_model.specs.declared.program.Definition.{Definition as Root}
use Rattle.kex_regexp.specs.Parents.{HasChild}

-- these nodes, from node n's parent up, lead to the root of a definition
unfoldable pub LeadsUp : Grammar → List ℕ → ℕ → Type 0
LeadsUp P [] n = (d : Root) × IsAmong P.definitions d × (n ≡ d.root)
LeadsUp P (m ∷ ms) n = (v : Node) × (slice_get P.nodes m ≡ Some v) × HasChild v.kind n
    × LeadsUp P ms m

abbrev pub IsReached : Grammar → ℕ → Type 0
IsReached P n = (ms : List ℕ) × LeadsUp P ms n
