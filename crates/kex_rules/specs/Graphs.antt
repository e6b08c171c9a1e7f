-- The graph of a program: its nodes and, after them, its names. A node leads to its parts, a call
-- to its name, a name to its root.
use Rattle.std.specs.Prelude.{◌≡◌, ℕ, ◌<◌, ◌≤◌, ◌+◌, ◌-◌, List, [], ◌∷◌, Option, Some, None, length}
use Rattle.std.specs.Prelude.{get_or, slice_get}
use Rattle.kex_code.specs.Codes.{IsAmong}
use Rattle.kex_model.specs.declared.program.Kind.{Kind}
use Rattle.kex_model.specs.declared.program.Kind.TheVariants.{Call, Seq, Alt, Rep, Mute, At}
use Rattle.kex_model.specs.declared.program.Node.{Node}
use Rattle.kex_model.specs.Programs.{Grammar}
use Rattle.kex_rules.specs.Tables.{first_root}
use Rattle.kex_rules.specs.declared.graph.VertexSuccessors.{VertexSuccessors}
use Rattle.kex_rules.specs.declared.graph.VertexSuccessors.TheVariants.{NoWay, One, Two}
use Rattle.kex_rules.specs.declared.components.Mark.{Mark}
use Rattle.kex_rules.specs.declared.components.Mark.TheVariants.{Unseen, Closed}

abbrev pub successor_list : VertexSuccessors → List ℕ
successor_list NoWay = []
successor_list (One t) = t ∷ []
successor_list (Two l r) = l ∷ r ∷ []

-- where a node of a kind leads, with this number of nodes before the names
abbrev pub kind_successors : ℕ → Kind → List ℕ
kind_successors nodes (Call name) = (nodes + name) ∷ []
kind_successors nodes (Seq l r) = l ∷ r ∷ []
kind_successors nodes (Alt l r) = l ∷ r ∷ []
kind_successors nodes (Rep body min max lazy) = body ∷ []
kind_successors nodes (Mute t) = t ∷ []
kind_successors nodes (At r t) = t ∷ []
kind_successors nodes _ = []

abbrev pub root_successors : Option ℕ → List ℕ
root_successors None = []
root_successors (Some root) = root ∷ []

-- the same, of what has this number among the nodes
abbrev pub successors_by : Grammar → ℕ → Option Node → List ℕ
successors_by P v (Some m) = kind_successors (length P.nodes) m.kind
successors_by P v None = root_successors (first_root P.definitions (v - length P.nodes))

-- where a vertex leads
abbrev pub vertex_successors : Grammar → ℕ → List ℕ
vertex_successors P v = successors_by P v (slice_get P.nodes v)

abbrev pub vertices : Grammar → ℕ
vertices P = length P.nodes + length P.names

-- one vertex leads to another by none or more ways
pub data Leads (f : ℕ → List ℕ) : ℕ → ℕ → Type 0 where
  stays : {u : ℕ} → Leads f u u
  goes : {u v w : ℕ} → IsAmong (f u) v → Leads f v w → Leads f u w

-- the marks number the strongly connected components: those of one number lead to each other, and
-- no way leads to a higher number
pub record AreComponents (f : ℕ → List ℕ) (count : ℕ) (marks : List Mark) : Type 0 where
  pub long : length marks ≡ count
  pub all : (v : ℕ) → v < count → (a : ℕ) × (get_or marks v Unseen ≡ Closed a)
  pub falls : (u a w : ℕ) → get_or marks u Unseen ≡ Closed a → IsAmong (f u) w → (b : ℕ)
      × (get_or marks w Unseen ≡ Closed b) × (b ≤ a)
  pub same : (u v a : ℕ) → get_or marks u Unseen ≡ Closed a → get_or marks v Unseen ≡ Closed a
      → Leads f u v
