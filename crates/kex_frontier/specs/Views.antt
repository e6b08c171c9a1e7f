-- Edges as the code has them.
use Rattle.std.specs.Prelude.{List, map}
use Rattle.kex_frontier.specs.Edges.{Edge}
use Rattle.kex_frontier.specs.declared.forest.TreeEdge.{TreeEdge}

abbrev pub edge_of : TreeEdge → Edge
edge_of t = record { label = t.label.items; at = t.at }

abbrev pub edges_at : List TreeEdge → List Edge
edges_at ts = map edge_of ts
