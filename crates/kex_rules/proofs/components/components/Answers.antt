use Rattle.std.proofs.Common.{arith}
use Rattle.kex_rules.specs.Graphs.{vertices, vertex_successors}
use Rattle.kex_rules.proofs.LastComponent.{parted}
use Rattle.kex_rules.proofs.components.components.Goals as goal

pub returns : goal.returns
returns c =
    parted (vertex_successors c.args.program.now) (vertices c.args.program.now) c.vertices.search.marks.items c.vertices.search.path.items c.vertices.search.ahead.items c.vertices.search.bounds.items c.vertices.search.closed c.vertices.invariant.search c.vertices.invariant.bounds
    (λ v lt. c.vertices.invariant.met v (omega (arith, c.vertices-test.false, c.len-v-end.ensures, c.in_ok-search.search.marks.ok.0, c.in_ok-search.ensures.search.long)))
