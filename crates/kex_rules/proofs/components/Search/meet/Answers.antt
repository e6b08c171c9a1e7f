use Rattle.std.proofs.Common.{◌<◌, length, sym, ◌∙◌, arith}
use Rattle.kex_rules.specs.Graphs.{vertices, vertex_successors}
use Rattle.kex_rules.specs.declared.components.Mark.TheVariants.{Unseen}
use Rattle.kex_rules.proofs.Marks.{read_any}
use Rattle.kex_rules.proofs.OpenVertices.{passed}
use Rattle.kex_rules.proofs.JoinedComponents.{joined}
use Rattle.kex_rules.proofs.components.Search.meet.Goals as goal

pub returns-in-Open-clause-search : goal.returns-in-Open-clause-search
returns-in-Open-clause-search c =
    let fits : c.args.v < length c.args.self.now.marks.items = omega (arith, c.requires.fits, c.requires.search.long) in
    joined (vertex_successors c.args.program.now) (vertices c.args.program.now) c.args.self.now.marks.items c.args.self.now.path.items c.args.self.now.ahead.items c.args.v c.args.self.now.bounds.items c.join.new.bounds.items c.args.self.now.closed c.in-Open.place c.requires.search
    (read_any c.args.self.now.marks.items c.args.v Unseen c.index.result.now fits ∙ sym c.index.ensures ∙ c.in-Open.is) c.requires.reached c.join.ensures

pub returns-in-Closed-clause-search : goal.returns-in-Closed-clause-search
returns-in-Closed-clause-search c =
    let fits : c.args.v < length c.args.self.now.marks.items = omega (arith, c.requires.fits, c.requires.search.long) in
    passed (vertex_successors c.args.program.now) (vertices c.args.program.now) c.args.self.now.marks.items c.args.self.now.path.items c.args.self.now.ahead.items c.args.v c.args.self.now.bounds.items c.args.self.now.closed c.in-Closed.field-0 c.requires.search
    (read_any c.args.self.now.marks.items c.args.v Unseen c.index.result.now fits ∙ sym c.index.ensures ∙ c.in-Closed.is)
