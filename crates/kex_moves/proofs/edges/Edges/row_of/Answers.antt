use Rattle.kex_moves.proofs.AddedRows.{widens_none}
use Rattle.kex_moves.proofs.edges.Edges.row_of.Goals as goal

pub returns-in-Some-clause-wider : goal.returns-in-Some-clause-wider
returns-in-Some-clause-wider c = widens_none c.args.self.now c.args.state c.args.node
