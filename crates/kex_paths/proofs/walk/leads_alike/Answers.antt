use Rattle.kex_paths.proofs.Alikes.{set_alike}
use Rattle.kex_paths.proofs.walk.leads_alike.Goals as goal

pub returns-in-Read : goal.returns-in-Read
returns-in-Read c = set_alike _ c.in-Read.set c.in-Read.field-1 c.args.byte c.args.other _ _ _ c.node_at.ensures c.in-Read.is c.has.ensures c.has-in-Read.ensures
