use Rattle.kex_determine.proofs.determine.Goals as goal

pub returns-clause-determined : goal.returns-clause-determined
returns-clause-determined c = c.in_ok-table.ensures.determined.0
