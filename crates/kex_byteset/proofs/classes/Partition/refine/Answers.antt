use Rattle.kex_byteset.proofs.classes.Partition.refine.Goals as goal

pub invariant_of-self : goal.invariant_of-self
invariant_of-self c = c.parted-self-inside.ensures.numbered

pub returns-clause-refined : goal.returns-clause-refined
returns-clause-refined c = rw (← c.self.view_is) c.parted-self-inside.ensures.refined
