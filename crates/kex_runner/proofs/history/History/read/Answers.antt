use Rattle.kex_runner.specs.Noting.{settled_of, updates_of}
use Rattle.kex_runner.proofs.LookUps.{read_empty}
use Rattle.kex_runner.proofs.history.History.read.Goals as goal

pub returns-in-None-clause-read : goal.returns-in-None-clause-read
returns-in-None-clause-read c =
    let s = c.args.self.now.script.now in
    read_empty s (settled_of s c.args.self.now.base.now) (updates_of s c.args.self.now.notes.now) c.args.unread c.args.reading.now.pending.items _ c.args.reading.now.back.items c.in-None.ensures.tail c.or_pop.ensures.all
