use Rattle.kex_single.proofs.Testers.{test_reads}
use Rattle.kex_single.proofs.tester.TestWorkerWorker.go_on.Goals as goal

pub returns-clause-reads : goal.returns-clause-reads
returns-clause-reads c = λ w text follows.
    let g = c.args.self.now.matcher.machine in
    let fed = c.feed.ensures.fed w follows.0 in
    test_reads g c.feed.new.self c.feed.ensures.machine w text c.args.piece.now c.args._out.now.items follows.2 fed.0 c.feed.result c.dead_at.result c.dead_at.ensures fed.1
