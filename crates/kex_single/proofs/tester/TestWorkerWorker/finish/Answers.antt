use Rattle.kex_single.proofs.Testers.{test_ends}
use Rattle.kex_single.proofs.tester.TestWorkerWorker.finish.Goals as goal

pub returns-clause-ends : goal.returns-clause-ends
returns-clause-ends c = λ w text follows.
    test_ends c.args.self.now.matcher.machine w text c.args._out.now.items c.end.result follows.2 follows.1 (c.end.ensures w follows.0)
