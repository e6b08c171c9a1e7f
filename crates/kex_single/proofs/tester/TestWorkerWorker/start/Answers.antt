use Rattle.std.proofs.Common.{refl}
use Rattle.kex_single.proofs.Testers.{nothing_good}
use Rattle.kex_single.proofs.tester.TestWorkerWorker.start.Goals as goal

pub returns-clause-follows : goal.returns-clause-follows
returns-clause-follows c =
    let fed = c.in_ok-matcher.ensures.begins in
    (fed, nothing_good c.in_ok-matcher.matcher fed, refl)
