use Rattle.std.proofs.Common.{sym, subst}
use Rattle.std.proofs.lemmas.Result.{IfOk-weaker}
use Rattle.std.specs.Prelude.{None}
use Rattle.kex_single.specs.Singles.{Single, MachineTestAnswers}
use Rattle.kex_single.specs.contracts.tester.TesterTurn.TheImpl.{ghosts}
use Rattle.kex_words.specs.Gains.{change}
use Rattle.kex_words.specs.Words.Mode.{testing}
use Rattle.kex_top.proofs.CallAnswers.{ran_single}
use Rattle.kex_top.proofs.SilentTests.{test-left}
use Rattle.kex_top.proofs.single.test.Goals as goal

pub returns-clause-ran : goal.returns-clause-ran
returns-clause-ran g c = λ sink left.
    IfOk-weaker _ _ _ (λ s r. test-left c.args.machine.now c.args.limits.max_input _ _ sink left s
    (ran_single (λ p w e a. ghosts.gives p w e a) (ghosts.plan c.in_ok-tester.tester) testing c.args.limits.max_input c.args.machine.now _ _ (change None None 0 0)
    (λ w e a h. subst (λ (q : Single). MachineTestAnswers q.machine q.limit w e a) c.in_ok-tester.ensures.plan h)
    (λ w e a h. subst (λ (q : Single). MachineTestAnswers q.machine q.limit w e a) (sym c.in_ok-tester.ensures.plan) h) s r)) c.run_one.ensures.ran
