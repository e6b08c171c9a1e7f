use Rattle.std.proofs.Common.{sym, subst}
use Rattle.std.proofs.lemmas.Result.{IfOk-weaker}
use Rattle.kex_single.specs.Plays.{MachineActAnswers}
use Rattle.kex_single.specs.Singles.{Single}
use Rattle.kex_single.specs.contracts.player.PlayerTurn.TheImpl.{ghosts}
use Rattle.kex_words.specs.Words.Mode.{acting}
use Rattle.kex_top.proofs.CallAnswers.{ran_single}
use Rattle.kex_top.proofs.single.act.Goals as goal

pub returns-clause-ran : goal.returns-clause-ran
returns-clause-ran g c =
    IfOk-weaker _ _ _ (ran_single (λ p w e a. ghosts.gives p w e a) (ghosts.plan c.in_ok-player.player) acting c.args.limits.max_input c.args.machine.now _ _ _
    (λ w e a h. subst (λ (q : Single). MachineActAnswers q.machine q.limit w e a) c.in_ok-player.ensures.plan h)
    (λ w e a h. subst (λ (q : Single). MachineActAnswers q.machine q.limit w e a) (sym c.in_ok-player.ensures.plan) h)
    ) c.run_one.ensures.ran
