use Rattle.std.proofs.Common.{sym, subst}
use Rattle.std.proofs.lemmas.Result.{IfOk-weaker}
use Rattle.kex_pipeline.specs.Sayings.{AlwaysAnswers}
use Rattle.kex_single.specs.Singles.{MachineCodeAnswers, Single}
use Rattle.kex_single.specs.contracts.coder.CoderTurn.TheImpl.{ghosts}
use Rattle.kex_words.specs.Words.Mode.{coding}
use Rattle.kex_top.proofs.CallAnswers.{ran_single}
use Rattle.kex_top.proofs.AnswerExistence.{code-answers}
use Rattle.kex_top.proofs.single.code.Goals as goal

pub run_one-requires-clause-answers : goal.run_one-requires-clause-answers
run_one-requires-clause-answers g c = λ κs bounds by_parts. subst (λ p. AlwaysAnswers ghosts.gives p) (sym c.in_ok-coder.ensures.plan) (λ w e. code-answers _ c.args.limits.max_input c.nodes-nodes.ensures.in_range c.nodes-nodes.ensures.trimmed w e)

pub returns-clause-ran : goal.returns-clause-ran
returns-clause-ran g c =
    IfOk-weaker _ _ _ (ran_single (λ p w e a. ghosts.gives p w e a) (ghosts.plan c.in_ok-coder.coder) coding c.args.limits.max_input c.args.machine.now _ _ _
    (λ w e a h. subst (λ (q : Single). MachineCodeAnswers q.machine q.limit w e a) c.in_ok-coder.ensures.plan h)
    (λ w e a h. subst (λ (q : Single). MachineCodeAnswers q.machine q.limit w e a) (sym c.in_ok-coder.ensures.plan) h)
    ) c.run_one.ensures.ran
