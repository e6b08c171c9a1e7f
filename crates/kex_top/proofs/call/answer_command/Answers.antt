use Rattle.std.proofs.Common.{refl}
use Rattle.kex_top.proofs.call.answer_command.Goals as goal

pub returns-in-Check-clause-answers : goal.returns-in-Check-clause-answers
returns-in-Check-clause-answers g c = rw c.in-Check.is (c.answer_check.ensures.answers _ _ (refl, refl))

pub returns-in-Trial-clause-answers : goal.returns-in-Trial-clause-answers
returns-in-Trial-clause-answers g c = rw c.in-Trial.is (c.answer_trial.ensures.answers _ _ _ (refl, refl))

pub returns-in-Compile-clause-answers : goal.returns-in-Compile-clause-answers
returns-in-Compile-clause-answers g c = rw c.in-Compile.is (c.answer_compile.ensures.answers _ _ (refl, refl))
