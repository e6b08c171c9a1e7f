use Rattle.std.proofs.Common.{sym, ◌∙◌}
use Rattle.kex_top.proofs.CompleteRuns.{completes, done-as-told}
use Rattle.kex_top.proofs.call.kex.Goals as goal

pub returns-clause-complete : goal.returns-clause-complete
returns-clause-complete g c = λ good.
    rw c.status_of-status.ensures (completes _ _ _ _ _ _ _ c.answer.ensures.shelf c.answer.ensures.answers good)

pub returns-clause-headline : goal.returns-clause-headline
returns-clause-headline g c = λ asked limit text input before command runs told rest held done.
    done-as-told asked limit _ _ _ _ _ _ text input before command runs told rest held (sym c.status_of-status.ensures ∙ done) c.answer.ensures.answers
