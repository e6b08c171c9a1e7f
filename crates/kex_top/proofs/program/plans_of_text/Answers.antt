use Rattle.kex_top.proofs.program.plans_of_text.Goals as goal

pub returns-in-Err-clause-none : goal.returns-in-Err-clause-none
returns-in-Err-clause-none c = (c.in-Err.refusal, c.in-Err.ensures.refused, c.refused.ensures)
