use Rattle.kex_top.proofs.call.answer.Goals as goal

pub returns-clause-shelf : goal.returns-clause-shelf
returns-clause-shelf g c = rw c.in_ok-command.ensures.asked c.answer_command.ensures.shelf

pub returns-clause-answers : goal.returns-clause-answers
returns-clause-answers g c = rw c.in_ok-command.ensures.asked c.answer_command.ensures.answers

pub returns-clause-reads : goal.returns-clause-reads
returns-clause-reads g c = rw c.in_ok-command.ensures.asked c.answer_command.ensures.reads

pub returns-clause-closes : goal.returns-clause-closes
returns-clause-closes g c = rw c.in_ok-command.ensures.asked c.answer_command.ensures.closes

pub returns-clause-untouched : goal.returns-clause-untouched
returns-clause-untouched g c = rw c.in_ok-command.ensures.asked c.answer_command.ensures.untouched
