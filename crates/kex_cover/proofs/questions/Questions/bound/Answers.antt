use Rattle.kex_cover.proofs.AskedQuestions.{none_asked}
use Rattle.kex_cover.proofs.questions.Questions.bound.Goals as goal

pub returns-clause-kept : goal.returns-clause-kept
returns-clause-kept c = record { met = c.requires.met; answered = none_asked c.args.machine.now c.args.self.now.pairs.most c.clear.new.self.keys c.clear-2.new.self.items c.clear.ensures.empty c.clear-2.ensures.items }
