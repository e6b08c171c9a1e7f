use Rattle.std.proofs.Common.{subst}
use Rattle.kex_script.specs.Pieces.{code_over}
use Rattle.kex_moves.specs.Speech.{PerformsSaid, RefusesCode}
use Rattle.kex_moves.proofs.phrases.Phrases.say.Goals as goal

pub returns-clause-performs : goal.returns-clause-performs
returns-clause-performs c = λ yes. subst (λ o. PerformsSaid c.args.actor.now c.tell.new.actor (code_over o.words c.args.pieces.now) c.args.out.now.items c.tell.new.out.items) c.self.view_is (subst (λ w. PerformsSaid c.args.actor.now c.tell.new.actor (code_over w c.args.pieces.now) c.args.out.now.items c.tell.new.out.items) c.deref.ensures.value ((c.in_ok-all.ensures {u = tt}).performs yes))

pub returns-clause-refused : goal.returns-clause-refused
returns-clause-refused c = λ no. subst (λ o. RefusesCode c.args.actor.now (code_over o.words c.args.pieces.now)) c.self.view_is (subst (λ w. RefusesCode c.args.actor.now (code_over w c.args.pieces.now)) c.deref.ensures.value ((c.in_ok-all.ensures {u = tt}).refused no))
