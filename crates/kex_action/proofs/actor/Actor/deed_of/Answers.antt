use Rattle.std.proofs.Common.{◌≡◌, ℕ, subst}
use Rattle.kex_model.specs.Acting.{ActingState}
use Rattle.kex_action.specs.Actions.{after_action}
use Rattle.kex_action.specs.Deeds.{after_deed}
use Rattle.kex_action.proofs.actor.Actor.deed_of.Goals as goal

pub returns : goal.returns
returns c = subst (λ q. (b : ℕ) (s : ActingState) → after_deed q.machine.nodes b c.deed_of.result s ≡ after_action q.machine.nodes b c.args.action s) c.self.view_is c.deed_of.ensures
