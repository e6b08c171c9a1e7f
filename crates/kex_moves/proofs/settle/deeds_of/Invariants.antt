use Rattle.std.proofs.Common.{◌≡◌, ℕ, take}
use Rattle.kex_model.specs.Acting.{ActingState}
use Rattle.kex_action.specs.Actions.{after_actions}
use Rattle.kex_action.specs.Deeds.{after_deeds}
use Rattle.kex_moves.proofs.settle.deeds_of.Given as goal

abbrev pub invariant-loop-action : goal.invariant-loop-action
invariant-loop-action l = (b : ℕ) (s : ActingState) → after_deeds l.machine.nodes b l.deeds.items s ≡ after_actions l.machine.nodes b (take l.action-index l.actions) s
