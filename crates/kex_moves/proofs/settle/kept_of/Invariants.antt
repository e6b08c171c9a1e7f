use Rattle.std.proofs.Common.{ℕ, take}
use Rattle.kex_model.specs.Acting.{ActingState}
use Rattle.kex_action.specs.Actions.{after_actions}
use Rattle.kex_moves.specs.Drafts.{KeepsActions}
use Rattle.kex_moves.proofs.settle.kept_of.Given as goal

abbrev pub invariant-loop-action : goal.invariant-loop-action
invariant-loop-action l = (b : ℕ) (s : ActingState) → KeepsActions l.machine.nodes l.kept.items l.place b s (after_actions l.machine.nodes b (take l.action-index l.actions) s)
