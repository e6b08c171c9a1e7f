use Rattle.std.proofs.Common.{ℕ, take}
use Rattle.kex_model.specs.Acting.{ActingState}
use Rattle.kex_action.specs.Actions.{after_actions}
use Rattle.kex_moves.specs.Drafts.{IsDraft, Drafts}
use Rattle.kex_moves.proofs.settle.text_of.Given as goal

abbrev pub invariant-loop-action : goal.invariant-loop-action
invariant-loop-action l = record {
  draft : IsDraft l.bytes.items l.draft;
  drafts : (b : ℕ) (s : ActingState) → Drafts l.bytes.items l.draft b s (after_actions l.machine.nodes b (take l.action-index l.actions) s);
}
