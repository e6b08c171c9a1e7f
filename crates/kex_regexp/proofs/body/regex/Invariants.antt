-- The loop has read a front of the bytes.
use Rattle.std.proofs.Common.{◌≡◌, ◌+◌, take, Some, None}
use Rattle.kex_regexp.specs.Holding.{IsHeld, IsSetIn, ShowsState}
use Rattle.kex_regexp.specs.Machine.{State, state_after, start}
use Rattle.kex_regexp.specs.Notes.{least_from, marks, state_breaks}
use Rattle.kex_regexp.specs.Parents.{NoneLost}
use Rattle.kex_regexp.specs.Shown.{Adds}
use Rattle.kex_regexp.proofs.body.regex.Given as goal

abbrev pub invariant-loop-byte : goal.invariant-loop-byte
invariant-loop-byte l = record {
  adds : Adds l.fn.into l.into;
  nodes : NoneLost l.fn.into l.into (λ n. ⊥) (IsHeld l.constructs.items l.wait);
  place : l.place ≡ l.at + l.byte-index;
  state : State;
  reads : state_after start (take l.byte-index l.bytes) ≡ Some state;
  stands : ShowsState l.into l.at l.constructs.items l.wait state;
  set : IsSetIn l.set state.mode;
  nested : l.nested ≡ l.depth + marks state.entries;
  least : l.least ≡ least_from None (state_breaks l.at l.depth state);
}
