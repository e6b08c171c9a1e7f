use Rattle.std.proofs.Common.{◌≡◌, ◌++◌, take}
use Rattle.kex_held.specs.Tracks.{own_all}
use Rattle.kex_held.proofs.track.note.Given as goal

abbrev pub invariant-actions : goal.invariant-actions
invariant-actions l = record {
  links : l.links.items ≡ l.fn.links.items ++ own_all (take l.action-index l.actions);
}
