use Rattle.std.proofs.Common.{take}
use Rattle.kex_cover.specs.Searches.{AreWaiting}
use Rattle.kex_part_tests.proofs.waiting.all_wait.Given as goal

abbrev pub invariant-places : goal.invariant-places
invariant-places l = AreWaiting l.machine (take l.place-index l.places)
