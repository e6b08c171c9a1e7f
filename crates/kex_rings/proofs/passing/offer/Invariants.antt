use Rattle.std.proofs.Common.{◌≡◌, take, map}
use Rattle.kex_model.specs.Schedules.{byte}
use Rattle.kex_rings.specs.Items.{items_as}
use Rattle.kex_rings.proofs.passing.offer.Given as goal

abbrev pub invariant-bytes : goal.invariant-bytes
invariant-bytes l = items_as (take l.i l.run) ≡ map byte (take l.i l.bytes)
