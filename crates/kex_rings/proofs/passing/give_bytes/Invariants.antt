use Rattle.std.proofs.Common.{◌≡◌, length, take, map}
use Rattle.kex_rings.specs.declared.passing.TheConstants.{RUN}
use Rattle.kex_rings.specs.Items.{byte_of}
use Rattle.kex_rings.proofs.passing.give_bytes.Given as goal

abbrev pub invariant-items : goal.invariant-items
invariant-items l = record { long : length l.bytes ≡ RUN; written : take l.i l.bytes ≡ map byte_of (take l.i l.items) }
