use Rattle.std.proofs.Common.{◌≡◌, take}
use Rattle.kex_script.proofs.interned.parts_of.Given as goal

abbrev pub invariant-loop-part : goal.invariant-loop-part
invariant-loop-part l = l.parts ≡ take l.part-index l.all
