use Rattle.std.proofs.Common.{◌≡◌, ◌++◌, take}
use Rattle.kex_chunks.proofs.drafts.push_all.Given as goal

abbrev pub invariant-loop-part : goal.invariant-loop-part
invariant-loop-part l = l.list ≡ l.initial.list ++ take l.part-index l.parts
