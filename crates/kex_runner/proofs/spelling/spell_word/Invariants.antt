use Rattle.std.proofs.Common.{◌≡◌, ◌++◌, [], take}
use Rattle.kex_sst.specs.Parts.{parts_code}
use Rattle.kex_runner.proofs.spelling.spell_word.Given as goal

abbrev pub invariant-loop-part : goal.invariant-loop-part
invariant-loop-part l = l.code ≡ l.initial.code ++ parts_code [] l.byte (take l.part-index l.word)
