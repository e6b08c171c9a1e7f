use Rattle.std.proofs.Common.{◌≡◌, ◌++◌, [], take}
use Rattle.kex_code.specs.Texts.{text_of}
use Rattle.kex_sst.specs.Parts.{parts_code}
use Rattle.kex_single.proofs.table_codes.write_word.Given as goal

abbrev pub invariant-loop-part : goal.invariant-loop-part
invariant-loop-part l = l.out.items ≡ l.fn.out.items ++ text_of (parts_code [] l.byte (take l.part-index l.word))
