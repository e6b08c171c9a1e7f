-- The bytes of a part of a line.
use Rattle.std.specs.Prelude.{ℕ, List, decimal}
use Rattle.kex_words.specs.declared.parts.LinePart.{LinePart}
use Rattle.kex_words.specs.declared.parts.LinePart.TheVariants.{Text, Number}

abbrev pub part_bytes : LinePart → List ℕ
part_bytes (Text text) = text.now
part_bytes (Number number) = decimal number
