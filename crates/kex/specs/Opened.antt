-- What was read of an opened file.

use Rattle.std.specs.Prelude.{ℕ, List, Option}
use Rattle.std.specs.Io.KnownBytes.{Consumes, IsAtEnd}

--- the bytes that the reads of some opened file gave, up to its end
abbrev pub IsWholeText : {File : Type 0} → (File → Option (List ℕ)) → List ℕ → Type 0
IsWholeText {File} remaining text = (opened : File) × (ended : File)
    × Consumes (remaining opened) (remaining ended) text × IsAtEnd (remaining ended)
