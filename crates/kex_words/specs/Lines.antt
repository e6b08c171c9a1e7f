-- The line that a call leaves in the notes, and lines of counts.
use Rattle.std.specs.Prelude.{ℕ, List, [], ◌∷◌, Bool, codes, decimal, if◌then◌else◌}
use Rattle.std.specs.List.{concat}
use Rattle.kex_words.specs.Words.{usage_line}
use Rattle.kex_words.specs.declared.counts.Counts.{Counts}
use Rattle.kex_words.specs.declared.counts.TrialCounts.{TrialCounts}
use Rattle.kex_words.specs.declared.notes.Note.{Note}
use Rattle.kex_words.specs.declared.notes.Note.TheVariants.{Nothing, Rejected, TooLong}
use Rattle.kex_words.specs.declared.notes.Note.TheVariants.{InputTooLong, Usage}
use Rattle.kex_words.specs.declared.notes.Note.TheVariants.{Refused, ReadFault, WriteFault}
use Rattle.kex_words.specs.declared.notes.Note.TheVariants.{ShelfFault, Memory}
use Rattle.kex_words.specs.declared.refusals.RefusalPlace.{RefusalPlace}
use Rattle.kex_words.specs.declared.refusals.RefusalPlace.TheVariants.{Nowhere, At, Line, Stage}
use Rattle.kex_words.specs.declared.refusals.Refusal.{Refusal}
use Rattle.kex_words.specs.declared.refusals.Rule.{Rule}
use Rattle.kex_words.specs.declared.refusals.Rule.TheVariants as rule

abbrev pub title_of : Rule → List ℕ
title_of rule.TextTooLong = codes "K00 TextTooLong"
title_of rule.BadToken = codes "K01 BadToken"
title_of rule.Unexpected = codes "K02 Unexpected"
title_of rule.BadRegex = codes "K03 BadRegex"
title_of rule.BadCount = codes "K04 BadCount"
title_of rule.BadSet = codes "K05 BadSet"
title_of rule.OverLimit = codes "K06 OverLimit"
title_of rule.TwiceDefined = codes "K07 TwiceDefined"
title_of rule.Unknown = codes "K08 Unknown"
title_of rule.NoStart = codes "K09 NoStart"
title_of rule.NotTail = codes "K10 NotTail"
title_of rule.TooManyPlaces = codes "K11 TooManyPlaces"
title_of rule.NoText = codes "K13 NoText"
title_of rule.OneStage = codes "K14 OneStage"
title_of rule.TooManyStates = codes "K15 TooManyStates"
title_of rule.TooManyPairs = codes "K16 TooManyPairs"
title_of rule.BadTable = codes "K17 BadTable"
title_of rule.TableTooLong = codes "K18 TableTooLong"

abbrev pub line_end : Bool → List ℕ
line_end at_end = if at_end then codes " (end)\n" else codes "\n"

abbrev pub rejected_line : ℕ → ℕ → Bool → List ℕ
rejected_line stage at at_end =
    concat (codes "rejected: stage " ∷ decimal stage ∷ codes " at byte " ∷ decimal at
    ∷ line_end at_end ∷ [])

abbrev pub too_long_line : ℕ → ℕ → List ℕ
too_long_line stage at = concat
    (codes "too long: stage " ∷ decimal stage ∷ codes " at byte " ∷ decimal at ∷ codes "\n" ∷ [])

abbrev pub placed_line : RefusalPlace → List ℕ → List ℕ
placed_line Nowhere title = concat (codes "refused: " ∷ title ∷ codes "\n" ∷ [])
placed_line (At line column) title =
    concat (codes "refused: " ∷ title ∷ codes " at line " ∷ decimal line ∷ codes " column "
    ∷ decimal column ∷ codes "\n" ∷ [])
placed_line (Line line) title =
    concat (codes "refused: " ∷ title ∷ codes " at line " ∷ decimal line ∷ codes "\n" ∷ [])
placed_line (Stage stage) title =
    concat (codes "refused: " ∷ title ∷ codes " in stage " ∷ decimal stage ∷ codes "\n" ∷ [])

abbrev pub refused_line : Refusal → List ℕ
refused_line refusal = placed_line refusal.place (title_of refusal.rule)

abbrev pub line_of : Note → List ℕ
line_of Nothing = []
line_of (Rejected stage at at_end) = rejected_line stage at at_end
line_of (TooLong stage at) = too_long_line stage at
line_of InputTooLong = codes "too long: input\n"
line_of Usage = usage_line
line_of (Refused refusal) = refused_line refusal
line_of ReadFault = codes "read fault\n"
line_of WriteFault = codes "write fault\n"
line_of ShelfFault = codes "shelf fault\n"
line_of Memory = codes "out of memory\n"

abbrev pub counts_line : Counts → List ℕ
counts_line counts =
    concat (codes "stages " ∷ decimal counts.stages ∷ codes " places " ∷ decimal counts.places
    ∷ codes " states " ∷ decimal counts.states ∷ codes "\n" ∷ [])

-- the line of a trial
abbrev pub trial_line : TrialCounts → List ℕ
trial_line s = concat (codes "lines " ∷ decimal s.lines ∷ codes " in " ∷ decimal s.made
    ∷ codes " out " ∷ decimal s.written
    ∷ codes " roll " ∷ decimal s.roll ∷ codes "\n" ∷ [])
