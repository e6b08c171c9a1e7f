-- Why a command doesn't begin, and the status of that.
use Rattle.std.specs.Prelude.{Result, Ok, Err}
use Rattle.kex_words.specs.declared.asked.WordsRefusal.{WordsRefusal}
use Rattle.kex_words.specs.declared.asked.WordsRefusal.TheVariants as words
use Rattle.kex_top.specs.declared.start.StartError.{StartError}
use Rattle.kex_top.specs.declared.start.StartError.TheVariants.{Usage, Shelf, Refused, Memory}
use Rattle.kex_top.specs.declared.status.Status.{Status}
use Rattle.kex_top.specs.declared.status.Status.TheVariants as status

abbrev pub of_words : WordsRefusal → StartError
of_words words.Usage = Usage
of_words words.Memory = Memory

abbrev pub status_of : StartError → Status
status_of Usage = status.Usage
status_of Shelf = status.ShelfFault
status_of (Refused r) = status.Refused r
status_of Memory = status.Memory

-- the status of a command that has ended, or hasn't begun
abbrev pub status_of_answer : Result Status StartError → Status
status_of_answer (Ok status) = status
status_of_answer (Err why) = status_of why
