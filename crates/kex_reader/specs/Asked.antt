-- The checks of what has been read, and those that one word more asks.
use Rattle.std.specs.Prelude.{ℕ, suc, ◌+◌, ◌*◌, List, [], ◌∷◌, ◌++◌, length}
use Rattle.kex_reader.specs.Syntax.{Word, Name, atom, header}
use Rattle.kex_reader.specs.Reading.{Entry, Mark, Ended, Done, Muted, Storing, Mode, After, Turned}
use Rattle.kex_reader.specs.Reading.{InCount, Inside, State, StartLine, StageRead, StageNext}
use Rattle.kex_reader.specs.Reading.{HeadRead, Within, before, entries}
use Rattle.kex_reader.specs.Checks.{Check, Nested, Staged, postfix_checks, seq_checks, pre_checks}
use Rattle.kex_reader.specs.Checks.{atom_checks, stage_checks, header_checks, definition_checks}
use Rattle.kex_reader.specs.Stands.{asks, depth}

unfoldable pub entry_checks : Entry → (ℕ → ℕ) → ℕ → ℕ → List Check
entry_checks Mark at i d = Nested (at i) d ∷ []
entry_checks (Ended s) at i d = seq_checks s at i d
entry_checks (Done p) at i d = pre_checks p at i d
entry_checks Muted at i d = Nested (at i) d ∷ []
entry_checks (Storing r) at i d = Nested (at i) d ∷ []

unfoldable pub entries_checks : (ℕ → ℕ) → ℕ → List Entry → List Check
entries_checks at base [] = []
entries_checks at base (e ∷ es) =
    entries_checks at base es ++ entry_checks e at (base + length (entries es)) (depth es)

unfoldable pub mode_checks : Mode → (ℕ → ℕ) → ℕ → ℕ → List Check
mode_checks (After a) at i d = atom_checks a at i d
mode_checks (Turned a p) at i d =
    atom_checks a at i d ++ postfix_checks p (at (i + length (atom a)))
mode_checks (InCount a c) at i d = atom_checks a at i d
mode_checks _ at i d = []

unfoldable pub inside_checks : (ℕ → ℕ) → ℕ → Inside → List Check
inside_checks at base i = entries_checks at base i.entries
    ++ mode_checks i.mode at (base + length (entries i.entries)) (depth i.entries)

unfoldable pub state_checks : (ℕ → ℕ) → State → List Check
state_checks at (StageRead f ns) = stage_checks (f ∷ ns) at 2 1
state_checks at (StageNext f ns) = stage_checks (f ∷ ns) at 2 1
state_checks at (HeadRead h n) = header_checks h at
state_checks at (Within h ds name i) =
    (header_checks h at ++ definition_checks ds at (length (header h)))
    ++ inside_checks at (length (before h ds name)) i
state_checks at _ = []

unfoldable pub name_asks : ℕ → ℕ → Word → List Check
name_asks from number (Name n) = Staged from number ∷ []
name_asks from number _ = []

unfoldable pub state_asks : (ℕ → ℕ) → State → Word → List Check
state_asks at StartLine w = name_asks (at 2) 1 w
state_asks at (StageNext f ns) w =
    name_asks (at (2 + 2 * length (f ∷ ns))) (suc (length (f ∷ ns))) w
state_asks at (Within h ds name i) w =
    asks at (length (before h ds name) + length (entries i.entries)) i.mode i.entries w
state_asks at _ w = []
