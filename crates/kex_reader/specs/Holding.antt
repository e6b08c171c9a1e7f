-- What the code holds of a whole program that is being read, and the state of the machine that it
-- shows.
use Rattle.std.specs.Prelude.{◌≡◌, ℕ, ◌+◌, ◌++◌, ◌∷◌, List, [], length, ◌⊎◌, Option, Some, None}
use Rattle.std.specs.Prelude.{Result, Ok, Err, IfOk, OnOk}
use Rattle.kex_model.specs.declared.program.Definition.{Definition as Root}
use Rattle.kex_model.specs.declared.program.Start.{Start}
use Rattle.kex_reader.specs.declared.stack.TermConstruct.{TermConstruct}
use Rattle.kex_reader.specs.declared.inside.TermFault.{TermFault}
use Rattle.kex_reader.specs.declared.inside.TermFault.TheVariants as faults
use Rattle.kex_reader.specs.declared.inside.TermWait.{TermWait}
use Rattle.kex_reader.specs.declared.reader.Head.{Head}
use Rattle.kex_reader.specs.declared.reader.Phase.{Phase}
use Rattle.kex_reader.specs.declared.reader.Reader.{Reader}
use Rattle.kex_reader.specs.declared.reader.Phase.TheVariants as phases
use Rattle.kex_reader.specs.Syntax.{Header, NoStart, Stages, Definition, Program, Term, header}
use Rattle.kex_reader.specs.Syntax.{definitions}
use Rattle.kex_reader.specs.Reading.{Entry, Inside, State, Begin, FirstName, StartLine, StageRead}
use Rattle.kex_reader.specs.Reading.{StageNext, HeadRead, Within, before, words_read}
use Rattle.kex_reader.specs.Shown.{Made, IsName, ShowsTerm, ShowsDefinitions, ShowsStages}
use Rattle.kex_reader.specs.Uses.{Numbered, NameNumber, InDefinitions, InStages}
use Rattle.kex_reader.specs.Stands.{ShowsInside, InConstructs, InWait, Keeps, LosesNone}

abbrev pub ShowsHead : Header → Made → (ℕ → ℕ) → List Start → Type 0
ShowsHead NoStart made at ss = ss ≡ []
ShowsHead (Stages n ns) made at ss = ShowsStages (n ∷ ns) made at ss 2

-- the number of the next definition's first word
abbrev pub next_index : Header → List Definition → ℕ
next_index h done = length (header h) + length (definitions done)

-- constructs, definitions and stages so far, and what is waited for, are those of a state
unfoldable pub ShowsState : Made → (ℕ → ℕ) → List TermConstruct → List Root → List Start → Phase
    → State
    → Type 0
ShowsState made at fs ds ss phases.Begin Begin = (fs ≡ []) × (ds ≡ []) × (ss ≡ [])
ShowsState made at fs ds ss (phases.FirstName n) (FirstName name) = (fs ≡ []) × (ds ≡ [])
    × (ss ≡ []) × (n.bytes.now ≡ name) × (n.at ≡ at 0)
ShowsState made at fs ds ss phases.StartLine StartLine = (fs ≡ []) × (ds ≡ []) × (ss ≡ [])
ShowsState made at fs ds ss phases.StageRead (StageRead f ns) = (fs ≡ []) × (ds ≡ [])
    × ShowsStages (f ∷ ns) made at ss 2
ShowsState made at fs ds ss phases.StageNext (StageNext f ns) = (fs ≡ []) × (ds ≡ [])
    × ShowsStages (f ∷ ns) made at ss 2
ShowsState made at fs ds ss (phases.HeadRead n) (HeadRead h name) = (fs ≡ []) × (ds ≡ [])
    × ShowsHead h made at ss × (n.bytes.now ≡ name) × (n.at ≡ at (length (header h)))
ShowsState made at fs ds ss (phases.Within head wait) (Within h done name i) =
    ShowsHead h made at ss × ShowsDefinitions done made at ds (length (header h))
    × IsName made head.name name × (head.at ≡ at (next_index h done))
    × ShowsInside made at (length (before h done name)) fs wait i
ShowsState made at fs ds ss _ _ = ⊥

-- what a step made is what the machine makes, unless memory ran out
unfoldable pub StateSteps : Made → (ℕ → ℕ) → List TermConstruct → List Root → List Start
    → Result Phase TermFault → Option State → Type 0
StateSteps made at fs ds ss (Ok phase) None = ⊥
StateSteps made at fs ds ss (Ok phase) (Some s) = ShowsState made at fs ds ss phase s
StateSteps made at fs ds ss (Err faults.Memory) o = Unit {0}
StateSteps made at fs ds ss (Err faults.Wrong) None = Unit {0}
StateSteps made at fs ds ss (Err faults.Wrong) (Some s) = ⊥

abbrev pub SomeState : Made → List TermConstruct → List Root → List Start → Phase → Type 0
SomeState made fs ds ss phase = (at : ℕ → ℕ) × (s : State) × ShowsState made at fs ds ss phase s

-- the term that is left, where nothing is below it
unfoldable pub whole_term : Option (Term × List Entry) → Option Term
whole_term None = None
whole_term (Some (t, [])) = Some t
whole_term (Some (t, e ∷ es)) = None

-- a definition that ends with this term, unless memory ran out
unfoldable pub Ends : Made → (ℕ → ℕ) → ℕ → List TermConstruct → List Root → List Root → ℕ → ℕ
    → Result (Unit {0}) TermFault → Option Term → Type 0
Ends made at base fs old new name from (Ok u) None = ⊥
Ends made at base fs old new name from (Ok u) (Some t) = (fs ≡ []) × (root : ℕ) × (new
    ≡ old ++ record { name = name; at = from; root = root } ∷ []) × ShowsTerm t made at root base
Ends made at base fs old new name from (Err faults.Memory) o = Unit {0}
Ends made at base fs old new name from (Err faults.Wrong) None = Unit {0}
Ends made at base fs old new name from (Err faults.Wrong) (Some t) = ⊥

-- what the end made is the machine's program, unless memory ran out
unfoldable pub Finishes : Made → (ℕ → ℕ) → List Root → List Start → Result (Unit {0}) TermFault
    → Option Program → Type 0
Finishes made at ds ss (Ok u) None = ⊥
Finishes made at ds ss (Ok u) (Some p) =
    ShowsDefinitions p.definitions made at ds (length (header p.header))
    × ShowsHead p.header made at ss
Finishes made at ds ss (Err faults.Memory) o = Unit {0}
Finishes made at ds ss (Err faults.Wrong) None = Unit {0}
Finishes made at ds ss (Err faults.Wrong) (Some p) = ⊥

-- what a reader holds: it is in no node yet
abbrev pub InPhase : Phase → Numbered → Type 0
InPhase (phases.Within head wait) x = (x ≡ NameNumber head.name) ⊎ InWait wait x
InPhase _ x = ⊥

abbrev pub InReader : Reader → Phase → Numbered → Type 0
InReader r phase x = InConstructs r.stack x
    ⊎ (InPhase phase x ⊎ (InDefinitions r.definitions.items x ⊎ InStages r.stages.items x))

-- what a reader is left with at the end
abbrev pub InProgram : Reader → Numbered → Type 0
InProgram r x = InDefinitions r.definitions.items x ⊎ InStages r.stages.items x

-- the open definition ends: its name and its root become those of a definition
abbrev pub EndLosesNone : Reader → Reader → Head → (Numbered → Type 0) → Type 0
EndLosesNone old new head Held =
    LosesNone old.draft new.draft (λ x. Held x ⊎ ((x ≡ NameNumber head.name)
    ⊎ InDefinitions old.definitions.items x)) (InDefinitions new.definitions.items)

-- a step of a reader loses none
abbrev pub ReaderLosesNone : Reader → Phase → Reader → Result Phase TermFault → Type 0
ReaderLosesNone old phase new result = IfOk result (λ next. Keeps old.draft new.draft
    × LosesNone old.draft new.draft (InReader old phase) (InReader new next))

abbrev pub FinishLosesNone : Reader → Phase → Reader → Result (Unit {0}) TermFault → Type 0
FinishLosesNone old phase new result = OnOk result (Keeps old.draft new.draft
    × LosesNone old.draft new.draft (InReader old phase) (InProgram new))

-- ---- what clauses say

-- the reader, and what the next word belongs to, are those of a state
abbrev pub ReaderShows : Reader → (ℕ → ℕ) → Phase → State → Type 0
ReaderShows r at phase s = ShowsState r.draft at r.stack r.definitions.items r.stages.items phase s

-- the reader is in some state
abbrev pub InState : Reader → Phase → Type 0
InState r phase = SomeState r.draft r.stack r.definitions.items r.stages.items phase

-- what a step made of the reader is what the machine makes
abbrev pub ReaderSteps : Reader → (ℕ → ℕ) → Result Phase TermFault → Option State → Type 0
ReaderSteps r at result o =
    StateSteps r.draft at r.stack r.definitions.items r.stages.items result o

-- what the end made of the reader is the machine's program
abbrev pub ReaderFinishes : Reader → (ℕ → ℕ) → Result (Unit {0}) TermFault → Option Program → Type 0
ReaderFinishes r at result o = Finishes r.draft at r.definitions.items r.stages.items result o

-- from this reader to that one the definition ends with this term
abbrev pub ReaderEnds : Reader → Reader → (ℕ → ℕ) → ℕ → Head → Result (Unit {0}) TermFault
    → Option Term → Type 0
ReaderEnds old new at base head result o = Ends new.draft at base new.stack old.definitions.items
    new.definitions.items head.name head.at result o

-- the offset is that of the word after what a state has read
abbrev pub IsBehindState : (ℕ → ℕ) → State → ℕ → Type 0
IsBehindState at s place = place ≡ at (length (words_read s))

-- where the reader is within a definition
abbrev pub WithinDefinition : Reader → Head → TermWait
    → ((ℕ → ℕ) → Header → List Definition → List ℕ → Inside → Type 0) → Type 0
WithinDefinition r head wait Says =
    (at : ℕ → ℕ) (h : Header) (done : List Definition) (name : List ℕ) (i : Inside)
    → ReaderShows r at (phases.Within head wait) (Within h done name i) → Says at h done name i
