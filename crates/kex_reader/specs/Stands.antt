-- What the code holds of a program that is being read, and the state of the machine that it shows.
use Rattle.std.specs.Prelude.{◌≡◌, ℕ, suc, ◌+◌, ◌<◌, ◌≤◌, Bool, true, false, List, [], ◌∷◌, ◌++◌}
use Rattle.std.specs.Prelude.{length, Option, Some, None, Result, Ok, Err, IfOk, OnOk, slice_get}
use Rattle.std.specs.Prelude.{◌⊎◌, if◌then◌else◌}
use Rattle.kex_model.specs.declared.program.Kind.{Kind}
use Rattle.kex_model.specs.declared.program.Kind.TheVariants as kinds
use Rattle.kex_model.specs.declared.program.Node.{Node}
use Rattle.kex_code.specs.Codes.{IsAmong}
use Rattle.kex_code.specs.declared.piece.Piece.{Piece}
use Rattle.kex_code.specs.declared.piece.Piece.TheVariants as piece_kinds
use Rattle.kex_tokens.specs.Values.{decimal_value}
use Rattle.kex_regexp.specs.declared.breaks.Break.{Break}
use Rattle.kex_reader.specs.declared.stack.TermConstruct.{TermConstruct}
use Rattle.kex_reader.specs.declared.stack.TermConstruct.TheVariants as constructs
use Rattle.kex_reader.specs.declared.stack.Prefix.{Prefix}
use Rattle.kex_reader.specs.declared.stack.Prefix.TheVariants as prefixes
use Rattle.kex_reader.specs.declared.stack.PlacedNode.{PlacedNode as Shown}
use Rattle.kex_regexp.specs.declared.counts.Bounds.{Bounds}
use Rattle.kex_regexp.specs.Holding.{HoldsBounds, ShowsCount, capped_count}
use Rattle.kex_regexp.specs.Postfixes.{Postfix, is_bad_count}
use Rattle.kex_reader.specs.declared.word.Word.{Word as WordHeld}
use Rattle.kex_reader.specs.declared.pieces.Assignment.{Assignment}
use Rattle.kex_reader.specs.declared.inside.TermWait.{TermWait}
use Rattle.kex_reader.specs.declared.inside.TermWait.TheVariants as waits
use Rattle.kex_reader.specs.declared.inside.TermFault.{TermFault}
use Rattle.kex_reader.specs.declared.inside.TermFault.TheVariants as faults
use Rattle.kex_reader.specs.Syntax.{Word, word, Name, Literal, Text, Held, Tilde, At, Star, Plus}
use Rattle.kex_reader.specs.Syntax.{Question, OpenBrace, OpenParen, Regex, Define, RegisterPart}
use Rattle.kex_reader.specs.Syntax.{Term, Seq, Pre, Atom, Once, Turns, Call, atom, postfix}
use Rattle.kex_reader.specs.Reading.{Entry, Mark, Ended, Done, Muted, Storing, CountStep, CountOn}
use Rattle.kex_reader.specs.Reading.{CountRead, CountWrong, Mode, Need, Ready, After, Turned, Named}
use Rattle.kex_reader.specs.Reading.{Writing, Bracket, BracketName, Assigning, Assigned, InCount}
use Rattle.kex_reader.specs.Reading.{Inside, inside, first_part, next_part, with_pre, entries}
use Rattle.kex_reader.specs.Reading.{count_step}
use Rattle.kex_reader.specs.Checks.{Check, Nested, Matched, SomeBreaks, IsLeastBreak}
use Rattle.kex_reader.specs.Checks.{postfix_checks}
use Rattle.kex_reader.specs.Uses.{Numbered, NodeNumber, RegisterNumber, IsNumberBelow, InNodes}
use Rattle.kex_reader.specs.Shown.{Made, IsRegister, ShowsTerm, ShowsSeq, ShowsPre, ShowsAtom}
use Rattle.kex_reader.specs.Shown.{ShowsPart, ShowsParts}

-- what was made stays: nodes, names and registers keep their numbers, and what is broken stays
-- broken
pub record Keeps (old new : Made) : Type 0 where
  pub nodes : (k : ℕ) (v : Node) → slice_get old.nodes k ≡ Some v → slice_get new.nodes k ≡ Some v
  pub names : (k : ℕ) (v : List ℕ) → slice_get old.names k ≡ Some v → slice_get new.names k ≡ Some v
  pub registers : (k : ℕ) (v : List ℕ) → slice_get old.registers k ≡ Some v
      → slice_get new.registers k ≡ Some v
  pub long : length old.nodes ≤ length new.nodes
  pub broken : new.broken ≡ None → old.broken ≡ None

-- the least limit that is broken by these checks
abbrev pub NotesLeast : List Check → Option Break → Type 0
NotesLeast cs None = (b : Break) → SomeBreaks cs b → ⊥
NotesLeast cs (Some b) = IsLeastBreak cs b

-- ---- constructs

abbrev pub is_opening : TermConstruct → Bool
is_opening (constructs.Mark at) = true
is_opening (constructs.Ended part) = false
is_opening (constructs.Done part) = false
is_opening (constructs.Muted at) = true
is_opening (constructs.Storing s) = true

abbrev pub construct_of : Prefix → TermConstruct
construct_of (prefixes.Mute at) = constructs.Muted at
construct_of (prefixes.Store s) = constructs.Storing s

-- the node of a prefix over another node, and its offset
abbrev pub prefixed_kind : Prefix → ℕ → Kind
prefixed_kind (prefixes.Mute at) n = kinds.Mute n
prefixed_kind (prefixes.Store s) n = kinds.At s.register n

abbrev pub prefix_at : Prefix → ℕ
prefix_at (prefixes.Mute at) = at
prefix_at (prefixes.Store s) = s.at

abbrev pub HasRegisterBelow : ℕ → Prefix → Type 0
HasRegisterBelow registers (prefixes.Mute at) = Unit {0}
HasRegisterBelow registers (prefixes.Store s) = s.register < registers

-- how many parentheses and prefixes are among the constructs
unfoldable pub open_constructs : List TermConstruct → ℕ
open_constructs [] = 0
open_constructs (f ∷ fs) = if is_opening f then suc (open_constructs fs) else open_constructs fs

-- and among the entries
unfoldable pub depth : List Entry → ℕ
depth [] = 0
depth (Mark ∷ es) = suc (depth es)
depth (Ended s ∷ es) = depth es
depth (Done p ∷ es) = depth es
depth (Muted ∷ es) = suc (depth es)
depth (Storing r ∷ es) = suc (depth es)

-- the constructs, the newest first, show the entries of a definition whose term begins with word
-- number base
unfoldable pub ConstructsShow : Made → (ℕ → ℕ) → ℕ → List TermConstruct → List Entry → Type 0
ConstructsShow made at base [] [] = Unit {0}
ConstructsShow made at base (constructs.Mark a ∷ fs) (Mark ∷ es) =
    (a ≡ at (base + length (entries es))) × ConstructsShow made at base fs es
ConstructsShow made at base (constructs.Ended p ∷ fs) (Ended s ∷ es) =
    (p.at ≡ at (base + length (entries es)))
    × ShowsSeq s made at p.node (base + length (entries es)) × ConstructsShow made at base fs es
ConstructsShow made at base (constructs.Done p ∷ fs) (Done q ∷ es) =
    (p.at ≡ at (base + length (entries es)))
    × ShowsPre q made at p.node (base + length (entries es)) × ConstructsShow made at base fs es
ConstructsShow made at base (constructs.Muted a ∷ fs) (Muted ∷ es) =
    (a ≡ at (base + length (entries es))) × ConstructsShow made at base fs es
ConstructsShow made at base (constructs.Storing s ∷ fs) (Storing r ∷ es) =
    (s.at ≡ at (base + length (entries es))) × IsRegister made s.register r
    × ConstructsShow made at base fs es
ConstructsShow made at base _ _ = ⊥

-- what has ended on top, as a seq or term above entries that the constructs show
pub record SeqOn (made : Made) (at : ℕ → ℕ) (base : ℕ) (fs : List TermConstruct) (part : Shown)
    (t : Seq × List Entry) : Type 0 where
  pub place : part.at ≡ at (base + length (entries t.1))
  pub shows : ShowsSeq t.0 made at part.node (base + length (entries t.1))
  pub below : ConstructsShow made at base fs t.1

pub record TermOn (made : Made) (at : ℕ → ℕ) (base : ℕ) (fs : List TermConstruct) (part : Shown)
    (t : Term × List Entry) : Type 0 where
  pub place : part.at ≡ at (base + length (entries t.1))
  pub shows : ShowsTerm t.0 made at part.node (base + length (entries t.1))
  pub below : ConstructsShow made at base fs t.1

abbrev pub SeqTaken : Made → (ℕ → ℕ) → ℕ → List TermConstruct → Option Shown → Option (Seq
    × List Entry)
    → Type 0
SeqTaken made at base fs None None = Unit {0}
SeqTaken made at base fs (Some part) (Some t) = SeqOn made at base fs part t
SeqTaken made at base fs _ _ = ⊥

abbrev pub TermTaken : Made → (ℕ → ℕ) → ℕ → List TermConstruct → Option Shown
    → Option (Term × List Entry) → Type 0
TermTaken made at base fs None None = Unit {0}
TermTaken made at base fs (Some part) (Some t) = TermOn made at base fs part t
TermTaken made at base fs _ _ = ⊥

-- no node is below one of this kind
abbrev pub IsLeaf : Kind → Type 0
IsLeaf (kinds.Seq l r) = ⊥
IsLeaf (kinds.Alt l r) = ⊥
IsLeaf (kinds.Rep body min max lazy) = ⊥
IsLeaf (kinds.Mute t) = ⊥
IsLeaf (kinds.At r t) = ⊥
IsLeaf _ = Unit {0}

-- ---- parts

-- the part of an assignment that a word is, if it is one
abbrev pub part_of : Word → Option RegisterPart
part_of (Literal s) = Some (Text s)
part_of (Name r) = Some (Held r)
part_of _ = None

abbrev pub PieceShows : Option RegisterPart → Made → Option Piece → Type 0
PieceShows None made None = Unit {0}
PieceShows (Some p) made (Some q) = ShowsPart p made q
PieceShows _ made _ = ⊥

-- ---- counts

-- a number above 1,000 is held as 1,001
abbrev pub HoldsNumber : ℕ → List ℕ → Type 0
HoldsNumber v digits = v ≡ capped_count (decimal_value digits)

-- such a count has been noted where it is bad
abbrev pub HoldsTurns : Made → Bounds → Postfix → Type 0
HoldsTurns made b p = HoldsBounds b p × (is_bad_count p ≡ true → made.broken ≡ None → ⊥)

-- ---- what is waited for

-- the mode's own words begin with number i
unfoldable pub ShowsMode : Made → (ℕ → ℕ) → ℕ → TermWait → Mode → Type 0
ShowsMode made at i waits.Need Need = Unit {0}
ShowsMode made at i waits.Ready Ready = Unit {0}
ShowsMode made at i (waits.After part) (After a) = (part.at ≡ at i)
    × ShowsAtom a made at part.node i
ShowsMode made at i (waits.Turned part b) (Turned a p) = (part.at ≡ at i)
    × ShowsAtom a made at part.node i × HoldsTurns made b p
ShowsMode made at i (waits.Named f n) (Named free name) = (f ≡ free) × (n.bytes.now ≡ name)
    × (n.at ≡ at i)
ShowsMode made at i (waits.Writing a) Writing = a ≡ at i
ShowsMode made at i (waits.Bracket a) Bracket = a ≡ at i
ShowsMode made at i (waits.BracketName a k) (BracketName r) = (a ≡ at i) × IsRegister made k r
ShowsMode made at i (waits.Assigning x) (Assigning append r) = (x.at ≡ at i) × (x.append ≡ append)
    × IsRegister made x.register r × (x.pieces.items ≡ [])
ShowsMode made at i (waits.Assigned x) (Assigned append r p ps) = (x.at ≡ at i)
    × (x.append ≡ append) × IsRegister made x.register r × ShowsParts (p ∷ ps) made x.pieces.items
ShowsMode made at i (waits.InCount part c brace) (InCount a d) = (part.at ≡ at i)
    × ShowsAtom a made at part.node i × ShowsCount c d × (brace ≡ at (i + length (atom a)))
ShowsMode _ _ _ _ _ = ⊥

-- constructs and what is waited for are those of a place inside a definition
pub record ShowsInside (made : Made) (at : ℕ → ℕ) (base : ℕ) (fs : List TermConstruct)
    (wait : TermWait)
    (i : Inside) : Type 0 where
  pub below : ConstructsShow made at base fs i.entries
  pub mode : ShowsMode made at (base + length (entries i.entries)) wait i.mode

-- what a step made is what the machine makes, unless memory ran out
unfoldable pub Steps : Made → (ℕ → ℕ) → ℕ → List TermConstruct → Result TermWait TermFault
    → Option Inside
    → Type 0
Steps made at base fs (Ok wait) None = ⊥
Steps made at base fs (Ok wait) (Some i) = ShowsInside made at base fs wait i
Steps made at base fs (Err faults.Memory) o = Unit {0}
Steps made at base fs (Err faults.Wrong) None = Unit {0}
Steps made at base fs (Err faults.Wrong) (Some i) = ⊥

-- these constructs are those of some entries
abbrev pub SomeConstructs : Made → List TermConstruct → Type 0
SomeConstructs made fs = (at : ℕ → ℕ) × (base : ℕ) × (es : List Entry)
    × ConstructsShow made at base fs es

abbrev pub SomeAtom : Made → List TermConstruct → Shown → Type 0
SomeAtom made fs part = (at : ℕ → ℕ) × (base : ℕ) × (es : List Entry) × (a : Atom)
    × ConstructsShow made at base fs es × (part.at ≡ at (base + length (entries es)))
    × ShowsAtom a made at part.node (base + length (entries es))

abbrev pub SomeTermTurned : Made → List TermConstruct → Shown → Bounds → Type 0
SomeTermTurned made fs part b = (at : ℕ → ℕ) × (base : ℕ) × (es : List Entry) × (a : Atom)
    × (p : Postfix) × ConstructsShow made at base fs es
    × (part.at ≡ at (base + length (entries es)))
    × ShowsAtom a made at part.node (base + length (entries es)) × HoldsTurns made b p

abbrev pub SomePre : Made → List TermConstruct → Shown → Type 0
SomePre made fs part = (at : ℕ → ℕ) × (base : ℕ) × (es : List Entry) × (p : Pre)
    × ConstructsShow made at base fs es × (part.at ≡ at (base + length (entries es)))
    × ShowsPre p made at part.node (base + length (entries es))

abbrev pub SomeName : Made → List TermConstruct → ℕ → Type 0
SomeName made fs a = (at : ℕ → ℕ) × (base : ℕ) × (es : List Entry)
    × ConstructsShow made at base fs es × (a ≡ at (base + length (entries es)))

abbrev pub SomeInside : Made → List TermConstruct → TermWait → Type 0
SomeInside made fs wait = (at : ℕ → ℕ) × (base : ℕ) × (i : Inside)
    × ShowsInside made at base fs wait i

-- ---- the checks that a word asks

unfoldable pub begin_asks : (ℕ → ℕ) → ℕ → List Entry → Word → List Check
begin_asks at i es Tilde = Nested (at i) (depth es) ∷ []
begin_asks at i es OpenParen = Nested (at i) (depth es) ∷ []
begin_asks at i es (Regex b) = Matched (at i + 1) (depth es) b ∷ []
begin_asks at i es _ = []

unfoldable pub after_asks : (ℕ → ℕ) → ℕ → Atom → List Entry → Word → List Check
after_asks at i a es Star = []
after_asks at i a es Plus = []
after_asks at i a es Question = []
after_asks at i a es OpenBrace = []
after_asks at i a es w = begin_asks at i (with_pre (Once a) es) w

-- after a postfix: what makes it lazy asks nothing
abbrev pub turned_asks : (ℕ → ℕ) → ℕ → Atom → Postfix → List Entry → Word → List Check
turned_asks at i a p es w = begin_asks at i (with_pre (Turns a p false) es) w

unfoldable pub named_asks : (ℕ → ℕ) → ℕ → List ℕ → List Entry → Word → List Check
named_asks at i n es At = Nested (at i) (depth es) ∷ []
named_asks at i n es Define = []
named_asks at i n es w = after_asks at (i + 1) (Call n) es w

unfoldable pub count_asks : ℕ → CountStep → List Check
count_asks at (CountOn c) = []
count_asks at (CountRead p) = postfix_checks p at
count_asks at CountWrong = []

unfoldable pub asks : (ℕ → ℕ) → ℕ → Mode → List Entry → Word → List Check
asks at i Need es w = begin_asks at i es w
asks at i Ready es w = begin_asks at i es w
asks at i (After a) es w = after_asks at (i + length (atom a)) a es w
asks at i (Turned a p) es w = turned_asks at (i + length (atom a ++ postfix p)) a p es w
asks at i (Named free n) es w = named_asks at i n es w
asks at i (InCount a c) es w = count_asks (at (i + length (atom a))) (count_step c w)
asks at i _ es w = []

-- ---- what is held: it is in no node yet

abbrev pub Has : Made → Numbered → Type 0
Has made x = IsNumberBelow (length made.nodes) (length made.names) (length made.registers) x

-- none is lost: what was held before, and what is new, is in a node now or is held after
pub record NoneLost (old new : Made) (From To : Numbered → Type 0) : Type 0 where
  pub held : (x : Numbered) → From x → InNodes new.nodes x ⊎ To x
  pub added : (x : Numbered) → Has new x → Has old x ⊎ (InNodes new.nodes x ⊎ To x)

-- unless a limit is broken
abbrev pub LosesNone : Made → Made → (Numbered → Type 0) → (Numbered → Type 0) → Type 0
LosesNone old new From To = new.broken ≡ None → NoneLost old new From To

abbrev pub InPart : Option Shown → Numbered → Type 0
InPart None x = ⊥
InPart (Some p) x = x ≡ NodeNumber p.node

abbrev pub InConstruct : TermConstruct → Numbered → Type 0
InConstruct (constructs.Ended p) x = x ≡ NodeNumber p.node
InConstruct (constructs.Done p) x = x ≡ NodeNumber p.node
InConstruct (constructs.Storing s) x = x ≡ RegisterNumber s.register
InConstruct _ x = ⊥

abbrev pub InConstructs : List TermConstruct → Numbered → Type 0
InConstructs [] x = ⊥
InConstructs (f ∷ fs) x = InConstruct f x ⊎ InConstructs fs x

abbrev pub InPieces : List Piece → Numbered → Type 0
InPieces ps (RegisterNumber r) = IsAmong ps (piece_kinds.Register r)
InPieces ps _ = ⊥

abbrev pub InPiece : Option Piece → Numbered → Type 0
InPiece None x = ⊥
InPiece (Some p) x = InPieces (p ∷ []) x

abbrev pub InAssignment : Assignment → Numbered → Type 0
InAssignment y x = (x ≡ RegisterNumber y.register) ⊎ InPieces y.pieces.items x

abbrev pub InWait : TermWait → Numbered → Type 0
InWait (waits.After p) x = x ≡ NodeNumber p.node
InWait (waits.Turned p b) x = x ≡ NodeNumber p.node
InWait (waits.InCount p c brace) x = x ≡ NodeNumber p.node
InWait (waits.BracketName a r) x = x ≡ RegisterNumber r
InWait (waits.Assigning y) x = InAssignment y x
InWait (waits.Assigned y) x = InAssignment y x
InWait _ x = ⊥

abbrev pub IsHeld : List TermConstruct → TermWait → Numbered → Type 0
IsHeld fs wait x = InConstructs fs x ⊎ InWait wait x

-- a step loses none
abbrev pub StepLosesNone : Made → Made → List TermConstruct → TermWait → List TermConstruct
    → Result TermWait TermFault → Type 0
StepLosesNone old new fs wait gs result =
    IfOk result (λ next. LosesNone old new (IsHeld fs wait) (IsHeld gs next))

-- ---- what clauses say

-- the word that the code has, as the grammar's
abbrev pub word_of : WordHeld → Word
word_of w = word w.kind w.spelling.now

-- where the constructs show entries, after which a word comes at this offset
abbrev pub Behind : Made → List TermConstruct → ℕ → ((ℕ → ℕ) → ℕ → List Entry → Type 0) → Type 0
Behind made fs place Says = (at : ℕ → ℕ) (base : ℕ) (es : List Entry)
    → ConstructsShow made at base fs es → place ≡ at (base + length (entries es)) → Says at base es

-- the same for any constructs
abbrev pub BehindAny : Made → ℕ → ((ℕ → ℕ) → ℕ → List TermConstruct → List Entry → Type 0) → Type 0
BehindAny made place Says = (at : ℕ → ℕ) (base : ℕ) (fs : List TermConstruct) (es : List Entry)
    → ConstructsShow made at base fs es → place ≡ at (base + length (entries es))
    → Says at base fs es

-- where the constructs show entries, after which comes an atom with this node
abbrev pub OnAtom : Made → List TermConstruct → Shown → ((ℕ → ℕ) → ℕ → List Entry → Atom → Type 0)
    → Type 0
OnAtom made fs part Says = (at : ℕ → ℕ) (base : ℕ) (es : List Entry) (a : Atom)
    → ConstructsShow made at base fs es → part.at ≡ at (base + length (entries es))
    → ShowsAtom a made at part.node (base + length (entries es)) → Says at base es a

-- and where the atom has this postfix
abbrev pub OnTermTurned : Made → List TermConstruct → Shown → Bounds
    → ((ℕ → ℕ) → ℕ → List Entry → Atom → Postfix → Type 0) → Type 0
OnTermTurned made fs part b Says =
    (at : ℕ → ℕ) (base : ℕ) (es : List Entry) (a : Atom) (p : Postfix)
    → ConstructsShow made at base fs es → part.at ≡ at (base + length (entries es))
    → ShowsAtom a made at part.node (base + length (entries es)) → HoldsTurns made b p
    → Says at base es a p

-- the offset is that of the word after the atom and its postfix
abbrev pub IsBehindTurns : (ℕ → ℕ) → ℕ → List Entry → Atom → Postfix → ℕ → Type 0
IsBehindTurns at base es a p place =
    place ≡ at (base + length (entries es) + length (atom a ++ postfix p))

-- the offset is that of the word after the atom
abbrev pub IsBehindAtom : (ℕ → ℕ) → ℕ → List Entry → Atom → ℕ → Type 0
IsBehindAtom at base es a place = place ≡ at (base + length (entries es) + length (atom a))

-- where constructs and what is waited for are those of a place inside a definition, and a word
-- comes after it at this offset
abbrev pub InPlace : Made → List TermConstruct → TermWait → ℕ → ((ℕ → ℕ) → ℕ → Inside → Type 0)
    → Type 0
InPlace made fs wait place Says = (at : ℕ → ℕ) (base : ℕ) (i : Inside)
    → ShowsInside made at base fs wait i → place ≡ at (base + length (inside i)) → Says at base i

-- the least limit that is broken goes on to be that of these checks too
abbrev pub NotesMore : {A E : Type 0} → Option Break → Option Break → Result A E → List Check
    → Type 0
NotesMore old new result more = (cs : List Check) → NotesLeast cs old
    → OnOk result (NotesLeast (cs ++ more) new)

-- where the constructs show entries, after which this is half read
abbrev pub WhereHalfRead : Made → (ℕ → ℕ) → ℕ → List TermConstruct → List Entry → TermWait → Mode
    → Type 0
    → Type 0
WhereHalfRead made at base fs es wait mode Says = ConstructsShow made at base fs es
    → ShowsMode made at (base + length (entries es)) wait mode → Says

-- a word where the first part of an assignment has to come
abbrev pub FirstPart : Made → Made → Assignment → Result TermWait TermFault → Word → Type 0
FirstPart old new x result w = (at : ℕ → ℕ) (base : ℕ) (fs : List TermConstruct) (es : List Entry)
    (append : Bool) (r : List ℕ) → WhereHalfRead old at base fs es (waits.Assigning x)
    (Assigning append r) (Steps new at base fs result (first_part append r es w))

-- a word after a part of an assignment
abbrev pub NextPart : Made → Made → Assignment → Result TermWait TermFault → Word → Type 0
NextPart old new x result w = (at : ℕ → ℕ) (base : ℕ) (fs : List TermConstruct) (es : List Entry)
    (append : Bool) (r : List ℕ) (p : RegisterPart) (ps : List RegisterPart)
    → WhereHalfRead old at base fs es (waits.Assigned x) (Assigned append r p ps)
    (Steps new at base fs result (next_part append r p ps es w))
