-- What the reader holds while it reads: nodes, constructs, a set, a count, each against what the
-- machine holds.
use Rattle.std.specs.Prelude.{◌≡◌, ℕ, ◌+◌, Bool, true, false, List, [], ◌∷◌, ◌++◌, length, reverse}
use Rattle.std.specs.Prelude.{Option, Some, None, Result, Ok, Err, IfOk, MatchBool, min, ◌==◌, ◌⊎◌}
use Rattle.kex_byteset.specs.Sets.{HasExactly}
use Rattle.kex_code.specs.Codes.{IsAmong}
use Rattle.kex_model.specs.declared.program.Kind.TheVariants as kinds
use Rattle.kex_model.specs.declared.program.Node.{Node}
use Rattle.kex_regexp.specs.declared.counts.Bounds.{Bounds}
use Rattle.kex_regexp.specs.declared.counts.Count.{Count}
use Rattle.kex_regexp.specs.declared.counts.Count.TheVariants as counts
use Rattle.kex_regexp.specs.declared.counts.CountOutcome.{CountOutcome}
use Rattle.kex_regexp.specs.declared.counts.CountOutcome.TheVariants as outcomes
use Rattle.kex_regexp.specs.declared.escapes.EscapeOutcome.{EscapeOutcome}
use Rattle.kex_regexp.specs.declared.escapes.EscapeOutcome.TheVariants as escapes
use Rattle.kex_regexp.specs.declared.constructs.Construct.{Construct}
use Rattle.kex_regexp.specs.declared.constructs.Construct.TheVariants as constructs
use Rattle.kex_regexp.specs.declared.constructs.Placed.{Placed}
use Rattle.kex_regexp.specs.declared.sets.SetOutcome.{SetOutcome}
use Rattle.kex_regexp.specs.declared.sets.SetOutcome.TheVariants as sets
use Rattle.kex_regexp.specs.declared.sets.SetPart.{SetPart}
use Rattle.kex_regexp.specs.declared.sets.SetPart.TheVariants as parts
use Rattle.kex_regexp.specs.declared.sets.SetSoFar.{SetSoFar}
use Rattle.kex_regexp.specs.declared.wait.Repetition.{Repetition}
use Rattle.kex_regexp.specs.declared.wait.StepFault.{StepFault}
use Rattle.kex_regexp.specs.declared.wait.StepFault.TheVariants as faults
use Rattle.kex_regexp.specs.declared.wait.Wait.{Wait}
use Rattle.kex_regexp.specs.declared.wait.Wait.TheVariants as waits
use Rattle.kex_regexp.specs.Grammar.{item, Member, Regex, Last, Or, Branch, Empty, Then, Piece}
use Rattle.kex_regexp.specs.Grammar.{Once, Turns, Item, Plain, Escaped, Dot, Set, Group, branch}
use Rattle.kex_regexp.specs.Grammar.{piece, postfix}
use Rattle.kex_regexp.specs.Machine.{EscapeStep, EscapeOn, EscapeRead, EscapeWrong, SetPhase}
use Rattle.kex_regexp.specs.Machine.{AtStart, Between, HasEnd, HasDash, InFirst, InLast, SetStep}
use Rattle.kex_regexp.specs.Machine.{SetOn, SetRead, SetWrong, Counting, Opened, Low, LowComma}
use Rattle.kex_regexp.specs.Machine.{LowHigh, OnlyComma, High, CountStep, CountOn, CountRead}
use Rattle.kex_regexp.specs.Machine.{CountWrong, Entry, Mark, Ended, Read, Mode, Ready, After}
use Rattle.kex_regexp.specs.Machine.{Turned, InEscape, InSet, InCount, State, entries, bytes_read}
use Rattle.kex_regexp.specs.Parents.{NoneLost}
use Rattle.kex_regexp.specs.Postfixes.{Postfix, high, is_bad_count, low, most_count}
use Rattle.kex_regexp.specs.Shown.{IsNode, IsClass}
use Rattle.kex_regexp.specs.Values.{end_byte, escaped_byte, has_backward, in_members, in_set}
use Rattle.kex_tokens.specs.Values.{decimal_value}

-- ---- nodes: as in ShowsRegex, but where a count is bad its item is alone

-- item l with this postfix, which is lazy or not, is node n
abbrev pub IsTurns : Postfix → Bool → List Node → ℕ → ℕ → ℕ → Type 0
IsTurns p lazy nodes n l at =
    MatchBool (is_bad_count p) (n ≡ l) (IsNode nodes n (kinds.Rep l (low p) (high p) lazy) at)

unfoldable mutual
  pub HoldsRegex : Regex → List Node → ℕ → ℕ → Type 0
  HoldsRegex (Last b) nodes n at = HoldsBranch b nodes n at
  HoldsRegex (Or b r) nodes n at = (l : ℕ) × (m : ℕ) × IsNode nodes n (kinds.Alt l m) at
      × HoldsBranch b nodes l at × HoldsRegex r nodes m (at + length (branch b) + 1)

  pub HoldsBranch : Branch → List Node → ℕ → ℕ → Type 0
  HoldsBranch Empty nodes n at = IsNode nodes n kinds.One at
  HoldsBranch (Then p Empty) nodes n at = HoldsPiece p nodes n at
  HoldsBranch (Then p (Then q b)) nodes n at = (l : ℕ) × (m : ℕ) × IsNode nodes n (kinds.Seq l m) at
      × HoldsPiece p nodes l at × HoldsBranch (Then q b) nodes m (at + length (piece p))

  pub HoldsPiece : Piece → List Node → ℕ → ℕ → Type 0
  HoldsPiece (Once i) nodes n at = HoldsItem i nodes n at
  HoldsPiece (Turns i p lazy) nodes n at = (l : ℕ) × IsTurns p lazy nodes n l at
      × HoldsItem i nodes l at

  pub HoldsItem : Item → List Node → ℕ → ℕ → Type 0
  HoldsItem (Plain byte) nodes n at = IsClass nodes n (λ b. b == byte) at
  HoldsItem (Escaped e) nodes n at = IsClass nodes n (λ b. b == escaped_byte e) at
  HoldsItem Dot nodes n at = IsClass nodes n (λ b. true) at
  HoldsItem (Set negated ms) nodes n at = IsClass nodes n (in_set negated ms) at
  HoldsItem (Group r) nodes n at = HoldsRegex r nodes n (at + 1)

-- ---- constructs

-- the constructs, the newest first, show the entries of a body that begins at base
unfoldable pub ConstructsShow : List Node → ℕ → List Construct → List Entry → Type 0
ConstructsShow nodes base [] [] = Unit {0}
ConstructsShow nodes base (constructs.Mark at ∷ fs) (Mark ∷ es) = (at ≡ base + length (entries es))
    × ConstructsShow nodes base fs es
ConstructsShow nodes base (constructs.Ended n at ∷ fs) (Ended b ∷ es) =
    (at ≡ base + length (entries es)) × HoldsBranch b nodes n at × ConstructsShow nodes base fs es
ConstructsShow nodes base (constructs.Piece n at ∷ fs) (Read p ∷ es) =
    (at ≡ base + length (entries es)) × HoldsPiece p nodes n at × ConstructsShow nodes base fs es
ConstructsShow nodes base _ _ = ⊥

-- a node that shows a branch, above entries that the constructs show
pub record BranchOn (nodes : List Node) (base : ℕ) (fs : List Construct) (part : Placed)
    (t : Branch × List Entry) : Type 0 where
  pub at : part.at ≡ base + length (entries t.1)
  pub shows : HoldsBranch t.0 nodes part.node part.at
  pub below : ConstructsShow nodes base (reverse fs) t.1

pub record RegexOn (nodes : List Node) (base : ℕ) (fs : List Construct) (part : Placed)
    (t : Regex × List Entry) : Type 0 where
  pub at : part.at ≡ base + length (entries t.1)
  pub shows : HoldsRegex t.0 nodes part.node part.at
  pub below : ConstructsShow nodes base (reverse fs) t.1

-- ---- escapes

unfoldable pub ShowsEscape : EscapeOutcome → EscapeStep → Type 0
ShowsEscape (escapes.On e) (EscapeOn f) = e ≡ f
ShowsEscape (escapes.Read b) (EscapeRead x) = b ≡ escaped_byte x
ShowsEscape escapes.Wrong EscapeWrong = Unit {0}
ShowsEscape _ _ = ⊥

-- ---- sets

abbrev pub is_empty : List Member → Bool
is_empty [] = true
is_empty (m ∷ ms) = false

unfoldable pub ShowsPart : SetPart → SetPhase → Type 0
ShowsPart parts.AtStart AtStart = Unit {0}
ShowsPart parts.Between Between = Unit {0}
ShowsPart (parts.HasEnd b) (HasEnd end) = b ≡ end_byte end
ShowsPart (parts.HasDash b) (HasDash end) = b ≡ end_byte end
ShowsPart (parts.InFirst e) (InFirst f) = e ≡ f
ShowsPart (parts.InLast b e) (InLast end f) = (b ≡ end_byte end) × (e ≡ f)
ShowsPart _ _ = ⊥

unfoldable pub ShowsSet : SetOutcome → SetStep → Type 0
ShowsSet (sets.On negated empty p) (SetOn n ms q) = (negated ≡ n) × (empty ≡ is_empty ms)
    × ShowsPart p q
ShowsSet (sets.Read negated) (SetRead n ms) = negated ≡ n
ShowsSet sets.Wrong SetWrong = Unit {0}
ShowsSet _ _ = ⊥

-- the bytes of these members, and whether one is backward
pub record HasMembers (set : SetSoFar) (ms : List Member) : Type 0 where
  pub bytes : HasExactly set.bytes (in_members ms)
  pub backward : set.backward ≡ has_backward ms

-- the set is that of the item, where the item is one
abbrev pub IsSetOf : SetSoFar → Item → Type 0
IsSetOf set (Set negated ms) = HasMembers set ms
IsSetOf set _ = Unit {0}

-- the set is the one that is being read, or that was read last
unfoldable pub IsSetIn : SetSoFar → Mode → Type 0
IsSetIn set (InSet negated ms p) = HasMembers set ms
IsSetIn set (After i) = IsSetOf set i
IsSetIn set _ = Unit {0}

abbrev pub IsSetAfter : SetSoFar → Option State → Type 0
IsSetAfter set None = Unit {0}
IsSetAfter set (Some s) = IsSetIn set s.mode

-- ---- counts

-- a count above the greatest is held as one more than that
abbrev pub capped_count : ℕ → ℕ
capped_count n = min n (most_count + 1)

abbrev pub capped_bound : Option ℕ → Option ℕ
capped_bound None = None
capped_bound (Some n) = Some (capped_count n)

-- these are the least and the greatest number of turns
abbrev pub HoldsBounds : Bounds → Postfix → Type 0
HoldsBounds b p = (b.low ≡ capped_count (low p)) × (b.high ≡ capped_bound (high p))

unfoldable pub ShowsCount : Count → Counting → Type 0
ShowsCount counts.Opened Opened = Unit {0}
ShowsCount (counts.Low v) (Low n) = v ≡ capped_count (decimal_value n)
ShowsCount (counts.LowComma v) (LowComma n) = v ≡ capped_count (decimal_value n)
ShowsCount (counts.LowHigh v w) (LowHigh n m) = (v ≡ capped_count (decimal_value n))
    × (w ≡ capped_count (decimal_value m))
ShowsCount counts.OnlyComma OnlyComma = Unit {0}
ShowsCount (counts.High w) (High m) = w ≡ capped_count (decimal_value m)
ShowsCount _ _ = ⊥

unfoldable pub ShowsCountStep : CountOutcome → CountStep → Type 0
ShowsCountStep (outcomes.On c) (CountOn d) = ShowsCount c d
ShowsCountStep (outcomes.Read b) (CountRead p) = HoldsBounds b p
ShowsCountStep outcomes.Wrong CountWrong = Unit {0}
ShowsCountStep _ _ = ⊥

-- ---- the whole

-- what the code waits for, where the item in question begins at this offset
unfoldable pub ShowsMode : List Node → ℕ → Wait → Mode → Type 0
ShowsMode nodes at waits.Ready Ready = Unit {0}
ShowsMode nodes at (waits.After part) (After i) = (part.at ≡ at) × HoldsItem i nodes part.node at
ShowsMode nodes at (waits.Turned r) (Turned i p) = (r.item.at ≡ at)
    × HoldsItem i nodes r.item.node at × HoldsBounds r.bounds p
ShowsMode nodes at (waits.InEscape e from) (InEscape f) = (e ≡ f) × (from ≡ at)
ShowsMode nodes at (waits.InSet negated empty p from) (InSet n ms q) = (negated ≡ n)
    × (empty ≡ is_empty ms) × ShowsPart p q × (from ≡ at)
ShowsMode nodes at (waits.InCount part c brace) (InCount i d) = (part.at ≡ at)
    × HoldsItem i nodes part.node at × ShowsCount c d × (brace ≡ at + length (item i))
ShowsMode _ _ _ _ = ⊥

-- the constructs and what the code waits for are those of a state
pub record ShowsState (nodes : List Node) (base : ℕ) (fs : List Construct) (wait : Wait)
    (s : State) : Type 0 where
  pub below : ConstructsShow nodes base (reverse fs) s.entries
  pub mode : ShowsMode nodes (base + length (entries s.entries)) wait s.mode

-- what a step made is what the machine makes, unless memory ran out
unfoldable pub Steps : List Node → ℕ → List Construct → Result Wait StepFault → Option State
    → Type 0
Steps nodes base fs (Ok wait) None = ⊥
Steps nodes base fs (Ok wait) (Some s) = ShowsState nodes base fs wait s
Steps nodes base fs (Err faults.Memory) o = Unit {0}
Steps nodes base fs (Err faults.Wrong) None = Unit {0}
Steps nodes base fs (Err faults.Wrong) (Some s) = ⊥

-- what the end made is what the machine makes, unless memory ran out
unfoldable pub Ends : List Node → ℕ → Result ℕ StepFault → Option Regex → Type 0
Ends nodes base (Ok n) None = ⊥
Ends nodes base (Ok n) (Some r) = HoldsRegex r nodes n base
Ends nodes base (Err faults.Memory) o = Unit {0}
Ends nodes base (Err faults.Wrong) None = Unit {0}
Ends nodes base (Err faults.Wrong) (Some r) = ⊥

-- these constructs, and an offset after them, are those of some entries
abbrev pub SomeConstructs : List Node → List Construct → ℕ → Type 0
SomeConstructs nodes fs at = (base : ℕ) × (es : List Entry)
    × ConstructsShow nodes base (reverse fs) es × (at ≡ base + length (entries es))

abbrev pub SomeState : List Node → List Construct → Wait → ℕ → Type 0
SomeState nodes fs wait at = (base : ℕ) × (s : State) × ShowsState nodes base fs wait s
    × (at ≡ base + length (bytes_read s))

abbrev pub SomeBehind : List Node → List Construct → Placed → ℕ → Type 0
SomeBehind nodes fs part at = (base : ℕ) × (es : List Entry) × (i : Item)
    × ConstructsShow nodes base (reverse fs) es × (part.at ≡ base + length (entries es))
    × (at ≡ part.at + length (item i)) × HoldsItem i nodes part.node part.at

abbrev pub SomeTurned : List Node → List Construct → Repetition → ℕ → Type 0
SomeTurned nodes fs r at = (base : ℕ) × (es : List Entry) × (i : Item) × (p : Postfix)
    × ConstructsShow nodes base (reverse fs) es × (r.item.at ≡ base + length (entries es))
    × (at ≡ r.item.at + length (item i ++ postfix p)) × HoldsItem i nodes r.item.node r.item.at
    × HoldsBounds r.bounds p

-- ---- what clauses say

-- where the constructs show entries, after which comes an item with this node
abbrev pub OnItem : List Node → List Construct → Placed → (ℕ → List Entry → Item → Type 0) → Type 0
OnItem nodes constructs placed Says = (base : ℕ) (es : List Entry) (i : Item)
    → ConstructsShow nodes base (reverse constructs) es → placed.at ≡ base + length (entries es)
    → HoldsItem i nodes placed.node placed.at → Says base es i

-- and where the item has this postfix
abbrev pub OnTurned : List Node → List Construct → Repetition
    → (ℕ → List Entry → Item → Postfix → Type 0) → Type 0
OnTurned nodes constructs r Says = (base : ℕ) (es : List Entry) (i : Item) (p : Postfix)
    → ConstructsShow nodes base (reverse constructs) es → r.item.at ≡ base + length (entries es)
    → HoldsItem i nodes r.item.node r.item.at → HoldsBounds r.bounds p → Says base es i p

-- ---- nodes that are held: they have no parent yet

abbrev pub InConstruct : Construct → ℕ → Type 0
InConstruct (constructs.Mark at) n = ⊥
InConstruct (constructs.Ended m at) n = n ≡ m
InConstruct (constructs.Piece m at) n = n ≡ m

abbrev pub InConstructs : List Construct → ℕ → Type 0
InConstructs fs n = (f : Construct) × IsAmong fs f × InConstruct f n

abbrev pub InWait : Wait → ℕ → Type 0
InWait (waits.After item) n = n ≡ item.node
InWait (waits.Turned r) n = n ≡ r.item.node
InWait (waits.InCount item count brace) n = n ≡ item.node
InWait _ n = ⊥

abbrev pub IsHeld : List Construct → Wait → ℕ → Type 0
IsHeld fs wait n = InConstructs fs n ⊎ InWait wait n

-- a step loses no node
abbrev pub LosesNone : List Node → List Node → List Construct → Wait → List Construct
    → Result Wait StepFault → Type 0
LosesNone old new fs wait gs result =
    IfOk result (λ next. NoneLost old new (IsHeld fs wait) (IsHeld gs next))
