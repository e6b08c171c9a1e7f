-- What is learnt of a table and a machine, and when it is right.
use Rattle.std.specs.Prelude.{◌≡◌, ◌<◌, ◌≤◌, ◌+◌, ◌*◌, ◌^◌, ◌⊎◌, ℕ, List, [], ◌∷◌, ◌++◌, Some, All}
use Rattle.std.specs.Prelude.{true, length, if◌then◌else◌, take, drop, slice_get}
use Rattle.kex_code.specs.declared.symbol.Symbol.{Symbol}
use Rattle.kex_model.specs.Acting.{ActingState}
use Rattle.kex_machine.specs.declared.MNode.{MNode}
use Rattle.kex_machine.specs.Nodes.{Graph}
use Rattle.kex_action.specs.declared.action.Action.{Action}
use Rattle.kex_action.specs.declared.deed.Deed.{Deed}
use Rattle.kex_action.specs.Holdings.{Does, with_bytes}
use Rattle.kex_action.specs.Actions.{after_actions}
use Rattle.kex_action.specs.Deeds.{after_deeds}
use Rattle.kex_action.specs.Sheets.{with_buffer}
use Rattle.kex_sst.specs.declared.table.Transition.{Transition}
use Rattle.kex_sst.specs.Tables.{Transducer, transition_of}
use Rattle.kex_moves.specs.declared.edge.Edge.{Edge}
use Rattle.kex_moves.specs.declared.edge.EdgeKind.TheVariants.{Opens}
use Rattle.kex_moves.specs.declared.edges.Pair.{Pair}
use Rattle.kex_moves.specs.Edges.{writes, is_written, is_known, has_acts, IsUnlearnt}
use Rattle.kex_moves.specs.Edges.{HasRoom, IsAtRow}
use Rattle.kex_moves.specs.Runs.{Rows}
use Rattle.kex_held.specs.Walks.{TakesCode, code_with_byte}

-- the class of each byte, how long a row is (2 to the power of `shift`), the pairs of a state and a
-- node, for each of them a row of edges by class, and the texts and deeds of the edges
pub record Known : Type 0 where
  pub classes : List ℕ
  pub width : ℕ
  pub shift : ℕ
  pub pairs : List Pair
  pub edges : List Edge
  pub text : List ℕ
  pub acts : List Deed

abbrev pub rows_of : Known → Rows
rows_of k = record { classes = k.classes; edges = k.edges; text = k.text }

-- the edge leads to a row, its text or its deeds lie within, and it is written where it is alone
pub record IsEdge (k : Known) (e : Edge) : Type 0 where
  pub next : is_known e.kind ≡ true → e.next + k.width ≤ length k.edges
  pub begins : is_known e.kind ≡ true → (number : ℕ) × (e.next ≡ number * k.width)
  pub room : is_written e.kind ≡ true → HasRoom (length k.text) e
  pub acts : has_acts e.kind ≡ true → e.from + e.adds ≤ length k.acts
  pub alone : e.alone ≡ true → is_written e.kind ≡ true

-- an edge that keeps or drops leads back to its row
abbrev pub LeadBack : Known → Type 0
LeadBack k = (number class : ℕ) (e : Edge) → class < k.width
    → slice_get k.edges (number * k.width + class) ≡ Some e → IsAtRow (number * k.width) e

-- there is a row for each pair, with an edge for each class, and a text where nothing or the byte
-- alone is written
pub record IsOrdered (k : Known) : Type 0 where
  pub width : k.width ≡ 2 ^ k.shift
  pub few : k.shift ≤ 8
  pub bytes : length k.classes ≡ 256
  pub text : 16 ≤ length k.text
  pub classes : All (λ c. c < k.width) k.classes
  pub rows : length k.edges ≡ length k.pairs * k.width
  pub edges : All (IsEdge k) k.edges
  pub back : LeadBack k

-- the row is that of the pair
pub record IsPairRow (k : Known) (row : ℕ) (p : Pair) : Type 0 where
  pub number : ℕ
  pub at : slice_get k.pairs number ≡ Some p
  pub begins : row ≡ number * k.width

-- the row of a state and a node
abbrev pub HasRowFor : Known → ℕ → ℕ → ℕ → Type 0
HasRowFor k row state node = (p : Pair) × IsPairRow k row p × (p.state ≡ state) × (p.node ≡ node)

-- what an edge makes of a state of the actor where the byte b is read
abbrev pub makes : List MNode → Known → Edge → ℕ → ActingState → ActingState
makes nodes k e b s = if is_written e.kind then with_bytes (writes k.text e b) s
    else after_deeds nodes b (take e.adds (drop e.from k.acts)) s

-- an edge that opens makes just a buffer with the byte in it
abbrev pub IsOpening : List MNode → Known → Edge → Type 0
IsOpening nodes k e = e.kind ≡ Opens → (b : ℕ) (s : ActingState)
    → makes nodes k e b s ≡ with_buffer (b ∷ []) s

-- on a byte of the class the table goes from the pair's state to the edge's, with an update of
-- `out` alone. And for each byte with which its code can be taken from the pair's node, on the way
-- to anything, it leads to the edge's node and makes what the edge makes
pub record IsRight (t : Transducer) (nodes : List MNode) (k : Known) (p : Pair) (class : ℕ)
    (e : Edge) : Type 0 where
  pub by : Transition
  pub goes : transition_of t p.state class ≡ Some by
  pub bare : by.update.regs ≡ []
  pub to : Pair
  pub row : IsPairRow k e.next to
  pub target : to.state ≡ by.target
  pub does : (b : ℕ) (c : List Symbol)
      → TakesCode nodes p.node (code_with_byte b by.update.out ++ c)
      → Does nodes p.node (code_with_byte b by.update.out) to.node (makes nodes k e b)
  pub takes : (b : ℕ) (c : List Symbol)
      → TakesCode nodes p.node (code_with_byte b by.update.out ++ c) → TakesCode nodes to.node c
  pub opens : IsOpening nodes k e

-- each edge is right, or says nothing
abbrev pub AreRight : Transducer → List MNode → Known → Type 0
AreRight t nodes k = (number class : ℕ) (p : Pair) (e : Edge) → slice_get k.pairs number ≡ Some p
    → class < k.width → slice_get k.edges (number * k.width + class) ≡ Some e
    → is_known e.kind ≡ true → IsRight t nodes k p class e

-- a state of the table, and a node of the machine
pub record IsPairOf (t : Transducer) (g : Graph) (p : Pair) : Type 0 where
  pub state : p.state < length t.states
  pub node : p.node < length g.nodes

-- what is learnt is right of the table and the machine
pub record IsKnown (t : Transducer) (g : Graph) (k : Known) : Type 0 where
  pub ordered : IsOrdered k
  pub classes : k.classes ≡ t.classes
  pub pairs : All (IsPairOf t g) k.pairs
  pub right : AreRight t g.nodes k

-- rows are added of which nothing is learnt, for the state and the node
pub record Widens (old new : Known) (state node : ℕ) : Type 0 where
  pub pairs : List Pair
  pub edges : List Edge
  pub wider : new ≡ record {
    classes = old.classes;
    width = old.width;
    shift = old.shift;
    pairs = old.pairs ++ pairs;
    edges = old.edges ++ edges;
    text = old.text;
    acts = old.acts;
  }
  pub of : All (λ (p : Pair). (p.state ≡ state) × (p.node ≡ node)) pairs
  pub unknown : All IsUnlearnt edges

-- texts and deeds are added
pub record Lengthens (old new : Known) : Type 0 where
  pub text : List ℕ
  pub acts : List Deed
  pub longer : new ≡ record {
    classes = old.classes;
    width = old.width;
    shift = old.shift;
    pairs = old.pairs;
    edges = old.edges;
    text = old.text ++ text;
    acts = old.acts ++ acts;
  }

-- what was learnt of a row stays, and rows stay those of their pairs
pub record KnownGrows (old new : Known) : Type 0 where
  pub width : new.width ≡ old.width
  pub rows : (row : ℕ) (p : Pair) → IsPairRow old row p → IsPairRow new row p

-- the edge, if it says anything, leads to the row of a state and a node, and does what the actions
-- do
pub record IsLed (nodes : List MNode) (k : Known) (state node : ℕ) (actions : List Action)
    (e : Edge) : Type 0 where
  pub edge : IsEdge k e
  pub row : is_known e.kind ≡ true → HasRowFor k e.next state node
  pub does : is_known e.kind ≡ true → (b : ℕ) (s : ActingState)
      → after_actions nodes b actions s ≡ makes nodes k e b s
  pub opens : IsOpening nodes k e

-- all is forgotten
pub record Forgets (old new : Known) : Type 0 where
  pub ordered : IsOrdered new
  pub classes : new.classes ≡ old.classes
  pub pairs : new.pairs ≡ []
  pub edges : new.edges ≡ []

-- a text of at most 16 bytes in which the byte read has a place, or (16) none
pub record HasPlace (bytes : List ℕ) (p : ℕ) : Type 0 where
  pub count : length bytes ≤ 16
  pub place : (p < length bytes) ⊎ (p ≡ 16)

-- if the edge says anything, it leads to `next`, and makes f of a state; and it is written where it
-- is alone
pub record Settles (nodes : List MNode) (k : Known) (next : ℕ) (f : ℕ → ActingState → ActingState)
    (e : Edge) : Type 0 where
  pub goes : is_known e.kind ≡ true → e.next ≡ next
  pub room : is_written e.kind ≡ true → HasRoom (length k.text) e
  pub acts : has_acts e.kind ≡ true → e.from + e.adds ≤ length k.acts
  pub alone : e.alone ≡ true → is_written e.kind ≡ true
  pub does : is_known e.kind ≡ true → (b : ℕ) (s : ActingState) → f b s ≡ makes nodes k e b s
  pub opens : IsOpening nodes k e
