-- Which nodes show a tree, whatever their numbers.
use Rattle.std.specs.Prelude.{◌≡◌, ℕ, ◌+◌, ◌<◌, Bool, true, false, List, [], ◌∷◌, length, Option}
use Rattle.std.specs.Prelude.{Some, None, slice_get}
use Rattle.kex_code.specs.declared.piece.Piece.{Piece}
use Rattle.kex_code.specs.declared.piece.Piece.TheVariants as pieces
use Rattle.kex_model.specs.declared.program.Kind.{Kind}
use Rattle.kex_model.specs.declared.program.Kind.TheVariants as kinds
use Rattle.kex_model.specs.declared.program.Node.{Node}
use Rattle.kex_model.specs.declared.program.Definition.{Definition as Root}
use Rattle.kex_model.specs.declared.program.Start.{Start}
use Rattle.kex_tokens.specs.Values.{StandsFor}
use Rattle.kex_regexp.specs.declared.breaks.Break.{Break}
use Rattle.kex_regexp.specs.Bodies.{SpellsRegex}
use Rattle.kex_regexp.specs.Grammar.{Regex as Body}
use Rattle.kex_regexp.specs.Postfixes.{low, high}
use Rattle.kex_regexp.specs.Shown.{ShowsRegex}
use Rattle.kex_reader.specs.Syntax.{RegisterPart, Text, Held, Term, Last, Or, Seq, Only, Then, Pre}
use Rattle.kex_reader.specs.Syntax.{Mute, Into, Once, Turns, Atom, One, Call, Lit, Match, Write}
use Rattle.kex_reader.specs.Syntax.{Assign, Group, Definition, term, seq, pre}

-- what is made of a text: nodes, names and registers by their numbers, and the least limit that was
-- broken
pub record Made : Type 0 where
  pub nodes : List Node
  pub names : List (List ℕ)
  pub registers : List (List ℕ)
  pub broken : Option Break

-- node n is of this kind and at this offset
abbrev pub IsNode : Made → ℕ → Kind → ℕ → Type 0
IsNode made n kind at = slice_get made.nodes n ≡ Some (record { kind = kind; at = at })

abbrev pub IsName : Made → ℕ → List ℕ → Type 0
IsName made k name = slice_get made.names k ≡ Some name

abbrev pub IsRegister : Made → ℕ → List ℕ → Type 0
IsRegister made k register = slice_get made.registers k ≡ Some register

unfoldable pub ShowsPart : RegisterPart → Made → Piece → Type 0
ShowsPart (Text s) made (pieces.Lit bytes) = StandsFor s bytes
ShowsPart (Held r) made (pieces.Register k) = IsRegister made k r
ShowsPart _ made _ = ⊥

unfoldable pub ShowsParts : List RegisterPart → Made → List Piece → Type 0
ShowsParts [] made [] = Unit {0}
ShowsParts (p ∷ ps) made (q ∷ qs) = ShowsPart p made q × ShowsParts ps made qs
ShowsParts _ made _ = ⊥

abbrev pub assignment_kind : Bool → ℕ → List Piece → Kind
assignment_kind false k ps = kinds.Set k ps
assignment_kind true k ps = kinds.Add k ps

-- node n shows a tree whose first word has number i, where word number i has the offset at i. Once
-- a limit is broken, a body and a count may have any node.
unfoldable mutual
  pub ShowsTerm : Term → Made → (ℕ → ℕ) → ℕ → ℕ → Type 0
  ShowsTerm (Last s) made at n i = ShowsSeq s made at n i
  ShowsTerm (Or s t) made at n i = (l : ℕ) × (r : ℕ) × IsNode made n (kinds.Alt l r) (at i)
      × ShowsSeq s made at l i × ShowsTerm t made at r (i + length (seq s) + 1)

  pub ShowsSeq : Seq → Made → (ℕ → ℕ) → ℕ → ℕ → Type 0
  ShowsSeq (Only p) made at n i = ShowsPre p made at n i
  ShowsSeq (Then p s) made at n i = (l : ℕ) × (r : ℕ) × IsNode made n (kinds.Seq l r) (at i)
      × ShowsPre p made at l i × ShowsSeq s made at r (i + length (pre p))

  pub ShowsPre : Pre → Made → (ℕ → ℕ) → ℕ → ℕ → Type 0
  ShowsPre (Mute p) made at n i = (m : ℕ) × IsNode made n (kinds.Mute m) (at i)
      × ShowsPre p made at m (i + 1)
  ShowsPre (Into r p) made at n i = (k : ℕ) × (m : ℕ) × IsNode made n (kinds.At k m) (at i)
      × IsRegister made k r × ShowsPre p made at m (i + 2)
  ShowsPre (Once a) made at n i = ShowsAtom a made at n i
  ShowsPre (Turns a p lazy) made at n i = (n < length made.nodes) × (m : ℕ) × (made.broken ≡ None
      → IsNode made n (kinds.Rep m (low p) (high p) lazy) (at i)) × ShowsAtom a made at m i

  pub ShowsAtom : Atom → Made → (ℕ → ℕ) → ℕ → ℕ → Type 0
  ShowsAtom One made at n i = IsNode made n kinds.One (at i)
  ShowsAtom (Call name) made at n i = (k : ℕ) × IsNode made n (kinds.Call k) (at i)
      × IsName made k name
  ShowsAtom (Lit s) made at n i = (bytes : List ℕ) × IsNode made n (kinds.Lit bytes) (at i)
      × StandsFor s bytes
  ShowsAtom (Match b) made at n i = (n < length made.nodes)
      × (made.broken ≡ None → (r : Body) × SpellsRegex r b × ShowsRegex r made.nodes n (at i + 1))
  ShowsAtom (Write r) made at n i = (k : ℕ) × IsNode made n (kinds.Write k) (at i)
      × IsRegister made k r
  ShowsAtom (Assign append r p ps) made at n i = (k : ℕ) × (qs : List Piece)
      × IsNode made n (assignment_kind append k qs) (at i) × IsRegister made k r
      × ShowsParts (p ∷ ps) made qs
  -- a group is its content
  ShowsAtom (Group t) made at n i = ShowsTerm t made at n (i + 1)

-- the definitions, in their order
unfoldable pub ShowsDefinitions : List Definition → Made → (ℕ → ℕ) → List Root → ℕ → Type 0
ShowsDefinitions [] made at [] i = Unit {0}
ShowsDefinitions (d ∷ ds) made at (r ∷ rs) i = IsName made r.name d.name × (r.at ≡ at i)
    × ShowsTerm d.term made at r.root (i + 2)
    × ShowsDefinitions ds made at rs (i + 2 + length (term d.term))
ShowsDefinitions _ made at _ i = ⊥

-- the stages of a start line, in their order
unfoldable pub ShowsStages : List (List ℕ) → Made → (ℕ → ℕ) → List Start → ℕ → Type 0
ShowsStages [] made at [] i = Unit {0}
ShowsStages (n ∷ ns) made at (s ∷ ss) i = IsName made s.name n × (s.at ≡ at i)
    × ShowsStages ns made at ss (i + 2)
ShowsStages _ made at _ i = ⊥
