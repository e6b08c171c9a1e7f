-- What is made grows, and what was shown is shown still.
use Rattle.std.proofs.Common.{◌≡◌, ℕ, ◌+◌, ◌<◌, ◌≤◌, List, [], ◌∷◌, ◌++◌, ◌⊎◌, inl, inr, length, Some, None, sym, ap, subst, arith, length-append}
use Rattle.std.specs.Prelude.{slice_get}
use Rattle.std.proofs.lemmas.List.{append-nil}
use Rattle.std.proofs.lemmas.Option.{slice_get_within}
use Rattle.kex_code.specs.Codes.{Begins, IsAmong}
use Rattle.kex_code.specs.declared.piece.Piece.{Piece}
use Rattle.kex_code.specs.declared.piece.Piece.TheVariants as pieces
use Rattle.kex_model.specs.declared.program.Kind.{Kind}
use Rattle.kex_model.specs.declared.program.Kind.TheVariants as kinds
use Rattle.kex_model.specs.declared.program.Node.{Node}
use Rattle.kex_model.specs.declared.program.Definition.{Definition as Root}
use Rattle.kex_model.specs.declared.program.Start.{Start}
use Rattle.kex_model.specs.Programs.{HasNames, HasPieces}
use Rattle.kex_model.proofs.Tables.{get_more}
use Rattle.kex_regexp.specs.Grammar.{Regex as Body, Last as LastBranch, Or as OrBranch, Branch, Empty, Then as ThenPiece, Piece as Item', Once as OnceItem, Turns as TurnsItem, Item, Plain, Escaped, Dot, Set, Group as Grouped, branch, piece}
use Rattle.kex_regexp.specs.Shown.{ShowsRegex, ShowsBranch, ShowsPiece, ShowsItem, IsOfBodies, Adds}
use Rattle.kex_reader.specs.Syntax.{RegisterPart, Text, Held, Term, Last, Or, Seq, Only, Then, Pre, Mute, Into, Once, Turns, Atom, One, Call, Lit, Match, Write, Assign, Group, Definition, term, seq, pre}
use Rattle.kex_reader.specs.Shown.{Made, ShowsTerm, ShowsSeq, ShowsPre, ShowsAtom, ShowsPart, ShowsParts, ShowsDefinitions, ShowsStages}
use Rattle.kex_reader.specs.Stands.{Keeps}
use Rattle.kex_reader.proofs.NumberedNames.{among_push}

-- ---- growing

pub begun : {A : Type 0} (xs ys : List A) (k : ℕ) (v : A) → Begins ys xs → slice_get xs k ≡ Some v → slice_get ys k ≡ Some v
begun xs ys k v b e = subst (λ (zs : List _). slice_get zs k ≡ Some v) (sym b.1) (get_more xs b.0 k v e)

pub begun_long : {A : Type 0} (xs ys : List A) → Begins ys xs → length xs ≤ length ys
begun_long xs ys b = omega (arith, ap (λ (zs : List _). length zs) b.1, length-append xs b.0)

pub begins_same : {A : Type 0} (xs : List A) → Begins xs xs
begins_same xs = ([], sym (append-nil xs))

pub keeping : (old new : Made) → Begins new.nodes old.nodes → Begins new.names old.names → Begins new.registers old.registers → (new.broken ≡ None → old.broken ≡ None) → Keeps old new
keeping old new n a r b = record {
  nodes = λ k v e. begun old.nodes new.nodes k v n e;
  names = λ k v e. begun old.names new.names k v a e;
  registers = λ k v e. begun old.registers new.registers k v r e;
  long = begun_long old.nodes new.nodes n;
  broken = b;
}

pub Keeps-refl : (a : Made) → Keeps a a
Keeps-refl a = record { nodes = λ k v e. e; names = λ k v e. e; registers = λ k v e. e; long = omega arith; broken = λ e. e }

pub Keeps-trans : (a b c : Made) → Keeps a b → Keeps b c → Keeps a c
Keeps-trans a b c f g = record {
  nodes = λ k v e. g.nodes k v (f.nodes k v e);
  names = λ k v e. g.names k v (f.names k v e);
  registers = λ k v e. g.registers k v (f.registers k v e);
  long = omega (arith, f.long, g.long);
  broken = λ e. f.broken (g.broken e);
}

pub ruleset keeping_rules = (Keeps-refl, Keeps-trans)

-- ---- names in range

pub pieces_more : (a b : ℕ) (ps : List Piece) → a ≤ b → HasPieces a ps → HasPieces b ps
pieces_more a b ps l h r m = omega (arith, l, h r m)

pub names_more : (a b r s : ℕ) (k : Kind) → a ≤ b → r ≤ s → HasNames a r k → HasNames b s k
names_more a b r s (kinds.Call n) l m h = omega (arith, l, h)
names_more a b r s (kinds.At n t) l m h = omega (arith, m, h)
names_more a b r s (kinds.Write n) l m h = omega (arith, m, h)
names_more a b r s (kinds.Set n ps) l m h = (omega (arith, m, h.0), pieces_more r s ps m h.1)
names_more a b r s (kinds.Add n ps) l m h = (omega (arith, m, h.0), pieces_more r s ps m h.1)
names_more a b r s kinds.One l m h = tt
names_more a b r s (kinds.Lit x) l m h = tt
names_more a b r s (kinds.Class x) l m h = tt
names_more a b r s (kinds.Seq x y) l m h = tt
names_more a b r s (kinds.Alt x y) l m h = tt
names_more a b r s (kinds.Rep x y z w) l m h = tt
names_more a b r s (kinds.Mute x) l m h = tt

pub all_named : (a b r s : ℕ) (nodes : List Node) → a ≤ b → r ≤ s → ((n : Node) → IsAmong nodes n → HasNames a r n.kind) → (n : Node) → IsAmong nodes n → HasNames b s n.kind
all_named a b r s nodes l m h n i = names_more a b r s n.kind l m (h n i)

pub named_push : (a r : ℕ) (nodes : List Node) (x : Node) → ((n : Node) → IsAmong nodes n → HasNames a r n.kind) → HasNames a r x.kind → (n : Node) → IsAmong (nodes ++ x ∷ []) n → HasNames a r n.kind
named_push a r nodes x h k n i = elim (among_push nodes x n i) [ inl g ↦ h n g | inr g ↦ subst (λ (y : Node). HasNames a r y.kind) g k ]

pub of_bodies : (a r : ℕ) (k : Kind) → IsOfBodies k → HasNames a r k
of_bodies a r kinds.One h = tt
of_bodies a r (kinds.Lit x) h = absurd h
of_bodies a r (kinds.Class x) h = tt
of_bodies a r (kinds.Call x) h = absurd h
of_bodies a r (kinds.Seq x y) h = tt
of_bodies a r (kinds.Alt x y) h = tt
of_bodies a r (kinds.Rep x y z w) h = tt
of_bodies a r (kinds.Mute x) h = absurd h
of_bodies a r (kinds.At x y) h = absurd h
of_bodies a r (kinds.Write x) h = absurd h
of_bodies a r (kinds.Set x y) h = absurd h
of_bodies a r (kinds.Add x y) h = absurd h

among_append : {A : Type 0} (xs ys : List A) (y : A) → IsAmong (xs ++ ys) y → IsAmong xs y ⊎ IsAmong ys y
among_append [] ys y h = inr h
among_append (x ∷ xs) ys y (inl h) = inl (inl h)
among_append (x ∷ xs) ys y (inr h) = elim (among_append xs ys y h) [ inl g ↦ inl (inr g) | inr g ↦ inr g ]

pub adds_named : (a r : ℕ) (old new : List Node) → Adds old new → ((n : Node) → IsAmong old n → HasNames a r n.kind) → (n : Node) → IsAmong new n → HasNames a r n.kind
adds_named a r old new d h n i = elim (among_append old d.more n (subst (λ (ns : List Node). IsAmong ns n) d.is i)) [ inl g ↦ h n g | inr g ↦ of_bodies a r n.kind (d.kinds n g) ]

pub adds_begins : (old new : List Node) → Adds old new → Begins new old
adds_begins old new d = (d.more, d.is)

-- ---- bodies

mutual
  unfolding ShowsRegex ShowsBranch ShowsPiece ShowsItem

  pub body_more : (r : Body) (a b : List Node) (n at : ℕ) → ((k : ℕ) (v : Node) → slice_get a k ≡ Some v → slice_get b k ≡ Some v) → ShowsRegex r a n at → ShowsRegex r b n at
  body_more (LastBranch c) a b n at k h = branch_more c a b n at k h
  body_more (OrBranch c r) a b n at k h = (h.0, h.1, k n _ h.2, branch_more c a b h.0 at k h.3, body_more r a b h.1 (at + length (branch c) + 1) k h.4)

  pub branch_more : (c : Branch) (a b : List Node) (n at : ℕ) → ((k : ℕ) (v : Node) → slice_get a k ≡ Some v → slice_get b k ≡ Some v) → ShowsBranch c a n at → ShowsBranch c b n at
  branch_more Empty a b n at k h = k n _ h
  branch_more (ThenPiece p Empty) a b n at k h = piece_more p a b n at k h
  branch_more (ThenPiece p (ThenPiece q c)) a b n at k h = (h.0, h.1, k n _ h.2, piece_more p a b h.0 at k h.3, branch_more (ThenPiece q c) a b h.1 (at + length (piece p)) k h.4)

  pub piece_more : (p : Item') (a b : List Node) (n at : ℕ) → ((k : ℕ) (v : Node) → slice_get a k ≡ Some v → slice_get b k ≡ Some v) → ShowsPiece p a n at → ShowsPiece p b n at
  piece_more (OnceItem i) a b n at k h = item_more i a b n at k h
  piece_more (TurnsItem i p l) a b n at k h = (h.0, k n _ h.1, item_more i a b h.0 at k h.2)

  pub item_more : (i : Item) (a b : List Node) (n at : ℕ) → ((k : ℕ) (v : Node) → slice_get a k ≡ Some v → slice_get b k ≡ Some v) → ShowsItem i a n at → ShowsItem i b n at
  item_more (Plain c) a b n at k h = (h.0, h.1, k n _ h.2)
  item_more (Escaped e) a b n at k h = (h.0, h.1, k n _ h.2)
  item_more Dot a b n at k h = (h.0, h.1, k n _ h.2)
  item_more (Set negated ms) a b n at k h = (h.0, h.1, k n _ h.2)
  item_more (Grouped r) a b n at k h = body_more r a b n (at + 1) k h

mutual
  unfolding ShowsRegex ShowsBranch ShowsPiece ShowsItem

  pub body_within : (r : Body) (nodes : List Node) (n at : ℕ) → ShowsRegex r nodes n at → n < length nodes
  body_within (LastBranch b) nodes n at h = branch_within b nodes n at h
  body_within (OrBranch b r) nodes n at h = slice_get_within nodes n _ h.2

  pub branch_within : (b : Branch) (nodes : List Node) (n at : ℕ) → ShowsBranch b nodes n at → n < length nodes
  branch_within Empty nodes n at h = slice_get_within nodes n _ h
  branch_within (ThenPiece p Empty) nodes n at h = piece_within p nodes n at h
  branch_within (ThenPiece p (ThenPiece q b)) nodes n at h = slice_get_within nodes n _ h.2

  pub piece_within : (p : Item') (nodes : List Node) (n at : ℕ) → ShowsPiece p nodes n at → n < length nodes
  piece_within (OnceItem i) nodes n at h = item_within i nodes n at h
  piece_within (TurnsItem i p l) nodes n at h = slice_get_within nodes n _ h.1

  pub item_within : (i : Item) (nodes : List Node) (n at : ℕ) → ShowsItem i nodes n at → n < length nodes
  item_within (Plain c) nodes n at h = slice_get_within nodes n _ h.2
  item_within (Escaped e) nodes n at h = slice_get_within nodes n _ h.2
  item_within Dot nodes n at h = slice_get_within nodes n _ h.2
  item_within (Set negated ms) nodes n at h = slice_get_within nodes n _ h.2
  item_within (Grouped r) nodes n at h = body_within r nodes n (at + 1) h

-- ---- terms

pub part_more : (p : RegisterPart) (a b : Made) (q : Piece) → Keeps a b → ShowsPart p a q → ShowsPart p b q
unfolding ShowsPart
part_more (Text s) a b (pieces.Lit bytes) k h = h
part_more (Text s) a b (pieces.Register r) k h = absurd h
part_more (Held r) a b (pieces.Lit bytes) k h = absurd h
part_more (Held r) a b (pieces.Register n) k h = k.registers n r h

pub parts_more : (ps : List RegisterPart) (a b : Made) (qs : List Piece) → Keeps a b → ShowsParts ps a qs → ShowsParts ps b qs
unfolding ShowsParts
parts_more [] a b [] k h = tt
parts_more [] a b (q ∷ qs) k h = absurd h
parts_more (p ∷ ps) a b [] k h = absurd h
parts_more (p ∷ ps) a b (q ∷ qs) k h = (part_more p a b q k h.0, parts_more ps a b qs k h.1)

mutual
  unfolding ShowsTerm ShowsSeq ShowsPre ShowsAtom

  pub term_more : (t : Term) (a b : Made) (at : ℕ → ℕ) (n i : ℕ) → Keeps a b → ShowsTerm t a at n i → ShowsTerm t b at n i
  term_more (Last s) a b at n i k h = seq_more s a b at n i k h
  term_more (Or s t) a b at n i k h = (h.0, h.1, k.nodes n _ h.2, seq_more s a b at h.0 i k h.3, term_more t a b at h.1 (i + length (seq s) + 1) k h.4)

  pub seq_more : (s : Seq) (a b : Made) (at : ℕ → ℕ) (n i : ℕ) → Keeps a b → ShowsSeq s a at n i → ShowsSeq s b at n i
  seq_more (Only p) a b at n i k h = pre_more p a b at n i k h
  seq_more (Then p s) a b at n i k h = (h.0, h.1, k.nodes n _ h.2, pre_more p a b at h.0 i k h.3, seq_more s a b at h.1 (i + length (pre p)) k h.4)

  pub pre_more : (p : Pre) (a b : Made) (at : ℕ → ℕ) (n i : ℕ) → Keeps a b → ShowsPre p a at n i → ShowsPre p b at n i
  pre_more (Mute p) a b at n i k h = (h.0, k.nodes n _ h.1, pre_more p a b at h.0 (i + 1) k h.2)
  pre_more (Into r p) a b at n i k h = (h.0, h.1, k.nodes n _ h.2, k.registers h.0 r h.3, pre_more p a b at h.1 (i + 2) k h.4)
  pre_more (Once x) a b at n i k h = atom_more x a b at n i k h
  pre_more (Turns x p l) a b at n i k h = (omega (arith, h.0, k.long), h.1, λ e. k.nodes n _ (h.2 (k.broken e)), atom_more x a b at h.1 i k h.3)

  pub atom_more : (x : Atom) (a b : Made) (at : ℕ → ℕ) (n i : ℕ) → Keeps a b → ShowsAtom x a at n i → ShowsAtom x b at n i
  atom_more One a b at n i k h = k.nodes n _ h
  atom_more (Call name) a b at n i k h = (h.0, k.nodes n _ h.1, k.names h.0 name h.2)
  atom_more (Lit s) a b at n i k h = (h.0, k.nodes n _ h.1, h.2)
  atom_more (Match body) a b at n i k h = (omega (arith, h.0, k.long), λ e. let r = h.1 (k.broken e) in (r.0, r.1, body_more r.0 a.nodes b.nodes n (at i + 1) k.nodes r.2))
  atom_more (Write r) a b at n i k h = (h.0, k.nodes n _ h.1, k.registers h.0 r h.2)
  atom_more (Assign append r p ps) a b at n i k h = (h.0, h.1, k.nodes n _ h.2, k.registers h.0 r h.3, parts_more (p ∷ ps) a b h.1 k h.4)
  atom_more (Group t) a b at n i k h = term_more t a b at n (i + 1) k h

mutual
  unfolding ShowsTerm ShowsSeq ShowsPre ShowsAtom

  pub term_within : (t : Term) (a : Made) (at : ℕ → ℕ) (n i : ℕ) → ShowsTerm t a at n i → n < length a.nodes
  term_within (Last s) a at n i h = seq_within s a at n i h
  term_within (Or s t) a at n i h = slice_get_within a.nodes n _ h.2

  pub seq_within : (s : Seq) (a : Made) (at : ℕ → ℕ) (n i : ℕ) → ShowsSeq s a at n i → n < length a.nodes
  seq_within (Only p) a at n i h = pre_within p a at n i h
  seq_within (Then p s) a at n i h = slice_get_within a.nodes n _ h.2

  pub pre_within : (p : Pre) (a : Made) (at : ℕ → ℕ) (n i : ℕ) → ShowsPre p a at n i → n < length a.nodes
  pre_within (Mute p) a at n i h = slice_get_within a.nodes n _ h.1
  pre_within (Into r p) a at n i h = slice_get_within a.nodes n _ h.2
  pre_within (Once x) a at n i h = atom_within x a at n i h
  pre_within (Turns x p l) a at n i h = h.0

  pub atom_within : (x : Atom) (a : Made) (at : ℕ → ℕ) (n i : ℕ) → ShowsAtom x a at n i → n < length a.nodes
  atom_within One a at n i h = slice_get_within a.nodes n _ h
  atom_within (Call name) a at n i h = slice_get_within a.nodes n _ h.1
  atom_within (Lit s) a at n i h = slice_get_within a.nodes n _ h.1
  atom_within (Match body) a at n i h = h.0
  atom_within (Write r) a at n i h = slice_get_within a.nodes n _ h.1
  atom_within (Assign append r p ps) a at n i h = slice_get_within a.nodes n _ h.2
  atom_within (Group t) a at n i h = term_within t a at n (i + 1) h

pub definitions_more : (ds : List Definition) (a b : Made) (at : ℕ → ℕ) (rs : List Root) (i : ℕ) → Keeps a b → ShowsDefinitions ds a at rs i → ShowsDefinitions ds b at rs i
unfolding ShowsDefinitions
definitions_more [] a b at [] i k h = tt
definitions_more [] a b at (r ∷ rs) i k h = absurd h
definitions_more (d ∷ ds) a b at [] i k h = absurd h
definitions_more (d ∷ ds) a b at (r ∷ rs) i k h = (k.names r.name d.name h.0, h.1, term_more d.term a b at r.root (i + 2) k h.2, definitions_more ds a b at rs (i + 2 + length (term d.term)) k h.3)

pub stages_more : (ns : List (List ℕ)) (a b : Made) (at : ℕ → ℕ) (ss : List Start) (i : ℕ) → Keeps a b → ShowsStages ns a at ss i → ShowsStages ns b at ss i
unfolding ShowsStages
stages_more [] a b at [] i k h = tt
stages_more [] a b at (s ∷ ss) i k h = absurd h
stages_more (n ∷ ns) a b at [] i k h = absurd h
stages_more (n ∷ ns) a b at (s ∷ ss) i k h = (k.names s.name n h.0, h.1, stages_more ns a b at ss (i + 2) k h.2)
