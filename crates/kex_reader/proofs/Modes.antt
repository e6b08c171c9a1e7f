-- The machine's mode, for each thing that the code waits for; parts and counts.
use Rattle.std.proofs.Common.{◌≡◌, ℕ, ◌+◌, ◌<◌, Bool, true, false, List, [], ◌∷◌, ◌++◌, inl, inr, length, Option, Some, None, Result, Ok, Err, refl, sym, ap, ◌∙◌, subst, arith, length-append}
use Rattle.std.specs.Prelude.{IfOk, OnOk}
use Rattle.std.proofs.lemmas.Option.{slice_get_within}
use Rattle.kex_code.specs.declared.piece.Piece.{Piece}
use Rattle.kex_code.specs.declared.piece.Piece.TheVariants as pieces
use Rattle.kex_model.specs.Programs.{HasBelow, HasNames, HasPieces}
use Rattle.kex_model.specs.declared.program.Kind.{Kind as NodeKind}
use Rattle.kex_model.specs.declared.program.Kind.TheVariants as nodes
use Rattle.kex_tokens.specs.declared.token.TokenKind.{TokenKind}
use Rattle.kex_tokens.specs.declared.token.TokenKind.TheVariants as kinds
use Rattle.kex_reader.specs.declared.stack.TermConstruct.{TermConstruct}
use Rattle.kex_reader.specs.declared.stack.PlacedNode.{PlacedNode as Shown}
use Rattle.kex_regexp.specs.declared.counts.Count.{Count}
use Rattle.kex_regexp.specs.declared.counts.CountOutcome.TheVariants as outcomes
use Rattle.kex_regexp.specs.declared.counts.Bounds.{Bounds}
use Rattle.kex_regexp.specs.Holding.{HoldsBounds, ShowsCount, ShowsCountStep}
use Rattle.kex_regexp.specs.Outcomes.{are_bad}
use Rattle.kex_regexp.proofs.CappedCounts.{bad_bounds}
use Rattle.kex_reader.specs.declared.pieces.Assignment.{Assignment}
use Rattle.kex_reader.specs.declared.word.Name.{Name as Named'}
use Rattle.kex_reader.specs.declared.inside.TermWait.{TermWait}
use Rattle.kex_reader.specs.declared.inside.TermWait.TheVariants as waits
use Rattle.kex_reader.specs.declared.inside.TermFault.{TermFault}
use Rattle.kex_reader.specs.declared.inside.TermFault.TheVariants as faults
use Rattle.kex_reader.specs.Syntax.{Word, Name, Literal, word, RegisterPart, Text, Held, Postfix, Turns, Atom, Write, Assign, Call, atom, postfix}
use Rattle.kex_reader.specs.Reading.{Entry, Mode, Need, Ready, After, Turned, Named, Writing, Bracket, BracketName, Assigning, Assigned, InCount, Inside, Counting, CountStep, CountOn, CountRead, CountWrong, goes, begin_pre, after_atom, after_term_turns, after_name, on_name, on_sign, first_part, next_part, count_step, on_count, step_in, inside, mode, entries}
use Rattle.kex_reader.specs.Shown.{Made, IsNode, IsRegister, ShowsPre, ShowsAtom, ShowsPart, ShowsParts, assignment_kind}
use Rattle.kex_reader.specs.Stands.{Keeps, NotesLeast, count_asks, ConstructsShow, HoldsTurns, IsLeaf, PieceShows, part_of, ShowsMode, SomeAtom, SomeConstructs, SomeInside, SomeName, SomeTermTurned, Steps}
use Rattle.kex_reader.proofs.Drafts.{atom_within, parts_more}
use Rattle.kex_reader.proofs.Stacks.{constructs_more}
use Rattle.kex_reader.proofs.MoreChecks.{same}
use Rattle.kex_reader.specs.Checks.{Check, postfix_checks}
use Rattle.kex_regexp.specs.declared.breaks.Break.{Break}
use Rattle.kex_reader.proofs.Steps.{to, turned, wrong, stood, write_shows}

-- ---- nodes

pub leaf_below : (n : ℕ) (k : NodeKind) → IsLeaf k → HasBelow n k
leaf_below n nodes.One h = tt
leaf_below n (nodes.Lit x) h = tt
leaf_below n (nodes.Class x) h = tt
leaf_below n (nodes.Call x) h = tt
leaf_below n (nodes.Seq x y) h = absurd h
leaf_below n (nodes.Alt x y) h = absurd h
leaf_below n (nodes.Rep x y z w) h = absurd h
leaf_below n (nodes.Mute x) h = absurd h
leaf_below n (nodes.At x y) h = absurd h
leaf_below n (nodes.Write x) h = tt
leaf_below n (nodes.Set x y) h = tt
leaf_below n (nodes.Add x y) h = tt

pub pieces_in : (ps : List RegisterPart) (made : Made) (qs : List Piece) → ShowsParts ps made qs → HasPieces (length made.registers) qs
unfolding ShowsParts ShowsPart
pieces_in [] made [] h r m = absurd m
pieces_in [] made (q ∷ qs) h r m = absurd h
pieces_in (p ∷ ps) made [] h r m = absurd h
pieces_in (p ∷ ps) made (q ∷ qs) h r (inr m) = pieces_in ps made qs h.1 r m
pieces_in (Text s ∷ ps) made (pieces.Lit x ∷ qs) h r (inl m) = absurd cc
pieces_in (Text s ∷ ps) made (pieces.Register x ∷ qs) h r (inl m) = absurd h.0
pieces_in (Held t ∷ ps) made (pieces.Lit x ∷ qs) h r (inl m) = absurd h.0
pieces_in (Held t ∷ ps) made (pieces.Register x ∷ qs) h r (inl m) =
    let e : x ≡ r = cc in
    let l = slice_get_within made.registers x t h.0 in
    omega (arith, e, l)

pub assigned_names : (append : Bool) (made : Made) (k : ℕ) (names : ℕ) (qs : List Piece) → k < length made.registers → HasPieces (length made.registers) qs → HasNames names (length made.registers) (assignment_kind append k qs)
assigned_names true made k names qs l h = (l, h)
assigned_names false made k names qs l h = (l, h)

pub assigned_leaf : (append : Bool) (k : ℕ) (qs : List Piece) → IsLeaf (assignment_kind append k qs)
assigned_leaf true k qs = tt
assigned_leaf false k qs = tt

-- ---- modes

pub mode_need : (made : Made) (at : ℕ → ℕ) (i : ℕ) (m : Mode) → ShowsMode made at i waits.Need m → m ≡ Need
unfolding ShowsMode
mode_need made at i Need s = refl
mode_need made at i _ s = absurd s

pub mode_ready : (made : Made) (at : ℕ → ℕ) (i : ℕ) (m : Mode) → ShowsMode made at i waits.Ready m → m ≡ Ready
unfolding ShowsMode
mode_ready made at i Ready s = refl
mode_ready made at i _ s = absurd s

pub mode_after : (made : Made) (at : ℕ → ℕ) (i : ℕ) (part : Shown) (m : Mode) → ShowsMode made at i (waits.After part) m → (a : Atom) × (m ≡ After a) × (part.at ≡ at i) × ShowsAtom a made at part.node i
unfolding ShowsMode
mode_after made at i part (After a) s = (a, refl, s.0, s.1)
mode_after made at i part _ s = absurd s

pub mode_turned : (made : Made) (at : ℕ → ℕ) (i : ℕ) (part : Shown) (b : Bounds) (m : Mode) → ShowsMode made at i (waits.Turned part b) m → (a : Atom) × (p : Postfix) × (m ≡ Turned a p) × (part.at ≡ at i) × ShowsAtom a made at part.node i × HoldsTurns made b p
unfolding ShowsMode
mode_turned made at i part b (Turned a p) s = (a, p, refl, s.0, s.1, s.2)
mode_turned made at i part b _ s = absurd s

pub mode_named : (made : Made) (at : ℕ → ℕ) (i : ℕ) (f : Bool) (n : Named') (m : Mode) → ShowsMode made at i (waits.Named f n) m → (m ≡ Named f n.bytes.now) × (n.at ≡ at i)
unfolding ShowsMode
mode_named made at i f n (Named g name) s = (ap (λ (x : Bool). Named x name) (sym s.0) ∙ ap (Named f) (sym s.1), s.2)
mode_named made at i f n _ s = absurd s

pub mode_writing : (made : Made) (at : ℕ → ℕ) (i a : ℕ) (m : Mode) → ShowsMode made at i (waits.Writing a) m → (m ≡ Writing) × (a ≡ at i)
unfolding ShowsMode
mode_writing made at i a Writing s = (refl, s)
mode_writing made at i a _ s = absurd s

pub mode_bracket : (made : Made) (at : ℕ → ℕ) (i a : ℕ) (m : Mode) → ShowsMode made at i (waits.Bracket a) m → (m ≡ Bracket) × (a ≡ at i)
unfolding ShowsMode
mode_bracket made at i a Bracket s = (refl, s)
mode_bracket made at i a _ s = absurd s

pub mode_bracket_name : (made : Made) (at : ℕ → ℕ) (i a k : ℕ) (m : Mode) → ShowsMode made at i (waits.BracketName a k) m → (r : List ℕ) × (m ≡ BracketName r) × (a ≡ at i) × IsRegister made k r
unfolding ShowsMode
mode_bracket_name made at i a k (BracketName r) s = (r, refl, s.0, s.1)
mode_bracket_name made at i a k _ s = absurd s

pub mode_assigning : (made : Made) (at : ℕ → ℕ) (i : ℕ) (x : Assignment) (m : Mode) → ShowsMode made at i (waits.Assigning x) m → (append : Bool) × (r : List ℕ) × (m ≡ Assigning append r)
unfolding ShowsMode
mode_assigning made at i x (Assigning append r) s = (append, r, refl)
mode_assigning made at i x _ s = absurd s

pub mode_assigned : (made : Made) (at : ℕ → ℕ) (i : ℕ) (x : Assignment) (m : Mode) → ShowsMode made at i (waits.Assigned x) m → (append : Bool) × (r : List ℕ) × (p : RegisterPart) × (ps : List RegisterPart) × (m ≡ Assigned append r p ps)
unfolding ShowsMode
mode_assigned made at i x (Assigned append r p ps) s = (append, r, p, ps, refl)
mode_assigned made at i x _ s = absurd s

pub mode_count : (made : Made) (at : ℕ → ℕ) (i : ℕ) (part : Shown) (c : Count) (brace : ℕ) (m : Mode) → ShowsMode made at i (waits.InCount part c brace) m → (a : Atom) × (d : Counting) × (m ≡ InCount a d) × (part.at ≡ at i) × ShowsAtom a made at part.node i × ShowsCount c d × (brace ≡ at (i + length (atom a)))
unfolding ShowsMode
mode_count made at i part c brace (InCount a d) s = (a, d, refl, s.0, s.1, s.2, s.3)
mode_count made at i part c brace _ s = absurd s

-- ---- parts

pub first_none : (append : Bool) (r : List ℕ) (es : List Entry) (w : Word) → part_of w ≡ None → first_part append r es w ≡ None
unfolding first_part
first_none append r es (Literal s) e = absurd cc
first_none append r es (Name s) e = absurd cc
first_none append r es _ e = refl

pub first_some : (append : Bool) (r : List ℕ) (es : List Entry) (w : Word) (p : RegisterPart) → part_of w ≡ Some p → first_part append r es w ≡ goes (Assigned append r p []) es
unfolding first_part
first_some append r es (Literal s) p e = ap (λ (x : RegisterPart). goes (Assigned append r x []) es) (cc)
first_some append r es (Name s) p e = ap (λ (x : RegisterPart). goes (Assigned append r x []) es) (cc)
first_some append r es _ p e = absurd cc

pub next_none : (append : Bool) (r : List ℕ) (p : RegisterPart) (ps : List RegisterPart) (es : List Entry) (k : TokenKind) (b : List ℕ) → (k ≡ kinds.CloseBracket → ⊥) → part_of (word k b) ≡ None → next_part append r p ps es (word k b) ≡ None
unfolding next_part
next_none append r p ps es kinds.Literal b n e = absurd cc
next_none append r p ps es kinds.Name b n e = absurd cc
next_none append r p ps es kinds.CloseBracket b n e = absurd (n refl)
next_none append r p ps es _ b n e = refl

pub next_some : (append : Bool) (r : List ℕ) (p : RegisterPart) (ps : List RegisterPart) (es : List Entry) (w : Word) (q : RegisterPart) → part_of w ≡ Some q → next_part append r p ps es w ≡ goes (Assigned append r p (ps ++ q ∷ [])) es
unfolding next_part
next_some append r p ps es (Literal s) q e = ap (λ (x : RegisterPart). goes (Assigned append r p (ps ++ x ∷ [])) es) (cc)
next_some append r p ps es (Name s) q e = ap (λ (x : RegisterPart). goes (Assigned append r p (ps ++ x ∷ [])) es) (cc)
next_some append r p ps es _ q e = absurd cc

pub next_close : (append : Bool) (r : List ℕ) (p : RegisterPart) (ps : List RegisterPart) (es : List Entry) (k : TokenKind) (b : List ℕ) → k ≡ kinds.CloseBracket → next_part append r p ps es (word k b) ≡ goes (After (Assign append r p ps)) es
unfolding next_part
next_close append r p ps es k b e = ap (λ (y : TokenKind). next_part append r p ps es (word y b)) e

pub parts_push : (ps : List RegisterPart) (p : RegisterPart) (made : Made) (qs : List Piece) (q : Piece) → ShowsParts ps made qs → ShowsPart p made q → ShowsParts (ps ++ p ∷ []) made (qs ++ q ∷ [])
unfolding ShowsParts
parts_push [] p made [] q h k = (k, tt)
parts_push [] p made (x ∷ qs) q h k = absurd h
parts_push (x ∷ ps) p made [] q h k = absurd h
parts_push (x ∷ ps) p made (y ∷ qs) q h k = (h.0, parts_push ps p made qs q h.1 k)

none_piece : (o : Option RegisterPart) (made : Made) → PieceShows o made None → o ≡ None
none_piece None made h = refl
none_piece (Some p) made h = absurd h

some_piece : (o : Option RegisterPart) (made : Made) (q : Piece) → PieceShows o made (Some q) → (p : RegisterPart) × (o ≡ Some p) × ShowsPart p made q
some_piece None made q h = absurd h
some_piece (Some p) made q h = (p, refl, h)

module _ (a b : Made) (at : ℕ → ℕ) (base : ℕ) (fs : List TermConstruct) (es : List Entry) (x : Assignment) (append : Bool) (r : List ℕ) (k : TokenKind) (bytes : List ℕ) where
  pub first_wrong : PieceShows (part_of (word k bytes)) b None → Steps b at base fs (Err faults.Wrong) (first_part append r es (word k bytes))
  first_wrong h = to b at base fs _ _ _ (first_none append r es (word k bytes) (none_piece (part_of (word k bytes)) b h)) (wrong b at base fs)

  pub first_on : (q : Piece) (y : Assignment) → y.at ≡ x.at → y.append ≡ x.append → y.register ≡ x.register → y.pieces.items ≡ x.pieces.items ++ q ∷ [] → Keeps a b → PieceShows (part_of (word k bytes)) b (Some q) → ConstructsShow a at base fs es → ShowsMode a at (base + length (entries es)) (waits.Assigning x) (Assigning append r) → Steps b at base fs (Ok (waits.Assigned y)) (first_part append r es (word k bytes))
  unfolding ShowsMode ShowsParts
  first_on q y e1 e2 e3 e4 keep h f m =
      let p = some_piece (part_of (word k bytes)) b q h in
      let items : y.pieces.items ≡ q ∷ [] = e4 ∙ ap (λ (z : List Piece). z ++ q ∷ []) m.3 in
      to b at base fs _ _ _ (first_some append r es (word k bytes) p.0 p.1)
      (stood b at base fs (waits.Assigned y) (Assigned append r p.0 []) es (constructs_more a b at base fs es keep f)
      (e1 ∙ m.0, e2 ∙ m.1, subst (λ (z : ℕ). IsRegister b z r) (sym e3) (keep.registers x.register r m.2), subst (λ (z : List Piece). ShowsParts (p.0 ∷ []) b z) (sym items) (p.2, tt)))

  pub next_wrong : (p : RegisterPart) (ps : List RegisterPart) → (k ≡ kinds.CloseBracket → ⊥) → PieceShows (part_of (word k bytes)) b None → Steps b at base fs (Err faults.Wrong) (next_part append r p ps es (word k bytes))
  next_wrong p ps n h = to b at base fs _ _ _ (next_none append r p ps es k bytes n (none_piece (part_of (word k bytes)) b h)) (wrong b at base fs)

  pub next_on : (p : RegisterPart) (ps : List RegisterPart) (q : Piece) (y : Assignment) → y.at ≡ x.at → y.append ≡ x.append → y.register ≡ x.register → y.pieces.items ≡ x.pieces.items ++ q ∷ [] → Keeps a b → PieceShows (part_of (word k bytes)) b (Some q) → ConstructsShow a at base fs es → ShowsMode a at (base + length (entries es)) (waits.Assigned x) (Assigned append r p ps) → Steps b at base fs (Ok (waits.Assigned y)) (next_part append r p ps es (word k bytes))
  unfolding ShowsMode
  next_on p ps q y e1 e2 e3 e4 keep h f m =
      let t = some_piece (part_of (word k bytes)) b q h in
      to b at base fs _ _ _ (next_some append r p ps es (word k bytes) t.0 t.1)
      (stood b at base fs (waits.Assigned y) (Assigned append r p (ps ++ t.0 ∷ [])) es (constructs_more a b at base fs es keep f)
      (e1 ∙ m.0, e2 ∙ m.1, subst (λ (z : ℕ). IsRegister b z r) (sym e3) (keep.registers x.register r m.2), subst (λ (z : List Piece). ShowsParts (p ∷ (ps ++ t.0 ∷ [])) b z) (sym e4) (parts_push (p ∷ ps) t.0 b x.pieces.items q (parts_more (p ∷ ps) a b x.pieces.items keep m.3) t.2)))

-- an assignment that is in range
pub assigned_in : (made : Made) (at : ℕ → ℕ) (i : ℕ) (x : Assignment) (append : Bool) (r : List ℕ) (p : RegisterPart) (ps : List RegisterPart) → ShowsMode made at i (waits.Assigned x) (Assigned append r p ps) → HasNames (length made.names) (length made.registers) (assignment_kind x.append x.register x.pieces.items)
unfolding ShowsMode
assigned_in made at i x append r p ps m = assigned_names x.append made x.register (length made.names) x.pieces.items (slice_get_within made.registers x.register r m.2) (pieces_in (p ∷ ps) made x.pieces.items m.3)

pub assign_shows : (a b : Made) (at : ℕ → ℕ) (i n : ℕ) (x : Assignment) (append : Bool) (r : List ℕ) (p : RegisterPart) (ps : List RegisterPart) → Keeps a b → ShowsMode a at i (waits.Assigned x) (Assigned append r p ps) → IsNode b n (assignment_kind x.append x.register x.pieces.items) x.at → ShowsAtom (Assign append r p ps) b at n i
unfolding ShowsMode ShowsAtom
assign_shows a b at i n x append r p ps k m h =
    (x.register, x.pieces.items, subst (λ (z : ℕ). IsNode b n (assignment_kind append x.register x.pieces.items) z) m.0 (subst (λ (z : Bool). IsNode b n (assignment_kind z x.register x.pieces.items) x.at) m.1 h), k.registers x.register r m.2, parts_more (p ∷ ps) a b x.pieces.items k m.3)

pub assigned_at : (made : Made) (at : ℕ → ℕ) (i : ℕ) (x : Assignment) (append : Bool) (r : List ℕ) (p : RegisterPart) (ps : List RegisterPart) → ShowsMode made at i (waits.Assigned x) (Assigned append r p ps) → x.at ≡ at i
unfolding ShowsMode
assigned_at made at i x append r p ps m = m.0

-- ---- counts

pub count_on : (made : Made) (at : ℕ → ℕ) (base : ℕ) (fs : List TermConstruct) (es : List Entry) (a : Atom) (item : Shown) (brace : ℕ) (c : Count) (t : CountStep) → ConstructsShow made at base fs es → item.at ≡ at (base + length (entries es)) → brace ≡ at (base + length (entries es) + length (atom a)) → ShowsAtom a made at item.node (base + length (entries es)) → ShowsCountStep (outcomes.On c) t → Steps made at base fs (Ok (waits.InCount item c brace)) (on_count a es t)
unfolding ShowsCountStep on_count ShowsMode
count_on made at base fs es a item brace c (CountOn d) h e b s k = stood made at base fs (waits.InCount item c brace) (InCount a d) es h (e, s, k, b)
count_on made at base fs es a item brace c (CountRead p) h e b s k = absurd k
count_on made at base fs es a item brace c CountWrong h e b s k = absurd k

pub count_wrong : (made : Made) (at : ℕ → ℕ) (base : ℕ) (fs : List TermConstruct) (es : List Entry) (a : Atom) (t : CountStep) → ShowsCountStep outcomes.Wrong t → Steps made at base fs (Err faults.Wrong) (on_count a es t)
unfolding ShowsCountStep on_count
count_wrong made at base fs es a (CountOn d) k = absurd k
count_wrong made at base fs es a (CountRead p) k = absurd k
count_wrong made at base fs es a CountWrong k = wrong made at base fs

-- a count that is read, once it has been noted
pub count_read : (made : Made) (at : ℕ → ℕ) (base : ℕ) (fs : List TermConstruct) (es : List Entry) (a : Atom) (item : Shown) (b : Bounds) (t : CountStep) → ConstructsShow made at base fs es → item.at ≡ at (base + length (entries es)) → ShowsAtom a made at item.node (base + length (entries es)) → ((p : Postfix) → HoldsBounds b p → HoldsTurns made b p) → ShowsCountStep (outcomes.Read b) t → Steps made at base fs (Ok (waits.Turned item b)) (on_count a es t)
unfolding ShowsCountStep on_count
count_read made at base fs es a item b (CountOn d) h e s f k = absurd k
count_read made at base fs es a item b (CountRead p) h e s f k = turned made at base fs es item b a p h e s (f p k)
count_read made at base fs es a item b CountWrong h e s f k = absurd k

pub count_notes : (b : Bounds) (t : CountStep) (cs : List Check) (o : Option Break) (from : ℕ) → ShowsCountStep (outcomes.Read b) t → ((p : Postfix) → HoldsBounds b p → NotesLeast (cs ++ postfix_checks p from) o) → NotesLeast (cs ++ count_asks from t) o
unfolding ShowsCountStep count_asks
count_notes b (CountOn d) cs o from k f = absurd k
count_notes b (CountRead p) cs o from k f = f p k
count_notes b CountWrong cs o from k f = absurd k

-- an atom alone, where its count is bad
pub bad_pre : (made : Made) (at : ℕ → ℕ) (n i : ℕ) (b : Bounds) (a : Atom) (p : Postfix) (lazy : Bool) → are_bad b ≡ true → HoldsTurns made b p → ShowsAtom a made at n i → ShowsPre (Turns a p lazy) made at n i
unfolding ShowsPre
bad_pre made at n i b a p lazy bad h s = (atom_within a made at n i s, n, λ e. absurd (h.1 (sym (bad_bounds b p h.0) ∙ bad) e), s)

-- ---- places

pub step_of : (i : Inside) (m : Mode) (w : Word) → i.mode ≡ m → step_in i.mode i.entries w ≡ step_in m i.entries w
step_of i m w e = ap (λ (x : Mode). step_in x i.entries w) e

pub inside_long : (i : Inside) (m : Mode) → i.mode ≡ m → length (inside i) ≡ length (entries i.entries) + length (mode m)
unfolding inside
inside_long i m e = length-append (entries i.entries) (mode i.mode) ∙ ap (λ (x : Mode). length (entries i.entries) + length (mode x)) e

pub word_place : (at : ℕ → ℕ) (base a : ℕ) (i : Inside) (m : Mode) (n : ℕ) → i.mode ≡ m → length (mode m) ≡ n → a ≡ at (base + length (inside i)) → a ≡ at (base + length (entries i.entries) + n)
word_place at base a i m n e f h =
    let j : base + length (inside i) ≡ base + length (entries i.entries) + n = omega (arith, inside_long i m e, f) in
    h ∙ ap at j

pub word_here : (at : ℕ → ℕ) (base a : ℕ) (i : Inside) (m : Mode) → i.mode ≡ m → length (mode m) ≡ 0 → a ≡ at (base + length (inside i)) → a ≡ at (base + length (entries i.entries))
word_here at base a i m e f h =
    let j : base + length (inside i) ≡ base + length (entries i.entries) = omega (arith, inside_long i m e, f) in
    h ∙ ap at j

-- ---- what the machine does in each mode

pub in_need : (es : List Entry) (w : Word) → step_in Need es w ≡ begin_pre false es w
unfolding step_in
in_need es w = refl

pub in_ready : (es : List Entry) (w : Word) → step_in Ready es w ≡ begin_pre true es w
unfolding step_in
in_ready es w = refl

pub in_after : (a : Atom) (es : List Entry) (w : Word) → step_in (After a) es w ≡ after_atom a es w
unfolding step_in
in_after a es w = refl

pub in_turned : (a : Atom) (p : Postfix) (es : List Entry) (w : Word) → step_in (Turned a p) es w ≡ after_term_turns a p es w
unfolding step_in
in_turned a p es w = refl

pub in_named : (f : Bool) (n : List ℕ) (es : List Entry) (w : Word) → step_in (Named f n) es w ≡ after_name n es w
unfolding step_in
in_named f n es w = refl

pub in_writing : (es : List Entry) (w : Word) → step_in Writing es w ≡ on_name (λ n. goes (After (Write n)) es) w
unfolding step_in
in_writing es w = refl

pub in_bracket : (es : List Entry) (w : Word) → step_in Bracket es w ≡ on_name (λ n. goes (BracketName n) es) w
unfolding step_in
in_bracket es w = refl

pub in_bracket_name : (r : List ℕ) (es : List Entry) (w : Word) → step_in (BracketName r) es w ≡ on_sign r es w
unfolding step_in
in_bracket_name r es w = refl

pub in_assigning : (append : Bool) (r : List ℕ) (es : List Entry) (w : Word) → step_in (Assigning append r) es w ≡ first_part append r es w
unfolding step_in
in_assigning append r es w = refl

pub in_assigned : (append : Bool) (r : List ℕ) (p : RegisterPart) (ps : List RegisterPart) (es : List Entry) (w : Word) → step_in (Assigned append r p ps) es w ≡ next_part append r p ps es w
unfolding step_in
in_assigned append r p ps es w = refl

pub in_count : (a : Atom) (c : Counting) (es : List Entry) (w : Word) → step_in (InCount a c) es w ≡ on_count a es (count_step c w)
unfolding step_in
in_count a c es w = refl

pub need_long : length (mode Need) ≡ 0
unfolding mode
need_long = refl

pub ready_long : length (mode Ready) ≡ 0
unfolding mode
ready_long = refl

pub after_long : (a : Atom) → length (mode (After a)) ≡ length (atom a)
unfolding mode
after_long a = refl

pub turned_long : (a : Atom) (p : Postfix) → length (mode (Turned a p)) ≡ length (atom a ++ postfix p)
unfolding mode
turned_long a p = refl

pub named_long : (f : Bool) (n : List ℕ) → length (mode (Named f n)) ≡ 1
unfolding mode
named_long f n = refl

-- the place of an atom that became a call
pub call_place : (at : ℕ → ℕ) (base a : ℕ) (n : List ℕ) (es : List Entry) → a ≡ at (base + length (entries es) + 1) → a ≡ at (base + length (entries es) + length (atom (Call n)))
unfolding atom
call_place at base a n es e = e

pub some_named : (made : Made) (fs : List TermConstruct) (wait : TermWait) → SomeInside made fs wait → SomeConstructs made fs
some_named made fs wait s = (s.0, s.1, s.2.entries, s.3.below)

pub some_atom : (made : Made) (fs : List TermConstruct) (wait : TermWait) (part : Shown) → wait ≡ waits.After part → SomeInside made fs wait → SomeAtom made fs part
some_atom made fs wait part e s =
    let m = mode_after made s.0 (s.1 + length (entries s.2.entries)) part s.2.mode (subst (λ (w : TermWait). ShowsMode made s.0 (s.1 + length (entries s.2.entries)) w s.2.mode) e s.3.mode) in
    (s.0, s.1, s.2.entries, m.0, s.3.below, m.2, m.3)

pub some_turned : (made : Made) (fs : List TermConstruct) (wait : TermWait) (part : Shown) (b : Bounds) → wait ≡ waits.Turned part b → SomeInside made fs wait → SomeTermTurned made fs part b
some_turned made fs wait part b e s =
    let m = mode_turned made s.0 (s.1 + length (entries s.2.entries)) part b s.2.mode (subst (λ (w : TermWait). ShowsMode made s.0 (s.1 + length (entries s.2.entries)) w s.2.mode) e s.3.mode) in
    (s.0, s.1, s.2.entries, m.0, m.1, s.3.below, m.3, m.4, m.5)

pub some_assigned : (made : Made) (fs : List TermConstruct) (wait : TermWait) (x : Assignment) → wait ≡ waits.Assigned x → SomeInside made fs wait → (place : ℕ → ℕ) × (i : ℕ) × (append : Bool) × (r : List ℕ) × (p : RegisterPart) × (ps : List RegisterPart) × ShowsMode made place i (waits.Assigned x) (Assigned append r p ps)
some_assigned made fs wait x e s =
    let i = s.1 + length (entries s.2.entries) in
    let here = subst (λ (w : TermWait). ShowsMode made s.0 i w s.2.mode) e s.3.mode in
    let m = mode_assigned made s.0 i x s.2.mode here in
    (s.0, i, m.0, m.1, m.2, m.3, subst (λ (y : Mode). ShowsMode made s.0 i (waits.Assigned x) y) m.4 here)

pub write_of : (a b : Made) (at : ℕ → ℕ) (i k from : ℕ) (r : List ℕ) (res : Result TermWait TermFault) → from ≡ at i → OnOk res (Keeps a b) → IsRegister a k r → IfOk res (λ w. (n : ℕ) × (w ≡ waits.After (record { node = n; at = from })) × IsNode b n (nodes.Write k) from) → IfOk res (λ w. (n : ℕ) × (w ≡ waits.After (record { node = n; at = from })) × ShowsAtom (Write r) b at n i)
write_of a b at i k from r (Ok w) e keep s h = (h.0, h.1, write_shows b at h.0 i k from r e h.2 (keep.registers k r s))
write_of a b at i k from r (Err f) e keep s h = tt

pub assign_of : (a b : Made) (at : ℕ → ℕ) (i : ℕ) (x : Assignment) (append : Bool) (r : List ℕ) (p : RegisterPart) (ps : List RegisterPart) (kind : NodeKind) (res : Result TermWait TermFault) → kind ≡ assignment_kind x.append x.register x.pieces.items → ShowsMode a at i (waits.Assigned x) (Assigned append r p ps) → OnOk res (Keeps a b) → IfOk res (λ w. (n : ℕ) × (w ≡ waits.After (record { node = n; at = x.at })) × IsNode b n kind x.at) → IfOk res (λ w. (n : ℕ) × (w ≡ waits.After (record { node = n; at = x.at })) × ShowsAtom (Assign append r p ps) b at n i)
assign_of a b at i x append r p ps kind (Ok w) e m keep h = (h.0, h.1, assign_shows a b at i h.0 x append r p ps keep m (subst (λ (y : NodeKind). IsNode b h.0 y x.at) e h.2))
assign_of a b at i x append r p ps kind (Err f) e m keep h = tt

pub assigning_on : (made : Made) (at : ℕ → ℕ) (base : ℕ) (fs : List TermConstruct) (es : List Entry) (x : Assignment) (append : Bool) (r : List ℕ) → ConstructsShow made at base fs es → x.at ≡ at (base + length (entries es)) → x.append ≡ append → IsRegister made x.register r → x.pieces.items ≡ [] → Steps made at base fs (Ok (waits.Assigning x)) (goes (Assigning append r) es)
unfolding ShowsMode
assigning_on made at base fs es x append r h a p k q = stood made at base fs (waits.Assigning x) (Assigning append r) es h (a, p, k, q)

pub some_name : (made : Made) (fs : List TermConstruct) (wait : TermWait) (f : Bool) (n : Named') → wait ≡ waits.Named f n → SomeInside made fs wait → SomeName made fs n.at
some_name made fs wait f n e s =
    let m = mode_named made s.0 (s.1 + length (entries s.2.entries)) f n s.2.mode (subst (λ (w : TermWait). ShowsMode made s.0 (s.1 + length (entries s.2.entries)) w s.2.mode) e s.3.mode) in
    (s.0, s.1, s.2.entries, s.3.below, m.1)

pub count_on_notes : (from : ℕ) (t : CountStep) (c : Count) → ShowsCountStep (outcomes.On c) t → (cs : List Check) (o : Option Break) → NotesLeast cs o → NotesLeast (cs ++ count_asks from t) o
unfolding ShowsCountStep count_asks
count_on_notes from (CountOn d) c k cs o n = same cs o n
count_on_notes from (CountRead p) c k cs o n = absurd k
count_on_notes from CountWrong c k cs o n = absurd k
