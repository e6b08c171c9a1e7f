-- The nodes that show a term in two programs, in pairs.
use Rattle.std.proofs.Common.{◌≡◌, ℕ, ◌≤◌, ◌+◌, ◌*◌, Bool, true, false, List, [], ◌∷◌, ◌++◌, length, Some, None, refl, ap, subst, arith, length-append}
use Rattle.std.specs.Prelude.{slice_get}
use Rattle.kex_code.specs.declared.piece.Piece.{Piece}
use Rattle.kex_code.specs.declared.piece.Piece.TheVariants as pieces
use Rattle.kex_model.specs.declared.program.Kind.{Kind}
use Rattle.kex_model.specs.declared.program.Kind.TheVariants as kinds
use Rattle.kex_regexp.specs.Bodies.{SpellsRegex}
use Rattle.kex_regexp.specs.Grammar.{regex, Regex as Body}
use Rattle.kex_regexp.specs.Shown.{ShowsRegex}
use Rattle.kex_regexp.specs.Postfixes.{low, high}
use Rattle.kex_reader.specs.Syntax.{RegisterPart, Text, Held, Word, Name, Regex, Tilde, At, Bar, OpenParen, CloseParen, Term, Last, Or, Seq, Only, Then, Pre, Mute, Into, Once, Turns, Atom, One, Call, Lit, Match, Write, Assign, Group, term, seq, pre, atom, postfix, word_lazy_mark}
use Rattle.kex_reader.specs.Shown.{Made, IsNode, assignment_kind, ShowsPart, ShowsParts, ShowsTerm, ShowsSeq, ShowsPre, ShowsAtom}
use Rattle.kex_compile.proofs.NodePairs.{Joins, SameKind, SameParts, no_more, text, register, one, lit, call, seq as in_seq, alt, rep, mute, at_register, write_register, set_register, add_register, Together, on_top, alone, beside, within, rank}
use Rattle.kex_compile.proofs.BodyPairs.{regex_of}
use Rattle.kex_compile.proofs.WordOffsets.{Spaced, width, spaced_front, spaced_rest, spaced_next, spaced_width, width_some, rises}
use Rattle.kex_tokens.specs.Values.{StandsFor}

-- the same name, by its bytes
abbrev pub SameName : List (List ℕ) → List (List ℕ) → ℕ → ℕ → Type 0
SameName names names' k k' = (name : List ℕ) × (slice_get names k ≡ Some name) × (slice_get names' k' ≡ Some name)

module _ (one_body : (bytes : List ℕ) (r q : Body) → SpellsRegex r bytes → SpellsRegex q bytes → r ≡ q) (one_literal : (spelling a b : List ℕ) → StandsFor spelling a → StandsFor spelling b → a ≡ b) (made made' : Made) (whole : made.broken ≡ None) (whole' : made'.broken ≡ None) (at : ℕ → ℕ) where
  abbrev N : ℕ → ℕ → Type 0
  N = SameName made.names made'.names

  -- the same register, by its name's bytes
  abbrev G : ℕ → ℕ → Type 0
  G = SameName made.registers made'.registers

  abbrev Both : ℕ → ℕ → ℕ → ℕ → Type 0
  Both n n' from to = Together made.nodes made'.nodes N G n n' from to

  -- an atom without parts, at the first of these words
  leaf : (n n' i : ℕ) (k k' : Kind) (ws : List Word) → IsNode made n k (at i) → IsNode made' n' k' (at i) → SameKind (Joins []) N G k k' → rank k ≡ 3 → 1 ≤ length ws → Spaced at i ws → Both n n' (4 * at i + 3) (4 * at (i + length ws))
  leaf n n' i k k' ws e e' same r l s =
      let h = rises at i ws s in
      alone made.nodes made'.nodes N G n n' (record { kind = k; at = at i }) (record { kind = k'; at = at i }) _ _ e e' refl same (omega (arith, r)) (omega (arith, r, h, l))

  assigned_same : (append : Bool) (k k' : ℕ) (qs qs' : List Piece) → G k k' → SameParts G qs qs' → SameKind (Joins []) N G (assignment_kind append k qs) (assignment_kind append k' qs')
  assigned_same false k k' qs qs' g p = set_register g p
  assigned_same true k k' qs qs' g p = add_register g p

  parts_of : (ps : List RegisterPart) (qs qs' : List Piece) → ShowsParts ps made qs → ShowsParts ps made' qs' → SameParts G qs qs'
  unfolding ShowsParts ShowsPart
  parts_of [] [] [] h k = no_more
  parts_of [] [] (q ∷ qs) h k = absurd k
  parts_of [] (q ∷ qs) qs' h k = absurd h
  parts_of (p ∷ ps) [] qs' h k = absurd h
  parts_of (p ∷ ps) (q ∷ qs) [] h k = absurd k
  parts_of (Text s ∷ ps) (pieces.Lit x ∷ qs) (pieces.Lit y ∷ qs') h k = subst (λ (z : List ℕ). SameParts G (pieces.Lit x ∷ qs) (pieces.Lit z ∷ qs')) (one_literal s x y h.0 k.0) (text (parts_of ps qs qs' h.1 k.1))
  parts_of (Text s ∷ ps) (pieces.Lit x ∷ qs) (pieces.Register r ∷ qs') h k = absurd k.0
  parts_of (Text s ∷ ps) (pieces.Register r ∷ qs) (q ∷ qs') h k = absurd h.0
  parts_of (Held r ∷ ps) (pieces.Register x ∷ qs) (pieces.Register y ∷ qs') h k = register (r, h.0, k.0) (parts_of ps qs qs' h.1 k.1)
  parts_of (Held r ∷ ps) (pieces.Register x ∷ qs) (pieces.Lit s ∷ qs') h k = absurd k.0
  parts_of (Held r ∷ ps) (pieces.Lit s ∷ qs) (q ∷ qs') h k = absurd h.0

  assigned_rank : (append : Bool) (k : ℕ) (qs : List Piece) → rank (assignment_kind append k qs) ≡ 3
  assigned_rank false k qs = refl
  assigned_rank true k qs = refl

  body : (n n' i : ℕ) (b : List ℕ) (r q : Body) → SpellsRegex r b → SpellsRegex q b → ShowsRegex r made.nodes n (at i + 1) → ShowsRegex q made'.nodes n' (at i + 1) → at i + width (Regex b) ≤ at (i + 1) → Both n n' (4 * at i + 3) (4 * at (i + 1))
  unfolding width
  body n n' i b r q s t h k l =
      let e : q ≡ r = one_body b q r t s in
      let m : length (regex r) ≡ length b = ap length s.same in
      within made.nodes made'.nodes N G n n' (4 * (at i + 1)) _ (4 * (at i + 1 + length (regex r) + 1)) _ (omega arith) (omega (arith, m, l)) (regex_of made.nodes made'.nodes N G r n n' (at i + 1) h (subst (λ (z : Body). ShowsRegex z made'.nodes n' (at i + 1)) e k))

  mutual
    unfolding ShowsTerm ShowsSeq ShowsPre ShowsAtom term seq pre atom

    pub term_of : (t : Term) (n n' i : ℕ) → ShowsTerm t made at n i → ShowsTerm t made' at n' i → Spaced at i (term t) → Both n n' (4 * at i) (4 * at (i + length (term t)))
    term_of (Last s) n n' i h k sp = within made.nodes made'.nodes N G n n' (4 * at i + 1) _ _ _ (omega arith) (omega arith) (seq_of s n n' i h k sp)
    term_of (Or s t) n n' i (l, m, e, x, y) (l', m', e', x', y') sp =
        let behind = spaced_rest at i (seq s) (Bar ∷ term t) sp in
        let long = length-append (seq s) (Bar ∷ term t) in
        let to : at (i + length (seq s) + 1 + length (term t)) ≡ at (i + length (seq s ++ Bar ∷ term t)) = ap at (omega (arith, long)) in
        let step = spaced_width at (i + length (seq s)) Bar (term t) behind in
        let left = within made.nodes made'.nodes N G l l' (4 * at i + 1) (4 * at i + 1) _ (4 * at (i + length (seq s) + 1)) (omega arith) (omega (arith, step)) (seq_of s l l' i x x' (spaced_front at i (seq s) (Bar ∷ term t) sp)) in
        let right = term_of t m m' (i + length (seq s) + 1) y y' (spaced_next at (i + length (seq s)) Bar (term t) behind) in
        let rest = beside made.nodes made'.nodes N G l l' m m' _ _ _ left right in
        within made.nodes made'.nodes N G n n' (4 * at i) _ (4 * at (i + length (seq s) + 1 + length (term t))) _ (omega arith) (omega (arith, to))
        (on_top made.nodes made'.nodes N G n n' (record { kind = kinds.Alt l m; at = at i }) (record { kind = kinds.Alt l' m'; at = at i }) (4 * at i) (4 * at i + 1) _ rest.pairs e e' refl (alt rest.left rest.right) (omega arith) (omega arith) rest.match rest.rising)

    seq_of : (s : Seq) (n n' i : ℕ) → ShowsSeq s made at n i → ShowsSeq s made' at n' i → Spaced at i (seq s) → Both n n' (4 * at i + 1) (4 * at (i + length (seq s)))
    seq_of (Only p) n n' i h k sp = within made.nodes made'.nodes N G n n' (4 * at i + 2) _ _ _ (omega arith) (omega arith) (pre_of p n n' i h k sp)
    seq_of (Then p s) n n' i (l, m, e, x, y) (l', m', e', x', y') sp =
        let long = length-append (pre p) (seq s) in
        let to : at (i + length (pre p) + length (seq s)) ≡ at (i + length (pre p ++ seq s)) = ap at (omega (arith, long)) in
        let left = pre_of p l l' i x x' (spaced_front at i (pre p) (seq s) sp) in
        let right = within made.nodes made'.nodes N G m m' (4 * at (i + length (pre p)) + 1) (4 * at (i + length (pre p))) (4 * at (i + length (pre p) + length (seq s))) (4 * at (i + length (pre p) + length (seq s))) (omega arith) (omega arith) (seq_of s m m' (i + length (pre p)) y y' (spaced_rest at i (pre p) (seq s) sp)) in
        let rest = beside made.nodes made'.nodes N G l l' m m' _ _ (4 * at (i + length (pre p) + length (seq s))) left right in
        within made.nodes made'.nodes N G n n' (4 * at i + 1) _ (4 * at (i + length (pre p) + length (seq s))) _ (omega arith) (omega (arith, to))
        (on_top made.nodes made'.nodes N G n n' (record { kind = kinds.Seq l m; at = at i }) (record { kind = kinds.Seq l' m'; at = at i }) (4 * at i + 1) (4 * at i + 2) _ rest.pairs e e' refl (in_seq rest.left rest.right) (omega arith) (omega arith) rest.match rest.rising)

    pre_of : (p : Pre) (n n' i : ℕ) → ShowsPre p made at n i → ShowsPre p made' at n' i → Spaced at i (pre p) → Both n n' (4 * at i + 2) (4 * at (i + length (pre p)))
    pre_of (Mute p) n n' i (m, e, x) (m', e', x') sp =
        let step = spaced_width at i Tilde (pre p) sp in
        let some = width_some Tilde in
        let to : at (i + 1 + length (pre p)) ≡ at (i + length (Tilde ∷ pre p)) = ap at (omega arith) in
        let rest = pre_of p m m' (i + 1) x x' (spaced_next at i Tilde (pre p) sp) in
        within made.nodes made'.nodes N G n n' (4 * at i + 2) _ (4 * at (i + 1 + length (pre p))) _ (omega arith) (omega (arith, to))
        (on_top made.nodes made'.nodes N G n n' (record { kind = kinds.Mute m; at = at i }) (record { kind = kinds.Mute m'; at = at i }) (4 * at i + 2) (4 * at (i + 1) + 2) _ rest.pairs e e' refl (mute rest.top) (omega arith) (omega (arith, step, some)) rest.match rest.rising)
    pre_of (Into r p) n n' i (k, m, e, g, x) (k', m', e', g', x') sp =
        let first = spaced_next at i (Name r) (At ∷ pre p) sp in
        let second = spaced_next at (i + 1) At (pre p) first in
        let a = spaced_width at i (Name r) (At ∷ pre p) sp in
        let b = spaced_width at (i + 1) At (pre p) first in
        let some = width_some (Name r) in
        let two : i + 1 + 1 ≡ i + 2 = omega arith in
        let next : at (i + 1 + 1) ≡ at (i + 2) = ap at two in
        let to : at (i + 2 + length (pre p)) ≡ at (i + length (Name r ∷ At ∷ pre p)) = ap at (omega arith) in
        let rest = pre_of p m m' (i + 2) x x' (subst (λ j. Spaced at j (pre p)) two second) in
        within made.nodes made'.nodes N G n n' (4 * at i + 2) _ (4 * at (i + 2 + length (pre p))) _ (omega arith) (omega (arith, to))
        (on_top made.nodes made'.nodes N G n n' (record { kind = kinds.At k m; at = at i }) (record { kind = kinds.At k' m'; at = at i }) (4 * at i + 2) (4 * at (i + 2) + 2) _ rest.pairs e e' refl (at_register (r, g, g') rest.top) (omega arith) (omega (arith, a, b, some, next)) rest.match rest.rising)
    pre_of (Once a) n n' i h k sp = within made.nodes made'.nodes N G n n' (4 * at i + 3) _ _ _ (omega arith) (omega arith) (atom_of a n n' i h k sp)
    pre_of (Turns a p lazy) n n' i (l, m, e, x) (l', m', e', x') sp =
        let signs = postfix p ++ word_lazy_mark lazy in
        let long = length-append (atom a) signs in
        let to : at (i + length (atom a) + length signs) ≡ at (i + length (atom a ++ signs)) = ap at (omega (arith, long)) in
        let more = rises at (i + length (atom a)) signs (spaced_rest at i (atom a) signs sp) in
        let rest = atom_of a m m' i x x' (spaced_front at i (atom a) signs sp) in
        within made.nodes made'.nodes N G n n' (4 * at i + 2) _ (4 * at (i + length (atom a))) _ (omega arith) (omega (arith, to, more))
        (on_top made.nodes made'.nodes N G n n' (record { kind = kinds.Rep m (low p) (high p) lazy; at = at i }) (record { kind = kinds.Rep m' (low p) (high p) lazy; at = at i }) (4 * at i + 2) (4 * at i + 3) _ rest.pairs (e whole) (e' whole') refl (rep rest.top) (omega arith) (omega arith) rest.match rest.rising)

    atom_of : (a : Atom) (n n' i : ℕ) → ShowsAtom a made at n i → ShowsAtom a made' at n' i → Spaced at i (atom a) → Both n n' (4 * at i + 3) (4 * at (i + length (atom a)))
    atom_of One n n' i e e' sp = leaf n n' i _ _ _ e e' one refl (omega arith) sp
    atom_of (Call name) n n' i (k, e, x) (k', e', x') sp = leaf n n' i _ _ _ e e' (call (name, x, x')) refl (omega arith) sp
    atom_of (Lit s) n n' i (bytes, e, v) (bytes', e', v') sp = leaf n n' i _ _ _ e (subst (λ (z : List ℕ). IsNode made' n' (kinds.Lit z) (at i)) (one_literal s bytes' bytes v' v) e') lit refl (omega arith) sp
    atom_of (Match b) n n' i (l, h) (l', h') sp =
        let x = h whole in
        let y = h' whole' in
        body n n' i b x.0 y.0 x.1 y.1 x.2 y.2 (spaced_width at i (Regex b) [] sp)
    atom_of (Write r) n n' i (k, e, x) (k', e', x') sp = leaf n n' i _ _ _ e e' (write_register (r, x, x')) refl (omega arith) sp
    atom_of (Assign append r p ps) n n' i (k, qs, e, x, z) (k', qs', e', x', z') sp = leaf n n' i _ _ _ e e' (assigned_same append k k' qs qs' (r, x, x') (parts_of (p ∷ ps) qs qs' z z')) (assigned_rank append k qs) (omega arith) sp
    atom_of (Group t) n n' i h k sp =
        let behind = spaced_next at i OpenParen (term t ++ CloseParen ∷ []) sp in
        let step = spaced_width at i OpenParen (term t ++ CloseParen ∷ []) sp in
        let some = width_some OpenParen in
        let long = length-append (term t) (CloseParen ∷ []) in
        let last = rises at (i + 1 + length (term t)) (CloseParen ∷ []) (spaced_rest at (i + 1) (term t) (CloseParen ∷ []) behind) in
        let to : at (i + 1 + length (term t) + 1) ≡ at (i + length (OpenParen ∷ (term t ++ CloseParen ∷ []))) = ap at (omega (arith, long)) in
        within made.nodes made'.nodes N G n n' (4 * at (i + 1)) _ (4 * at (i + 1 + length (term t))) _ (omega (arith, step, some)) (omega (arith, last, to)) (term_of t n n' (i + 1) h k (spaced_front at (i + 1) (term t) (CloseParen ∷ []) behind))
