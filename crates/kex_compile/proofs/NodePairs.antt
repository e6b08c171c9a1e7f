-- Pairs of nodes of two programs that show the same parts of a text, in the order of the text. No node is in two of them.
use Rattle.std.proofs.Common.{◌≡◌, ℕ, suc, ◌<◌, ◌≤◌, ◌+◌, ◌*◌, Bool, List, [], ◌∷◌, ◌++◌, ◌⊎◌, inl, inr, ⊎_elim, Option, Some, refl, sym, ap, ◌∙◌, subst, arith}
use Rattle.std.specs.Prelude.{slice_get}
use Rattle.kex_byteset.specs.Sets.{has}
use Rattle.kex_code.specs.declared.piece.Piece.{Piece}
use Rattle.kex_code.specs.declared.piece.Piece.TheVariants as pieces
use Rattle.kex_code.specs.Codes.{IsAmong}
use Rattle.kex_model.specs.declared.program.Kind.{Kind}
use Rattle.kex_model.specs.declared.program.Kind.TheVariants.{One, Lit, Class, Call, Seq, Alt, Rep, Mute, At, Write, Set, Add}
use Rattle.kex_model.specs.declared.program.Node.{Node}
use Rattle.kex_model.proofs.DistinctItems.{among-append}
use Rattle.kex_model.proofs.Tables.{some_same}

-- pieces with the same bytes, and registers that G pairs
pub data SameParts (G : ℕ → ℕ → Type 0) : List Piece → List Piece → Type 0 where
  no_more : SameParts G [] []
  text : {s : List ℕ} {ps qs : List Piece} → SameParts G ps qs → SameParts G (pieces.Lit s ∷ ps) (pieces.Lit s ∷ qs)
  register : {r r' : ℕ} {ps qs : List Piece} → G r r' → SameParts G ps qs → SameParts G (pieces.Register r ∷ ps) (pieces.Register r' ∷ qs)

-- kinds that do the same, with nodes that R pairs, names that N pairs and registers that G pairs
pub data SameKind (R N G : ℕ → ℕ → Type 0) : Kind → Kind → Type 0 where
  one : SameKind R N G One One
  lit : {s : List ℕ} → SameKind R N G (Lit s) (Lit s)
  class : {s t : List Bool} → ((b : ℕ) → has s b ≡ has t b) → SameKind R N G (Class s) (Class t)
  call : {k l : ℕ} → N k l → SameKind R N G (Call k) (Call l)
  seq : {l r l' r' : ℕ} → R l l' → R r r' → SameKind R N G (Seq l r) (Seq l' r')
  alt : {l r l' r' : ℕ} → R l l' → R r r' → SameKind R N G (Alt l r) (Alt l' r')
  rep : {n n' min : ℕ} {max : Option ℕ} {lazy : Bool} → R n n' → SameKind R N G (Rep n min max lazy) (Rep n' min max lazy)
  mute : {n n' : ℕ} → R n n' → SameKind R N G (Mute n) (Mute n')
  at_register : {r r' n n' : ℕ} → G r r' → R n n' → SameKind R N G (At r n) (At r' n')
  write_register : {r r' : ℕ} → G r r' → SameKind R N G (Write r) (Write r')
  set_register : {r r' : ℕ} {ps qs : List Piece} → G r r' → SameParts G ps qs → SameKind R N G (Set r ps) (Set r' qs)
  add_register : {r r' : ℕ} {ps qs : List Piece} → G r r' → SameParts G ps qs → SameKind R N G (Add r ps) (Add r' qs)

pub same_more : {R S N G : ℕ → ℕ → Type 0} {k l : Kind} → ((n n' : ℕ) → R n n' → S n n') → SameKind R N G k l → SameKind S N G k l
same_more f one = one
same_more f lit = lit
same_more f (class h) = class h
same_more f (call h) = call h
same_more f (seq g h) = seq (f _ _ g) (f _ _ h)
same_more f (alt g h) = alt (f _ _ g) (f _ _ h)
same_more f (rep h) = rep (f _ _ h)
same_more f (mute h) = mute (f _ _ h)
same_more f (at_register g h) = at_register g (f _ _ h)
same_more f (write_register g) = write_register g
same_more f (set_register g p) = set_register g p
same_more f (add_register g p) = add_register g p

-- ---- the order of nodes

-- among nodes at one offset the outer one comes first
abbrev pub rank : Kind → ℕ
rank (Alt l r) = 0
rank (Seq l r) = 1
rank (Rep n min max lazy) = 2
rank (Mute n) = 2
rank (At r n) = 2
rank _ = 3

abbrev pub key : Node → ℕ
key m = 4 * m.at + rank m.kind

same_rank : {R N G : ℕ → ℕ → Type 0} {k l : Kind} → SameKind R N G k l → rank k ≡ rank l
same_rank one = refl
same_rank lit = refl
same_rank (class h) = refl
same_rank (call h) = refl
same_rank (seq g h) = refl
same_rank (alt g h) = refl
same_rank (rep h) = refl
same_rank (mute h) = refl
same_rank (at_register g h) = refl
same_rank (write_register g) = refl
same_rank (set_register g p) = refl
same_rank (add_register g p) = refl

-- a node of each program, and their key
pub record Pair : Type 0 where
  pub first : ℕ
  pub second : ℕ
  pub key : ℕ

-- the keys rise, from low on and below high
unfoldable pub Rising : ℕ → List Pair → ℕ → Type 0
Rising low [] high = low ≤ high
Rising low (p ∷ ps) high = (low ≤ p.key) × Rising (suc p.key) ps high

pub rising_from : (low low' : ℕ) (ps : List Pair) (high : ℕ) → low' ≤ low → Rising low ps high → Rising low' ps high
unfolding Rising
rising_from low low' [] high l h = let k : low ≤ high = h in omega arith
rising_from low low' (p ∷ ps) high l h = (let k : low ≤ p.key = h.0 in omega arith, h.1)

pub rising_to : (low : ℕ) (ps : List Pair) (high high' : ℕ) → high ≤ high' → Rising low ps high → Rising low ps high'
unfolding Rising
rising_to low [] high high' l h = let k : low ≤ high = h in omega arith
rising_to low (p ∷ ps) high high' l h = (h.0, rising_to (suc p.key) ps high high' l h.1)

pub rising_both : (low : ℕ) (ps : List Pair) (mid : ℕ) (qs : List Pair) (high : ℕ) → Rising low ps mid → Rising mid qs high → Rising low (ps ++ qs) high
unfolding Rising
rising_both low [] mid qs high h k = rising_from mid low qs high h k
rising_both low (p ∷ ps) mid qs high h k = (h.0, rising_both (suc p.key) ps mid qs high h.1 k)

above : (low : ℕ) (ps : List Pair) (high : ℕ) (q : Pair) → Rising low ps high → IsAmong ps q → low ≤ q.key
unfolding Rising
above low [] high q h i = absurd i
above low (p ∷ ps) high q h (inl e) = subst (λ (z : Pair). low ≤ z.key) e h.0
above low (p ∷ ps) high q h (inr i) = let k : low ≤ p.key = h.0 in let l : suc p.key ≤ q.key = above (suc p.key) ps high q h.1 i in omega arith

-- pairs of one key are one pair
pub one_pair : (low : ℕ) (ps : List Pair) (high : ℕ) (p q : Pair) → Rising low ps high → IsAmong ps p → IsAmong ps q → p.key ≡ q.key → p ≡ q
unfolding Rising
one_pair low [] high p q h i j e = absurd i
one_pair low (x ∷ ps) high p q h (inl i) (inl j) e = sym i ∙ j
one_pair low (x ∷ ps) high p q h (inl i) (inr j) e =
    let l : suc x.key ≤ q.key = above (suc x.key) ps high q h.1 j in
    let k : x.key ≡ p.key = ap (λ (z : Pair). z.key) i in
    absurd (omega (arith, e))
one_pair low (x ∷ ps) high p q h (inr i) (inl j) e =
    let l : suc x.key ≤ p.key = above (suc x.key) ps high p h.1 i in
    let k : x.key ≡ q.key = ap (λ (z : Pair). z.key) j in
    absurd (omega (arith, e))
one_pair low (x ∷ ps) high p q h (inr i) (inr j) e = one_pair (suc x.key) ps high p q h.1 i j e

-- the two nodes are paired
abbrev pub Joins : List Pair → ℕ → ℕ → Type 0
Joins ps n n' = (k : ℕ) × IsAmong ps (record { first = n; second = n'; key = k })

module _ (nodes nodes' : List Node) (N G : ℕ → ℕ → Type 0) where
  -- the nodes of a pair have one offset and the same kind, with parts that are paired
  pub record Matches (ps : List Pair) (p : Pair) : Type 0 where
    pub node : Node
    pub node' : Node
    pub is : slice_get nodes p.first ≡ Some node
    pub is' : slice_get nodes' p.second ≡ Some node'
    pub keyed : p.key ≡ key node
    pub at : node.at ≡ node'.at
    pub same : SameKind (Joins ps) N G node.kind node'.kind

  abbrev pub AllMatch : List Pair → Type 0
  AllMatch ps = (p : Pair) → IsAmong ps p → Matches ps p

  -- two nodes and all their parts in pairs, with keys from low on and below high
  pub record Together (n n' low high : ℕ) : Type 0 where
    pub pairs : List Pair
    pub top : Joins pairs n n'
    pub match : AllMatch pairs
    pub rising : Rising low pairs high

  match_more : (ps qs : List Pair) → ((p : Pair) → IsAmong ps p → IsAmong qs p) → (p : Pair) → Matches ps p → Matches qs p
  match_more ps qs f p m = record {
    node = m.node;
    node' = m.node';
    is = m.is;
    is' = m.is';
    keyed = m.keyed;
    at = m.at;
    same = same_more (λ n n' j. (j.0, f _ j.1)) m.same;
  }

  -- a node above pairs that have its parts
  pub on_top : (n n' : ℕ) (node node' : Node) (low mid high : ℕ) (ps : List Pair) → slice_get nodes n ≡ Some node → slice_get nodes' n' ≡ Some node' → node.at ≡ node'.at → SameKind (Joins ps) N G node.kind node'.kind → low ≤ key node → key node < mid → AllMatch ps → Rising mid ps high → Together n n' low high
  unfolding Rising
  on_top n n' node node' low mid high ps is is' at same l u match rising =
      let p : Pair = record { first = n; second = n'; key = key node } in
      record {
        pairs = p ∷ ps;
        top = (key node, inl refl);
        match = λ q i. ⊎_elim (λ e. subst (Matches (p ∷ ps)) e (record { node = node; node' = node'; is = is; is' = is'; keyed = refl; at = at; same = same_more (λ m m' j. (j.0, inr j.1)) same })) (λ j. match_more ps (p ∷ ps) (λ r k. inr k) q (match q j)) i;
        rising = (l, rising_from mid (suc (key node)) ps high u rising);
      }

  -- pairs of two parts, one after the other
  pub record Beside (l l' r r' low high : ℕ) : Type 0 where
    pub pairs : List Pair
    pub left : Joins pairs l l'
    pub right : Joins pairs r r'
    pub match : AllMatch pairs
    pub rising : Rising low pairs high

  pub match_both : (ps qs : List Pair) → AllMatch ps → AllMatch qs → AllMatch (ps ++ qs)
  match_both ps qs a b p i = ⊎_elim (λ j. match_more ps (ps ++ qs) (λ r k. among-append ps qs r (inl k)) p (a p j)) (λ j. match_more qs (ps ++ qs) (λ r k. among-append ps qs r (inr k)) p (b p j)) (among_parts ps qs p i)
    where
      among_parts : (ps qs : List Pair) (p : Pair) → IsAmong (ps ++ qs) p → IsAmong ps p ⊎ IsAmong qs p
      among_parts [] qs p i = inr i
      among_parts (x ∷ ps) qs p (inl e) = inl (inl e)
      among_parts (x ∷ ps) qs p (inr i) = ⊎_elim (λ j. inl (inr j)) (λ j. inr j) (among_parts ps qs p i)

  pub beside : (l l' r r' low mid high : ℕ) → Together l l' low mid → Together r r' mid high → Beside l l' r r' low high
  beside l l' r r' low mid high a b = record {
    pairs = a.pairs ++ b.pairs;
    left = (a.top.0, among-append a.pairs b.pairs _ (inl a.top.1));
    right = (b.top.0, among-append a.pairs b.pairs _ (inr b.top.1));
    match = match_both a.pairs b.pairs a.match b.match;
    rising = rising_both low a.pairs mid b.pairs high a.rising b.rising;
  }

  pub within : (n n' low low' high high' : ℕ) → low' ≤ low → high ≤ high' → Together n n' low high → Together n n' low' high'
  within n n' low low' high high' l h t = record {
    pairs = t.pairs;
    top = t.top;
    match = t.match;
    rising = rising_to low' t.pairs high high' h (rising_from low low' t.pairs high l t.rising);
  }

  -- a node without parts
  pub alone : (n n' : ℕ) (node node' : Node) (low high : ℕ) → slice_get nodes n ≡ Some node → slice_get nodes' n' ≡ Some node' → node.at ≡ node'.at → SameKind (Joins []) N G node.kind node'.kind → low ≤ key node → key node < high → Together n n' low high
  unfolding Rising
  alone n n' node node' low high is is' at same l u = on_top n n' node node' low high high [] is is' at same l u (λ p i. absurd i) (omega arith)

  -- a node is paired with one node alone
  module _ (low high : ℕ) (ps : List Pair) (match : AllMatch ps) (rising : Rising low ps high) where
    pub one_second : (n m m' : ℕ) → Joins ps n m → Joins ps n m' → m ≡ m'
    one_second n m m' (k, i) (k', i') =
        let a = match _ i in
        let b = match _ i' in
        let e : k ≡ k' = a.keyed ∙ ap key (some_same a.node b.node (sym a.is ∙ b.is)) ∙ sym b.keyed in
        ap (λ (z : Pair). z.second) (one_pair low ps high (record { first = n; second = m; key = k }) (record { first = n; second = m'; key = k' }) rising i i' e)

    pub one_first : (n n' m : ℕ) → Joins ps n m → Joins ps n' m → n ≡ n'
    one_first n n' m (k, i) (k', i') =
        let a = match _ i in
        let b = match _ i' in
        let e : k ≡ k' = a.keyed ∙ key_same a.node a.node' a.at (same_rank a.same) ∙ ap key (some_same a.node' b.node' (sym a.is' ∙ b.is')) ∙ sym (key_same b.node b.node' b.at (same_rank b.same)) ∙ sym b.keyed in
        ap (λ (z : Pair). z.first) (one_pair low ps high (record { first = n; second = m; key = k }) (record { first = n'; second = m; key = k' }) rising i i' e)
      where
        key_same : (x y : Node) → x.at ≡ y.at → rank x.kind ≡ rank y.kind → key x ≡ key y
        key_same x y e f = ap (λ (z : ℕ). 4 * z + rank x.kind) e ∙ ap (λ (z : ℕ). 4 * y.at + z) f
