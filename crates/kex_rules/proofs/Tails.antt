-- A call is outside tail position in a definition that it comes back to exactly where it is apart in its component.
use Rattle.std.proofs.Common.{◌≡◌, ℕ, zero, suc, ◌<◌, ◌≤◌, ◌+◌, ◌-◌, Bool, true, false, List, [], ◌∷◌, ◌⊎◌, inl, inr, Option, Some, None, find, length, get_or, refl, sym, ap, subst, ◌∙◌, arith}
use Rattle.std.specs.Prelude.{slice_get, ◌==◌}
use Rattle.std.specs.Option.{option_map}
use Rattle.std.proofs.lemmas.Option.{slice_get_within, slice_get_past}
use Rattle.kex_code.specs.Codes.{IsAmong}
use Rattle.kex_model.specs.declared.program.Kind.{Kind}
use Rattle.kex_model.specs.declared.program.Kind.TheVariants.{One, Lit, Class, Call, Seq, Alt, Rep, Mute, At, Write, Set, Add}
use Rattle.kex_model.specs.declared.program.Node.{Node}
use Rattle.kex_model.specs.declared.program.Definition.{Definition}
use Rattle.kex_model.specs.Programs.{Grammar, IsGrammar, HasBelow}
use Rattle.kex_model.specs.Trees.{kind_at, root_of}
use Rattle.kex_rules.specs.declared.components.Mark.{Mark}
use Rattle.kex_rules.specs.declared.components.Mark.TheVariants.{Unseen, Closed}
use Rattle.kex_rules.specs.Rules.{IsDefined, IsCall, TermPosition, in_tail, elsewhere, last_parts, other_parts, StandsIn, at_root, as_last, as_other, ReachesByCalls, itself, by_call, IsNotTail}
use Rattle.kex_rules.specs.Tables.{first_root}
use Rattle.kex_rules.specs.Graphs.{Leads, stays, goes, kind_successors, root_successors, successors_by, vertices, vertex_successors, AreComponents}
use Rattle.kex_rules.specs.Tails.{AreSame, IsApart, by_other, by_last, HasApart}
use Rattle.kex_rules.proofs.Ways.{leads_on, leads_one, find_among}
use Rattle.kex_rules.proofs.DefinedNames.{find_none, find_named}

-- where a node of a kind leads: to a last part, another part, or the name that it calls
kind_cases : (nodes v : ℕ) (k : Kind) → IsAmong (kind_successors nodes k) v → IsAmong (last_parts k) v ⊎ (IsAmong (other_parts k) v ⊎ ((name : ℕ) × (k ≡ Call name) × (v ≡ nodes + name)))
kind_cases nodes v One i = absurd i
kind_cases nodes v (Lit s) i = absurd i
kind_cases nodes v (Class s) i = absurd i
kind_cases nodes v (Call name) (inl e) = inr (inr (name, refl, sym e))
kind_cases nodes v (Call name) (inr i) = absurd i
kind_cases nodes v (Seq l r) (inl e) = inr (inl (inl e))
kind_cases nodes v (Seq l r) (inr i) = inl i
kind_cases nodes v (Alt l r) i = inl i
kind_cases nodes v (Rep body min max lazy) i = inr (inl i)
kind_cases nodes v (Mute t) i = inr (inl i)
kind_cases nodes v (At r t) i = inr (inl i)
kind_cases nodes v (Write r) i = absurd i
kind_cases nodes v (Set r s) i = absurd i
kind_cases nodes v (Add r s) i = absurd i

last_successor : (nodes v : ℕ) (k : Kind) → IsAmong (last_parts k) v → IsAmong (kind_successors nodes k) v
last_successor nodes v One i = absurd i
last_successor nodes v (Lit s) i = absurd i
last_successor nodes v (Class s) i = absurd i
last_successor nodes v (Call name) i = absurd i
last_successor nodes v (Seq l r) i = inr i
last_successor nodes v (Alt l r) i = i
last_successor nodes v (Rep body min max lazy) i = absurd i
last_successor nodes v (Mute t) i = absurd i
last_successor nodes v (At r t) i = absurd i
last_successor nodes v (Write r) i = absurd i
last_successor nodes v (Set r s) i = absurd i
last_successor nodes v (Add r s) i = absurd i

other_successor : (nodes v : ℕ) (k : Kind) → IsAmong (other_parts k) v → IsAmong (kind_successors nodes k) v
other_successor nodes v One i = absurd i
other_successor nodes v (Lit s) i = absurd i
other_successor nodes v (Class s) i = absurd i
other_successor nodes v (Call name) i = absurd i
other_successor nodes v (Seq l r) (inl e) = inl e
other_successor nodes v (Seq l r) (inr i) = absurd i
other_successor nodes v (Alt l r) i = absurd i
other_successor nodes v (Rep body min max lazy) i = i
other_successor nodes v (Mute t) i = i
other_successor nodes v (At r t) i = i
other_successor nodes v (Write r) i = absurd i
other_successor nodes v (Set r s) i = absurd i
other_successor nodes v (Add r s) i = absurd i

last_below : (n m : ℕ) (k : Kind) → HasBelow n k → IsAmong (last_parts k) m → m < n
last_below n m One b i = absurd i
last_below n m (Lit s) b i = absurd i
last_below n m (Class s) b i = absurd i
last_below n m (Call name) b i = absurd i
last_below n m (Seq l r) b (inl e) = subst (λ z. z < n) e b.1
last_below n m (Seq l r) b (inr i) = absurd i
last_below n m (Alt l r) b (inl e) = subst (λ z. z < n) e b.0
last_below n m (Alt l r) b (inr (inl e)) = subst (λ z. z < n) e b.1
last_below n m (Alt l r) b (inr (inr i)) = absurd i
last_below n m (Rep body min max lazy) b i = absurd i
last_below n m (Mute t) b i = absurd i
last_below n m (At r t) b i = absurd i
last_below n m (Write r) b i = absurd i
last_below n m (Set r s) b i = absurd i
last_below n m (Add r s) b i = absurd i

other_below : (n m : ℕ) (k : Kind) → HasBelow n k → IsAmong (other_parts k) m → m < n
other_below n m One b i = absurd i
other_below n m (Lit s) b i = absurd i
other_below n m (Class s) b i = absurd i
other_below n m (Call name) b i = absurd i
other_below n m (Seq l r) b (inl e) = subst (λ z. z < n) e b.0
other_below n m (Seq l r) b (inr i) = absurd i
other_below n m (Alt l r) b i = absurd i
other_below n m (Rep body min max lazy) b (inl e) = subst (λ z. z < n) e b.0
other_below n m (Rep body min max lazy) b (inr i) = absurd i
other_below n m (Mute t) b (inl e) = subst (λ z. z < n) e b
other_below n m (Mute t) b (inr i) = absurd i
other_below n m (At r t) b (inl e) = subst (λ z. z < n) e b
other_below n m (At r t) b (inr i) = absurd i
other_below n m (Write r) b i = absurd i
other_below n m (Set r s) b i = absurd i
other_below n m (Add r s) b i = absurd i

not_past : {A : Type 0} (xs : List A) (n : ℕ) → slice_get xs n ≡ None → n < length xs → ⊥
not_past [] n e lt = omega arith
not_past (x ∷ xs) zero e lt = cc
not_past (x ∷ xs) (suc n) e lt = not_past xs n e (omega arith)

-- what isn't in tail position
abbrev IsElsewhere : TermPosition → Type 0
IsElsewhere in_tail = ⊥
IsElsewhere elsewhere = Unit {0}

pub kind_is : (P : Grammar) (n : ℕ) (m : Node) → slice_get P.nodes n ≡ Some m → kind_at P n ≡ m.kind
kind_is P n m e = rw e refl

-- where there is no node there is nothing to do
pub no_kind : (P : Grammar) (n : ℕ) → slice_get P.nodes n ≡ None → kind_at P n ≡ One
no_kind P n e = rw e refl

module _ (P : Grammar) (g : IsGrammar P) where
  abbrev N : ℕ
  N = length P.nodes

  abbrev f : ℕ → List ℕ
  f v = vertex_successors P v

  -- a node, and what it is
  at_node : (n : ℕ) (m : Node) → slice_get P.nodes n ≡ Some m → kind_at P n ≡ m.kind
  at_node n m e = kind_is P n m e

  root_is : (name : ℕ) (d : Definition) → find (λ d. d.name == name) P.definitions ≡ Some d → root_of P name ≡ d.root
  root_is name d e = rw e refl

  node_successors : (n : ℕ) (m : Node) → slice_get P.nodes n ≡ Some m → vertex_successors P n ≡ kind_successors N m.kind
  node_successors n m e = ap (λ o. successors_by P n o) e

  -- parts are those of nodes
  within : (parts : Kind → List ℕ) → parts One ≡ [] → (n m : ℕ) → IsAmong (parts (kind_at P n)) m → (d : Node) × (slice_get P.nodes n ≡ Some d)
  within parts none n m i = by (slice_get P.nodes n) refl
    where
      by : (o : Option Node) → slice_get P.nodes n ≡ o → (d : Node) × (slice_get P.nodes n ≡ Some d)
      by (Some d) e = (d, e)
      by None e = absurd (subst (λ z. IsAmong z m) none (subst (λ z. IsAmong (parts z) m) (no_kind P n e) i))

  last_on : (n m : ℕ) → IsAmong (last_parts (kind_at P n)) m → IsAmong (f n) m
  last_on n m i = let d = within last_parts refl n m i in subst (λ z. IsAmong z m) (sym (node_successors n d.0 d.1)) (last_successor N m d.0.kind (subst (λ z. IsAmong (last_parts z) m) (at_node n d.0 d.1) i))

  other_on : (n m : ℕ) → IsAmong (other_parts (kind_at P n)) m → IsAmong (f n) m
  other_on n m i = let d = within other_parts refl n m i in subst (λ z. IsAmong z m) (sym (node_successors n d.0 d.1)) (other_successor N m d.0.kind (subst (λ z. IsAmong (other_parts z) m) (at_node n d.0 d.1) i))

  last_fits : (n m : ℕ) → IsAmong (last_parts (kind_at P n)) m → (n < N) × (m < n)
  last_fits n m i = let d = within last_parts refl n m i in (slice_get_within P.nodes n d.0 d.1, last_below n m d.0.kind (g.in_order n d.0 d.1) (subst (λ z. IsAmong (last_parts z) m) (at_node n d.0 d.1) i))

  other_fits : (n m : ℕ) → IsAmong (other_parts (kind_at P n)) m → (n < N) × (m < n)
  other_fits n m i = let d = within other_parts refl n m i in (slice_get_within P.nodes n d.0 d.1, other_below n m d.0.kind (g.in_order n d.0 d.1) (subst (λ z. IsAmong (other_parts z) m) (at_node n d.0 d.1) i))

  call_on : (n name : ℕ) → kind_at P n ≡ Call name → IsAmong (f n) (N + name)
  call_on n name e = by (slice_get P.nodes n) refl
    where
      by : (o : Option Node) → slice_get P.nodes n ≡ o → IsAmong (f n) (N + name)
      by (Some d) h = subst (λ z. IsAmong z (N + name)) (sym (node_successors n d h)) (subst (λ z. IsAmong (kind_successors N z) (N + name)) (sym e ∙ at_node n d h) (inl refl))
      by None h = let n : One ≡ Call name = sym (no_kind P n h) ∙ e in cc

  -- where a name leads
  name_successors : (name : ℕ) → f (N + name) ≡ root_successors (first_root P.definitions name)
  name_successors name = ap (λ o. successors_by P (N + name) o) (slice_get_past P.nodes (N + name) (omega arith)) ∙ ap (λ z. root_successors (first_root P.definitions z)) less
    where
      less : (N + name) - N ≡ name
      less = omega arith

  -- the definition of a name that is defined
  found : (name : ℕ) → IsDefined P.definitions name → (d : Definition) × (find (λ d. d.name == name) P.definitions ≡ Some d)
  found name h = by (find (λ d. d.name == name) P.definitions) refl
    where
      by : (o : Option Definition) → find (λ d. d.name == name) P.definitions ≡ o → (d : Definition) × (find (λ d. d.name == name) P.definitions ≡ Some d)
      by (Some d) e = (d, e)
      by None e = absurd (find_none P.definitions name e h)

  root_on : (name : ℕ) → IsDefined P.definitions name → IsAmong (f (N + name)) (root_of P name)
  root_on name h = let d = found name h in subst (λ z. IsAmong z (root_of P name)) (sym (name_successors name)) (subst (λ o. IsAmong (root_successors (option_map (λ d. d.root) o)) (root_of P name)) (sym d.1) (inl (sym (root_is name d.0 d.1))))

  root_fits : (name : ℕ) → IsDefined P.definitions name → root_of P name < N
  root_fits name h = let d = found name h in subst (λ z. z < N) (sym (root_is name d.0 d.1)) (g.in_range.defined d.0 (find_among (λ d. d.name == name) P.definitions d.0 d.1)).1

  -- a name that leads anywhere is defined, and leads to its root
  from_name : (name v : ℕ) → IsAmong (f (N + name)) v → IsDefined P.definitions name × (v ≡ root_of P name)
  from_name name v i = by (find (λ d. d.name == name) P.definitions) refl
    where
      by : (o : Option Definition) → find (λ d. d.name == name) P.definitions ≡ o → IsDefined P.definitions name × (v ≡ root_of P name)
      by None e = absurd (subst (λ o. IsAmong (root_successors (option_map (λ d. d.root) o)) v) e (subst (λ z. IsAmong z v) (name_successors name) i))
      by (Some d) e = ((d, find_among (λ d. d.name == name) P.definitions d e, find_named P.definitions name d e), at (subst (λ o. IsAmong (root_successors (option_map (λ d. d.root) o)) v) e (subst (λ z. IsAmong z v) (name_successors name) i)))
        where
          at : IsAmong (d.root ∷ []) v → v ≡ root_of P name
          at (inl q) = sym q ∙ sym (root_is name d e)
          at (inr j) = absurd j

  -- a node's ways, by the rule
  from_node : (n v : ℕ) → n < N → IsAmong (f n) v → IsAmong (last_parts (kind_at P n)) v ⊎ (IsAmong (other_parts (kind_at P n)) v ⊎ ((name : ℕ) × (kind_at P n ≡ Call name) × (v ≡ N + name)))
  from_node n v lt i = by (slice_get P.nodes n) refl
    where
      by : (o : Option Node) → slice_get P.nodes n ≡ o → IsAmong (last_parts (kind_at P n)) v ⊎ (IsAmong (other_parts (kind_at P n)) v ⊎ ((name : ℕ) × (kind_at P n ≡ Call name) × (v ≡ N + name)))
      by (Some d) e = subst (λ k. IsAmong (last_parts k) v ⊎ (IsAmong (other_parts k) v ⊎ ((name : ℕ) × (k ≡ Call name) × (v ≡ N + name)))) (sym (at_node n d e)) (kind_cases N v d.kind (subst (λ z. IsAmong z v) (node_successors n d e) i))
      by None e = absurd (not_past P.nodes n e lt)

  stands_leads : {root n : ℕ} {p : TermPosition} → StandsIn P root p n → Leads f root n
  stands_leads at_root = stays
  stands_leads (as_last {n = n} {m = m} s i) = leads_on (stands_leads s) (leads_one f n m (last_on n m i))
  stands_leads (as_other {n = n} {m = m} s i) = leads_on (stands_leads s) (leads_one f n m (other_on n m i))

  stands_within : {root n : ℕ} {p : TermPosition} → root < N → StandsIn P root p n → n < N
  stands_within lt at_root = lt
  stands_within lt (as_last {n = n} {m = m} s i) = let h = last_fits n m i in let a : n < N = h.0 in let b : m < n = h.1 in omega arith
  stands_within lt (as_other {n = n} {m = m} s i) = let h = other_fits n m i in let a : n < N = h.0 in let b : m < n = h.1 in omega arith

  reaches_leads : {caller callee : ℕ} → ReachesByCalls P caller callee → Leads f (N + caller) (N + callee)
  reaches_leads itself = stays
  reaches_leads (by_call {caller = a} {callee = b} (d, p, n, s, e) r) =
      leads_on (leads_one f (N + a) (root_of P a) (root_on a d)) (leads_on (stands_leads s) (leads_on (leads_one f n (N + b) (call_on n b e)) (reaches_leads r)))

  -- a vertex is a name, or is in its definition
  abbrev Belongs : ℕ → ℕ → Type 0
  Belongs name u = (u ≡ N + name) ⊎ (IsDefined P.definitions name × (p : TermPosition) × StandsIn P (root_of P name) p u)

  -- the node is in a definition that the name reaches
  abbrev Arrives : ℕ → ℕ → Type 0
  Arrives name n = (caller : ℕ) × IsDefined P.definitions caller × ((p : TermPosition) × StandsIn P (root_of P caller) p n) × ReachesByCalls P name caller

  on_from : {name u v n : ℕ} {p : TermPosition} → IsDefined P.definitions name → StandsIn P (root_of P name) p u → IsAmong (last_parts (kind_at P u)) v ⊎ (IsAmong (other_parts (kind_at P u)) v ⊎ ((callee : ℕ) × (kind_at P u ≡ Call callee) × (v ≡ N + callee))) → (Belongs name v → Arrives name n) → ((callee : ℕ) → Belongs callee v → Arrives callee n) → Arrives name n
  on_from {p = p} d s (inl j) stay go = stay (inr (d, p, as_last s j))
  on_from d s (inr (inl j)) stay go = stay (inr (d, elsewhere, as_other s j))
  on_from {u = u} {p = p} d s (inr (inr (callee, e, q))) stay go = let r = go callee (inl q) in (r.0, r.1, r.2, by_call (d, p, u, s, e) r.3)

  -- what leads to a node reaches a definition that has it
  walk : (name : ℕ) {u n : ℕ} → Leads f u n → n < N → Belongs name u → Arrives name n
  walk name {u = u} stays lt (inl e) = absurd (omega arith)
  walk name {u = u} stays lt (inr (d, p, s)) = (name, d, (p, s), itself)
  walk name {u = u} (goes {v = v} i h) lt (inl e) =
      let r = from_name name v (subst (λ z. IsAmong (f z) v) e i) in
      walk name h lt (inr (r.0, in_tail, subst (λ z. StandsIn P (root_of P name) in_tail z) (sym r.1) at_root))
  walk name {u = u} (goes {v = v} i h) lt (inr (d, p, s)) = on_from d s (from_node u v (stands_within (root_fits name d) s) i) (λ b. walk name h lt b) (λ callee b. walk callee h lt b)

  module _ (marks : List Mark) (parted : AreComponents f (vertices P) marks) where
    falls_on : {u v : ℕ} → Leads f u v → (a : ℕ) → get_or marks u Unseen ≡ Closed a → (b : ℕ) × (get_or marks v Unseen ≡ Closed b) × (b ≤ a)
    falls_on stays a e = (a, e, omega arith)
    falls_on (goes {u = u} {v = v} i h) a e =
        let m = parted.falls u a v e i in
        let r = falls_on h m.0 m.1 in
        (r.0, r.1, (let x : m.0 ≤ a = m.2 in let y : r.0 ≤ m.0 = r.2 in omega arith))

    -- nodes that lead to each other are of one component
    are_same : (u v : ℕ) → u < N → Leads f u v → Leads f v u → AreSame marks u v
    are_same u v lt h k =
        let a = parted.all u (omega arith) in
        let b = falls_on h a.0 a.1 in
        let c = falls_on k b.0 b.1 in
        let back : Closed a.0 ≡ Closed c.0 = sym a.1 ∙ c.1 in
        let same : a.0 ≡ c.0 = cc in
        let x : b.0 ≤ a.0 = b.2 in
        let y : c.0 ≤ b.0 = c.2 in
        let equal : a.0 ≡ b.0 = omega arith in
        a.1 ∙ ap (λ z. Closed z) equal ∙ sym b.1

    -- what is outside tail position, and leads back to its definition's root, is apart
    stands_apart : {root n : ℕ} {p : TermPosition} → StandsIn P root p n → IsElsewhere p → Leads f n root → IsApart P marks n
    stands_apart at_root q h = absurd q
    stands_apart {root = root} (as_last {n = n} {m = m} s i) q h = by_last n (stands_apart s q (leads_on (leads_one f n m (last_on n m i)) h)) i (are_same n m (last_fits n m i).0 (leads_one f n m (last_on n m i)) (leads_on h (stands_leads s)))
    stands_apart {root = root} (as_other {n = n} {m = m} s i) q h = by_other n i (are_same n m (other_fits n m i).0 (leads_one f n m (other_on n m i)) (leads_on h (stands_leads s)))

    -- where a node that is apart comes from
    apart_from : {n : ℕ} → IsApart P marks n → (k m : ℕ) × IsAmong (other_parts (kind_at P k)) m × ((root : ℕ) (p : TermPosition) → StandsIn P root p k → StandsIn P root elsewhere n) × AreSame marks k n
    apart_from (by_other n {m = m} i e) = (n, m, i, (λ root p s. as_other s i), e)
    apart_from (by_last n h i e) = let r = apart_from h in (r.0, r.1, r.2, (λ root p s. as_last (r.3 root p s) i), r.4 ∙ e)

    -- a call that breaks the rule is apart
    pub is_apart : (at : ℕ) → IsNotTail P at → (n name : ℕ) × IsCall P n name at × IsApart P marks n
    is_apart at (caller, callee, n, d, s, call, back) =
        let kind : kind_at P n ≡ Call callee = at_node n call.0 call.1 ∙ call.2 in
        (n, callee, call, stands_apart s tt (leads_on (leads_one f n (N + callee) (call_on n callee kind)) (leads_on (reaches_leads back) (leads_one f (N + caller) (root_of P caller) (root_on caller d)))))

    pub is_not_tail : (at n name : ℕ) → IsCall P n name at → IsApart P marks n → IsNotTail P at
    is_not_tail at n name call a =
        let from = apart_from a in
        let k = from.0 in
        let fits : k < N = (other_fits k from.1 from.2).0 in
        let here : n < N = slice_get_within P.nodes n call.0 call.1 in
        let mine = parted.all n (omega arith) in
        let kind : kind_at P n ≡ Call name = at_node n call.0 call.1 ∙ call.2 in
        let r = walk name (first_successor kind (parted.same n k mine.0 mine.1 (from.4 ∙ mine.1)) (λ e. subst (λ z. IsAmong (other_parts z) from.1) kind (subst (λ z. IsAmong (other_parts (kind_at P z)) from.1) (sym e) from.2))) fits (inl refl) in
        (r.0, name, n, r.1, from.3 (root_of P r.0) r.2.0 r.2.1, call, r.3)
      where
        -- a call leads on by its name alone
        first_successor : {k : ℕ} → kind_at P n ≡ Call name → Leads f n k → (n ≡ k → ⊥) → Leads f (N + name) k
        first_successor kind stays other = absurd (other refl)
        first_successor {k = k} kind (goes {v = v} i h) other = only_name k v kind (from_node n v (slice_get_within P.nodes n call.0 call.1) i) h
          where
            only_name : (k v : ℕ) → kind_at P n ≡ Call name → IsAmong (last_parts (kind_at P n)) v ⊎ (IsAmong (other_parts (kind_at P n)) v ⊎ ((callee : ℕ) × (kind_at P n ≡ Call callee) × (v ≡ N + callee))) → Leads f v k → Leads f (N + name) k
            only_name k v kind (inl j) h = absurd (subst (λ z. IsAmong (last_parts z) v) kind j)
            only_name k v kind (inr (inl j)) h = absurd (subst (λ z. IsAmong (other_parts z) v) kind j)
            only_name k v kind (inr (inr (callee, e, q))) h = let both : Call callee ≡ Call name = sym e ∙ kind in let same : callee ≡ name = cc in subst (λ z. Leads f z k) (q ∙ ap (λ z. N + z) same) h

    -- the flags have all that is apart
    pub flagged : (apart : List Bool) → HasApart P marks 0 apart → {n : ℕ} → IsApart P marks n → get_or apart n false ≡ true
    flagged apart h (by_other k {m = m} i e) = h.by_other k m (omega arith) i e
    flagged apart h (by_last k {m = m} a i e) = h.by_last k m (omega arith) (flagged apart h a) i e
